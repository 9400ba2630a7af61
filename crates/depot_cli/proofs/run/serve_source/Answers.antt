-- Without memory for the reader nothing is put.
use Rattle.depot_cli.proofs.RunLemmas.{IsRun-unserved}
use Rattle.depot_cli.proofs.run.serve_source.Goals as goal

pub returns-in-Err-clause-run : goal.returns-in-Err-clause-run
returns-in-Err-clause-run g c =
    IsRun-unserved c.args.served.desc c.args.base (g.O.Sink.bytes_got c.args.sink.now)
    (g.S.Source.bytes_left c.args.source.now) _ _
