-- Without memory for the journal nothing is put; otherwise it serves the description.
use Rattle.std.proofs.Common.{IfSome, subst}
use Rattle.desc_types.specs.Descriptions.{DescOf}
use Rattle.depot_cli.specs.Reading.{Serving, session}
use Rattle.depot_cli.specs.Runs.{IsRun}
use Rattle.depot_cli.proofs.RunLemmas.{IsRun-unserved}
use Rattle.depot_cli.proofs.run.session.serve.Goals as goal

pub returns-in-Err-clause-run : goal.returns-in-Err-clause-run
returns-in-Err-clause-run g c =
    IsRun-unserved c.args.served.desc c.args.base (g.O.Sink.bytes_got c.args.sink.now)
    (g.S.Source.bytes_left c.args.reader.now.source) _ _

pub returns-clause-run : goal.returns-clause-run
returns-clause-run g c =
    subst (λ (desc : DescOf). IfSome (g.S.Source.bytes_left c.args.reader.now.source) (λ input.
    IsRun (Serving desc (session desc c.args.base input)) (g.O.Sink.bytes_got c.args.sink.now)
    (g.O.Sink.bytes_got c.serve_items-status.new.sink)
    (g.S.Source.bytes_left c.serve_items-status.new.reader.source)
    (g.O.Sink.room c.args.sink.now) c.serve_items-status.result))
    c.in-Ok.ensures.kept.served c.serve_items-status.ensures.run
