-- Other words ask for nothing.
use Rattle.depot_cli.proofs.RunLemmas.{IsRun-usage}
use Rattle.depot_cli.proofs.run.run.Goals as goal

pub returns-else-is_trial-clause-run : goal.returns-else-is_trial-clause-run
returns-else-is_trial-clause-run g c =
    IsRun-usage (g.O.Sink.bytes_got c.args.sink.now) (g.S.Source.bytes_left c.args.source.now) _ _
