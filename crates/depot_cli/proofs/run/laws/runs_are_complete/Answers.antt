use Rattle.depot_cli.proofs.CompleteLemmas.{IsRun-complete}
use Rattle.depot_cli.proofs.run.laws.runs_are_complete.Goals as goal

pub returns : goal.returns
returns c = record { law = IsRun-complete }
