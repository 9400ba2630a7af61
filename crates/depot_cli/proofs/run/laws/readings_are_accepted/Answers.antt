use Rattle.depot_cli.proofs.AcceptedLemmas.{IsAccepted-reading}
use Rattle.depot_cli.proofs.run.laws.readings_are_accepted.Goals as goal

pub returns : goal.returns
returns c = record { law = IsAccepted-reading }
