use Rattle.view_meaning.proofs.StabilityLemmas.{stable_settled}
use Rattle.view_meaning.proofs.laws.settled_is_stable.Goals as goal

pub returns : goal.returns
returns c = record { law = stable_settled }
