use Rattle.view_meaning.proofs.MarkLemmas.{stable_closed}
use Rattle.view_meaning.proofs.laws.closed_is_stable.Goals as goal

pub returns : goal.returns
returns c = record { law = stable_closed }
