use Rattle.view_meaning.proofs.ClosedLemmas.{shut_closed}
use Rattle.view_meaning.proofs.laws.closed_is_shut.Goals as goal

pub returns : goal.returns
returns c = record { law = shut_closed }
