use Rattle.view_meaning.proofs.RawMarkLemmas.{closing_places}
use Rattle.view_meaning.proofs.laws.closing_places_are_least.Goals as goal

pub returns : goal.returns
returns c = record { law = closing_places }
