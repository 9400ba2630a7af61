use Rattle.view_meaning.proofs.FitLemmas.{FitsJournal-drained}
use Rattle.view_meaning.proofs.laws.drains_fit.Goals as goal

pub returns : goal.returns
returns c = record { law = FitsJournal-drained }
