use Rattle.view_meaning.proofs.MarkLemmas.{marks_rise}
use Rattle.view_meaning.proofs.laws.marks_rise.Goals as goal

pub returns : goal.returns
returns c = record { law = marks_rise }
