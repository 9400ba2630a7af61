use Rattle.view_meaning.proofs.RawMarkLemmas.{raw_marks_rise}
use Rattle.view_meaning.proofs.laws.raw_marks_rise.Goals as goal

pub returns : goal.returns
returns c = record { law = raw_marks_rise }
