use Rattle.view_meaning.proofs.MarkLemmas.{exact_marks}
use Rattle.view_meaning.proofs.laws.marks_are_exact.Goals as goal

pub returns : goal.returns
returns c = record { law = exact_marks }
