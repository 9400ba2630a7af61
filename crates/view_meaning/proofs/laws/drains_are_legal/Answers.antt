use Rattle.view_meaning.proofs.DrainLemmas.{IsLegal-drained}
use Rattle.view_meaning.proofs.laws.drains_are_legal.Goals as goal

pub returns : goal.returns
returns c = record { law = IsLegal-drained }
