use Rattle.view_meaning.proofs.DrainLemmas.{is_settled-drained}
use Rattle.view_meaning.proofs.laws.drains_settle.Goals as goal

pub returns : goal.returns
returns c = record {
  law = λ desc journal key earlier legal part.
      is_settled-drained desc journal earlier legal key part;
}
