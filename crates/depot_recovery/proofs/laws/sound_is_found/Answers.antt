use Rattle.depot_recovery.proofs.FoundLemmas.{HoldsSound-found}
use Rattle.depot_recovery.proofs.laws.sound_is_found.Goals as goal

pub returns : goal.returns
returns c = record {
  law = λ depot image found sound is. HoldsSound-found c.files_are_read_again.ensures.law
      c.what_is_held_is_found.ensures.law depot image found sound is;
}
