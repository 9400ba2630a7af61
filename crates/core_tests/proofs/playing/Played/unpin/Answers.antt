-- What a pin that ends leaves.
use Rattle.core_tests.proofs.PlayedLemmas.{IsPlayed-unpin}
use Rattle.core_tests.proofs.playing.Played.unpin.Goals as goal

pub invariant_of-self : goal.invariant_of-self
invariant_of-self c = IsPlayed-unpin c.self.inside.core c.step_unpin.new.self c.in-Some.id
    c.self.inside.lines.now c.self.inside.entries.items c.self.inside.pin
    (rw c.in-Some.is at c.self.invariant.last).found c.step_unpin.ensures.step c.self.invariant
