use Rattle.std.proofs.Common.{ℕ, ◌∙◌, ap, sym}
use Rattle.turn_lock.specs.declared.known.Known.{Known}
use Rattle.turn_tests.proofs.PassLemmas.{MayLeave-adds}
use Rattle.turn_tests.proofs.tests.add_twice.Goals as goal

pub leave-requires-clause-may : goal.leave-requires-clause-may
leave-requires-clause-may g c = MayLeave-adds _ 0 _ _ _ _ c.enter-held.ensures.found
    (c.number-by.ensures.exact
    ∙ sym (ap (λ (known : Known ℕ ℕ ℕ). known.number) c.enter-held.ensures.told))
    c.add.ensures.adds
