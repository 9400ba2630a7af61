use Rattle.std.proofs.Common.{ℕ, ◌∙◌, [], ap, sym}
use Rattle.turn_lock.specs.declared.known.Known.{Known}
use Rattle.turn_tests.proofs.PassLemmas.{MayLeave-adds, TakesTurns-left}
use Rattle.turn_tests.proofs.callers.finish_one.Goals as goal

pub leave-requires-clause-may : goal.leave-requires-clause-may
leave-requires-clause-may g c = MayLeave-adds [] 0 _ _ _ _ c.enter-held.ensures.found
    (c.number-by.ensures.exact
    ∙ sym (ap (λ (known : Known ℕ ℕ ℕ). known.number) c.enter-held.ensures.told))
    c.finish.ensures.adds

pub returns-clause-told : goal.returns-clause-told
returns-clause-told g c = TakesTurns-left [] 0 _ _ _ _ _ _ c.number-by.ensures.exact
    c.enter-held.ensures.told c.enter-held.ensures.tells c.finish.ensures.adds c.leave.ensures.told
