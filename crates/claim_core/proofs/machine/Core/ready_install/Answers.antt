-- Each call makes its room, and leaves what is told.
use Rattle.std.proofs.Common.{refl}
use Rattle.claim_core.proofs.EndLemmas.{IsGoodClaim-at}
use Rattle.claim_core.proofs.InstallLemmas.{is_raw-claimed}
use Rattle.claim_core.proofs.SoundLemmas.{IsSound-room, SameCore-held, SameKept-itself}
use Rattle.claim_core.proofs.machine.Core.ready_install.Goals as goal

pub reserve_install-requires-clause-part : goal.reserve_install-requires-clause-part
reserve_install-requires-clause-part c =
    (IsGoodClaim-at _ _ c.args.id c.claim.result c.self.invariant.good
    (rw (← c.self.view_is) at c.claim.ensures.exact)).may.part

pub reserve_install-requires-clause-view : goal.reserve_install-requires-clause-view
reserve_install-requires-clause-view c =
    is_raw-claimed _ _ c.claim.result
    (IsGoodClaim-at _ _ c.args.id c.claim.result c.self.invariant.good
    (rw (← c.self.view_is) at c.claim.ensures.exact))

pub invariant_of-self-in_err-reserve_install : goal.invariant_of-self-in_err-reserve_install
invariant_of-self-in_err-reserve_install c =
    rw c.reserve.ensures.items
    (IsSound-room _ _ _ c.self.invariant
    (SameCore-held _ _ refl refl (SameKept-itself c.self.inside.kept))
    refl (λ desc accepted tells. tells) c.reserve_install.ensures.kept)

pub invariant_of-self-2 : goal.invariant_of-self-2
invariant_of-self-2 c =
    rw c.reserve.ensures.items
    (IsSound-room _ _ _ c.self.invariant
    (SameCore-held _ _ refl refl c.reserve-2.ensures.kept)
    refl (λ desc accepted tells. tells) c.reserve_install.ensures.kept)
