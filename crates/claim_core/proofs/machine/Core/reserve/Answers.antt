-- Each call makes its room, and leaves what is told.
use Rattle.std.proofs.Common.{refl}
use Rattle.raw_load.specs.Books.{deliveries_of}
use Rattle.claim_core.proofs.LoadingLemmas.{touched-parts}
use Rattle.claim_core.proofs.SoundLemmas.{IsSound-room, SameCore-state}
use Rattle.claim_core.proofs.machine.Core.reserve.Goals as goal

pub reserve_load-requires : goal.reserve_load-requires
reserve_load-requires c = record {
  parts = rw (c.touched.ensures.exact)
      (touched-parts c.self.inside.served.desc (deliveries_of c.self.inside.raw.told)
      c.args.prepared.now (rw (← c.self.view_is) at c.requires.prepared.tells));
}

pub invariant_of-self-in_err-reserve_load : goal.invariant_of-self-in_err-reserve_load
invariant_of-self-in_err-reserve_load c =
    rw c.reserve.ensures.items
    (IsSound-room _ _ c.self.inside.order.items c.self.invariant (SameCore-state _ _ refl refl) refl
    (λ desc all tells. tells) c.reserve_load.ensures.kept)

pub invariant_of-self-2 : goal.invariant_of-self-2
invariant_of-self-2 c =
    rw c.reserve.ensures.items
    (IsSound-room _ _ c.self.inside.order.items c.self.invariant (SameCore-state _ _ refl refl) refl
    c.reserve-2.ensures.kept c.reserve_load.ensures.kept)
