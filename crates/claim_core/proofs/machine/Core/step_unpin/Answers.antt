-- One pin is gone, and all else stays.
use Rattle.std.proofs.Common.{refl}
use Rattle.machine_meaning.specs.Events.{Unpins}
use Rattle.claim_core.proofs.PinningLemmas.{IsSomeAnd-who, some_pin}
use Rattle.claim_core.proofs.SoundLemmas.{IsSound-event, Steps-from}
use Rattle.claim_core.proofs.machine.Core.step_unpin.Goals as goal

pub invariant_of-self : goal.invariant_of-self
invariant_of-self c =
    let own = some_pin _ (rw (← c.self.view_is) at c.requires.pin) in
    IsSound-event _ _ _ (Unpins own.0.who c.args.id) c.self.invariant
    (record { desc = refl; journal = refl; told = refl; marks = refl; stale = refl }) (
      record {
        found = IsSomeAnd-who _ own.0 own.1;
        unclaimed = rw (← c.self.view_is) at c.requires.unclaimed;
      },
      rw c.unpin.ensures.exact refl,
    )

pub returns : goal.returns
returns c = record {
  step = rw (← c.self.view_is) (λ pin found.
      Steps-from _ _ (Unpins pin.who c.args.id) refl c.self.invariant.good (
        record {
          found = IsSomeAnd-who _ pin found;
          unclaimed = rw (← c.self.view_is) at c.requires.unclaimed;
        },
        rw c.unpin.ensures.exact refl,
      ));
}
