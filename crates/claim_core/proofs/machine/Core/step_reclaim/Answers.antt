-- One version is held no more, and all else stays.
use Rattle.std.proofs.Common.{refl}
use Rattle.query_pin.specs.Held.{version_of}
use Rattle.machine_meaning.specs.Events.{Reclaims}
use Rattle.claim_core.proofs.SoundLemmas.{IsSound-event, Steps-from}
use Rattle.claim_core.proofs.machine.Core.step_reclaim.Goals as goal

pub invariant_of-self : goal.invariant_of-self
invariant_of-self c =
    IsSound-event _ _ _ (Reclaims (version_of c.args.dead)) c.self.invariant
    (record { desc = refl; journal = refl; told = refl; marks = refl; stale = refl }) (
      rw (← c.self.view_is) at c.requires.dead,
      record { entries = c.remove.ensures.entry; newest = c.remove.ensures.newest },
      refl,
    )

pub returns : goal.returns
returns c = record {
  step = rw (← c.self.view_is)
      (Steps-from _ _ (Reclaims (version_of c.args.dead)) refl c.self.invariant.good (
        rw (← c.self.view_is) at c.requires.dead,
        record { entries = c.remove.ensures.entry; newest = c.remove.ensures.newest },
        refl,
      ));
}
