-- One pin more is there, of what the request is shown, and all else stays.
use Rattle.std.proofs.Common.{◌∙◌, ap, map, refl}
use Rattle.machine_meaning.specs.Events.{Pins}
use Rattle.claim_core.specs.Cores.{version_shown}
use Rattle.claim_core.proofs.OwnLemmas.{IsPinOf-made}
use Rattle.claim_core.proofs.PinningLemmas.{Step-pins}
use Rattle.claim_core.proofs.SoundLemmas.{IsSound-event, Steps-from}
use Rattle.claim_core.proofs.machine.Core.step_pin.Goals as goal

pub invariant_of-self-2 : goal.invariant_of-self-2
invariant_of-self-2 c =
    IsSound-event _ _ _ (Pins c.args.who c.args.request.now) c.self.invariant
    (record { desc = refl; journal = refl; told = refl; marks = refl; stale = refl })
    (Step-pins _ _ c.args.who c.free_id-id.result c.args.request.now _ _ _
    c.free_id-id.ensures.exact (rw (← c.self.view_is) at c.in_ok-items.ensures.exact)
    (c.in_ok-versions.ensures.exact ∙ ap (map version_shown) c.deref.ensures.value)
    c.in_ok-pin.ensures.ok)

pub returns-clause-ok : goal.returns-clause-ok
returns-clause-ok c =
    rw (← c.self.view_is)
    (Steps-from _ _ (Pins c.args.who c.args.request.now) refl c.self.invariant.good
    (Step-pins _ _ c.args.who c.free_id-id.result c.args.request.now _ _ _
    c.free_id-id.ensures.exact (rw (← c.self.view_is) at c.in_ok-items.ensures.exact)
    (c.in_ok-versions.ensures.exact ∙ ap (map version_shown) c.deref.ensures.value)
    c.in_ok-pin.ensures.ok))

pub returns-clause-own : goal.returns-clause-own
returns-clause-own c =
    IsPinOf-made _ _ c.args.who c.free_id-id.result _ _ c.self.invariant.good
    c.free_id-id.ensures.exact c.in_ok-pin.ensures.ok
