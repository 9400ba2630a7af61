-- The claim stands with its place, and what it reads is pinned.
use Rattle.std.proofs.Common.{◌-◌, ◌∙◌, refl}
use Rattle.std.specs.Prelude.{vec_capacity, vec_len}
use Rattle.machine_meaning.specs.Events.{Claims}
use Rattle.claim_core.specs.Cores.{CoreOf, core_of}
use Rattle.claim_core.proofs.ClaimingLemmas.{IsClaimMade, Step-Claims}
use Rattle.claim_core.proofs.OwnLemmas.{IsClaimOf-made}
use Rattle.claim_core.proofs.SoundLemmas.{IsSound-event, Steps-from}
use Rattle.claim_core.proofs.machine.Core.step_claim.Goals as goal

-- the core before, and after
abbrev old_core : goal.In-Ok → CoreOf
old_core c = core_of c.self.inside.served.desc c.self.inside.raw c.self.inside.marks
    c.self.inside.stale c.self.inside.pins.pins c.self.inside.kept c.self.inside.claims.items
    c.self.inside.order.items (vec_capacity c.self.inside.order - vec_len c.self.inside.order)

abbrev new_core : goal.In-Ok → CoreOf
new_core c = core_of c.self.inside.served.desc c.self.inside.raw c.self.inside.marks
    c.self.inside.stale c.pin.new.self.pins c.self.inside.kept c.push.new.self.items
    c.self.inside.order.items (vec_capacity c.self.inside.order - vec_len c.self.inside.order)

-- the calls made the claim
claims : (c : goal.In-Ok) → IsClaimMade (old_core c).desc (old_core c).state (new_core c).state
    (record {
      who = c.args.who;
      id = c.free_id-id.result;
      key = c.args.key;
      at = c.len-at.result;
    })
    c.in_ok-kept.kept.items
claims c =
    record {
      ready = rw (← c.self.view_is) at c.if-not-is_ready.ensures.exact;
      least = c.free_id-id.ensures.exact;
      place = rw (← c.self.view_is) at c.len-at.ensures.exact;
      reads = c.in_ok-kept.ensures.exact ∙ c.deref.ensures.value
          ∙ (rw (← c.self.view_is) at c.in_ok-reads.ensures.inputs);
      journal = refl;
      claims = rw (c.in-Ok.ensures.items, c.reserve.ensures.items) refl;
      pins = c.in_ok-pin.ensures.ok;
      held = refl;
    }

pub invariant_of-self-2 : goal.invariant_of-self-2
invariant_of-self-2 c =
    IsSound-event (old_core c) (new_core c) c.self.inside.order.items
    (Claims c.args.who c.args.key) c.self.invariant
    record { desc = refl; journal = refl; told = refl; marks = refl; stale = refl }
    (Step-Claims (old_core c).desc (old_core c).state (new_core c).state _
    c.in_ok-kept.kept.items (claims c))

pub returns-clause-ok : goal.returns-clause-ok
returns-clause-ok c =
    rw (← c.self.view_is)
    (Steps-from (old_core c) (new_core c) (Claims c.args.who c.args.key) refl
    c.self.invariant.good
    (Step-Claims (old_core c).desc (old_core c).state (new_core c).state _
    c.in_ok-kept.kept.items (claims c)))

pub returns-clause-own : goal.returns-clause-own
returns-clause-own c =
    rw (← c.self.view_is)
    (IsClaimOf-made (old_core c).desc (old_core c).state (new_core c).state _
    c.in_ok-kept.kept.items c.self.invariant.good (claims c))
