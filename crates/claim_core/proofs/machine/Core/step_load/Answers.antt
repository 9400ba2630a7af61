-- A load adds a step and a delivery.
use Rattle.std.proofs.Common.{◌≡◌, ◌∙◌, ◌+◌, ◌-◌, ℕ, ap, length, refl, subst, sym}
use Rattle.std.specs.Vec.{vec_capacity, vec_len}
use Rattle.view_meaning.specs.Journal.{accepted}
use Rattle.raw_load.specs.Books.{deliveries_of}
use Rattle.claim_core.specs.Cores.{CoreOf, IsSound, core_of}
use Rattle.claim_core.specs.JournalView.{entries_of}
use Rattle.claim_core.proofs.JournalViewLemmas.{deliveries_of-load, entries_of-load}
use Rattle.claim_core.proofs.JournalViewLemmas.{length-entries_of}
use Rattle.claim_core.proofs.LoadingLemmas.{AddsLoad, IsSound-load, Steps-load, loaded-prepared}
use Rattle.claim_core.proofs.SoundLemmas.{deliveries_of-accepted}
use Rattle.claim_core.proofs.machine.Core.step_load.Goals as goal

-- the core after the load
abbrev loaded_core : goal.In-Ok → CoreOf
loaded_core c = core_of c.self.inside.served.desc c.commit-counts.new.self c.note.new.self
    c.note_load.new.self c.self.inside.pins.pins c.self.inside.kept c.self.inside.claims.items
    c.push.new.self.items (vec_capacity c.push.new.self - vec_len c.push.new.self)

-- the delivery was added
adds : (c : goal.In-Ok)
    → AddsLoad c.args.self.now (loaded_core c) c.args.prepared (c.len-entry.result + 1)
adds c = record {
  desc = rw (← c.self.view_is) refl;
  state = rw (
    ← c.self.view_is,
    c.in-Ok.ensures.items,
    deliveries_of-load c.self.inside.raw.told c.commit-counts.new.self.told _
        c.args.prepared.delivery c.commit-counts.ensures.loads,
    entries_of-load c.self.inside.order.items (deliveries_of c.self.inside.raw.told)
        c.args.prepared.delivery c.self.invariant.loads.loads,
  ) refl;
  loads = rw (← c.self.view_is) c.commit-counts.ensures.loads;
  raw = rw (← c.self.view_is) c.commit-counts.ensures.tells;
  marks = rw (← c.self.view_is, ← c.delivery.ensures.exact, ← c.aside.ensures.exact)
      c.note.ensures.exact;
  stale = rw (← c.self.view_is, ← c.touched.ensures.exact) c.note_load.ensures.exact;
}

-- its place is after all steps
place_is : (c : goal.In-Ok) → c.len-entry.result + 1 ≡ length c.self.inside.order.items + 1
place_is c =
    let place : c.len-entry.result ≡ length (entries_of c.self.inside.order.items
    (deliveries_of c.self.inside.raw.told)) = rw (← c.self.view_is) at c.len-entry.ensures.exact in
    ap (λ (place : ℕ). place + 1) (place ∙ length-entries_of c.self.inside.order.items
    (deliveries_of c.self.inside.raw.told) c.self.invariant.loads.loads)

-- the core is sound before
sound : (c : goal.In-Ok) → IsSound c.args.self.now c.self.inside.order.items
sound c = rw (← c.self.view_is) c.self.invariant

-- and its deliveries are the accepted ones
told : (c : goal.In-Ok)
    → deliveries_of c.args.self.now.raw.told ≡ accepted c.args.self.now.state.journal
told c = deliveries_of-accepted _ c.args.self.now c.self.inside.order.items c.self.view_is
    c.self.invariant.loads refl

pub invariant_of-self : goal.invariant_of-self
invariant_of-self c =
    subst (IsSound (loaded_core c)) (sym c.in-Ok.ensures.items)
    (IsSound-load c.args.self.now (loaded_core c) c.self.inside.order.items c.args.prepared
    (c.len-entry.result + 1) (told c) (sound c) c.requires.ready (adds c) (place_is c))

pub returns-clause-step : goal.returns-clause-step
returns-clause-step c =
    Steps-load c.args.self.now (loaded_core c) c.self.inside.order.items c.args.prepared
    (c.len-entry.result + 1) (told c) (sound c) c.requires.ready (adds c)

pub returns-clause-exact : goal.returns-clause-exact
returns-clause-exact c =
    loaded-prepared c.args.self.now.desc c.args.self.now.state.journal
    (deliveries_of c.args.self.now.raw.told) c.args.prepared _ (told c)
    c.requires.ready.raw.tells (rw c.len-entry.ensures.exact refl)
    (rw c.commit-counts.ensures.exact refl) (rw c.commit-counts.ensures.exact refl)
