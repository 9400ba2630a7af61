-- An install adds a step alone, and its version is held in place of the one before.
use Rattle.std.proofs.Common.{◌≡◌, ◌+◌, ◌-◌, ◌∙◌, List, ap, arith, refl, subst, sym}
use Rattle.std.proofs.Common.{take, ◌++◌, ◌∷◌, []}
use Rattle.std.specs.Vec.{vec_capacity, vec_len}
use Rattle.view_meaning.specs.declared.journal.Entry.{Entry}
use Rattle.view_meaning.proofs.LegalLemmas.{is_raw-stale}
use Rattle.raw_load.specs.Books.{deliveries_of}
use Rattle.machine_meaning.specs.Events.{found}
use Rattle.machine_meaning.specs.States.{State}
use Rattle.claim_core.specs.Cores.{CoreOf, HoldsInstead, IsFound, IsSound, core_of}
use Rattle.claim_core.specs.JournalView.{entries_of}
use Rattle.claim_core.specs.declared.step.Step.TheVariants.{Install}
use Rattle.claim_core.proofs.JournalViewLemmas.{entries_of-install}
use Rattle.claim_core.proofs.RestartLemmas.{IsFound-install, IsSound-restored, RestoresInstall}
use Rattle.claim_core.proofs.LatestLemmas.{HoldsInstead-made, made_entry, next_number}
use Rattle.claim_core.proofs.LatestLemmas.{with_install_at}
use Rattle.claim_core.proofs.SoundLemmas.{IsSound-room, SameCore-held, SameCore-state}
use Rattle.claim_core.proofs.machine.Core.restore_install.Goals as goal

pub invariant_of-self-in_err-reserve_install : goal.invariant_of-self-in_err-reserve_install
invariant_of-self-in_err-reserve_install c =
    rw c.reserve.ensures.items
    (IsSound-room _ _ c.self.inside.order.items c.self.invariant (SameCore-state _ _ refl refl) refl
    (λ desc all tells. tells) c.reserve_install.ensures.kept)

pub invariant_of-self-in_err-reserve-2 : goal.invariant_of-self-in_err-reserve-2
invariant_of-self-in_err-reserve-2 c =
    rw c.reserve.ensures.items
    (IsSound-room _ _ c.self.inside.order.items c.self.invariant
    (SameCore-held _ _ refl refl c.reserve-2.ensures.kept) refl
    (λ desc all tells. tells) c.reserve_install.ensures.kept)

pub note_install-requires-clause-past : goal.note_install-requires-clause-past
note_install-requires-clause-past c =
    let past = rw (← c.self.view_is) at c.requires.follows.past in
    omega (arith, past, (c.reserve_install.ensures.kept _ _ c.self.invariant.stale).entries)

pub note_install-requires-clause-few : goal.note_install-requires-clause-few
note_install-requires-clause-few c =
    let entry = rw (← c.self.view_is) at c.len-entry.ensures.exact in
    omega (
      arith,
      entry,
      c.len-entry.ensures.few,
      (c.reserve_install.ensures.kept _ _ c.self.invariant.stale).entries,
    )

pub hold_instead-requires-clause-next : goal.hold_instead-requires-clause-next
hold_instead-requires-clause-next c =
    let desc = c.self.inside.served.desc in
    let journal : List Entry =
    entries_of c.self.inside.order.items (deliveries_of c.self.inside.raw.told) in
    let stale = rw (← c.self.view_is) at c.requires.follows.stale in
    let view = is_raw-stale desc (take c.args.at journal) c.args.key stale in
    next_number desc journal c.args.key c.args.at c.version-version.result _ view
    (c.version-version.ensures.exact desc (with_install_at journal c.args.key c.args.at)
    (c.note_install.ensures.exact journal c.in_ok-reserve_install.ensures.ready
    (c.reserve_install.ensures.kept _ _ c.self.invariant.stale)))
    (c.reserve-2.ensures.kept.newest c.args.key
    ∙ c.self.invariant.good.held.newest c.args.key view)

-- the core after the install
abbrev restored : goal.In-Ok → CoreOf
restored c = core_of c.self.inside.served.desc c.self.inside.raw c.self.inside.marks
    c.note_install.new.self c.self.inside.pins.pins c.hold_instead.new.kept
    c.self.inside.claims.items c.push.new.self.items
    (vec_capacity c.push.new.self - vec_len c.push.new.self)

-- its journal is the one before with the install
journal_is : (c : goal.In-Ok)
    → entries_of c.push.new.self.items (deliveries_of c.self.inside.raw.told)
    ≡ with_install_at (entries_of c.self.inside.order.items (deliveries_of c.self.inside.raw.told))
    c.args.key c.args.at
journal_is c =
    rw (c.in-Ok.ensures.items, c.reserve.ensures.items)
    (entries_of-install c.self.inside.order.items (deliveries_of c.self.inside.raw.told)
    c.args.key c.args.at c.self.invariant.loads.loads)

-- the version that was noted is the next one, and is held in place of the one before
held_instead : (c : goal.In-Ok) → HoldsInstead c.self.inside.kept c.hold_instead.new.kept
    (made_entry c.self.inside.served.desc
    (entries_of c.self.inside.order.items (deliveries_of c.self.inside.raw.told)) c.args.key)
held_instead c =
    let desc = c.self.inside.served.desc in
    let journal : List Entry =
    entries_of c.self.inside.order.items (deliveries_of c.self.inside.raw.told) in
    let stale = rw (← c.self.view_is) at c.requires.follows.stale in
    let place = rw (← c.self.view_is) at c.len-entry.ensures.exact in
    HoldsInstead-made desc journal c.args.key c.args.at c.self.inside.kept c.reserve-2.new.self
    c.hold_instead.new.kept c.version-version.result (c.len-entry.result + 1)
    (is_raw-stale desc (take c.args.at journal) c.args.key stale) c.reserve-2.ensures.kept
    (c.version-version.ensures.exact desc (with_install_at journal c.args.key c.args.at)
    (c.note_install.ensures.exact journal c.in_ok-reserve_install.ensures.ready
    (c.reserve_install.ensures.kept _ _ c.self.invariant.stale)))
    (omega (arith, place)) c.hold_instead.ensures.exact

-- nothing is claimed or pinned
state_is : (c : goal.In-Ok) → (restored c).state
    ≡ found (with_install_at c.args.self.now.state.journal c.args.key c.args.at)
    (restored c).state.held
state_is c =
    let before = rw (← c.self.view_is) at c.requires.found.state in
    rw (← c.self.view_is) (λ i. record {
      journal = journal_is c i;
      claims = ap (λ (state : State). state.claims) before i;
      pins = ap (λ (state : State). state.pins) before i;
      held = c.hold_instead.new.kept;
    })

-- the install was restored
restores : (c : goal.In-Ok) → RestoresInstall c.args.self.now (restored c) c.args.key c.args.at
restores c = record {
  desc = rw (← c.self.view_is) refl;
  state = state_is c;
  held = rw (← c.self.view_is) (held_instead c);
  raw = rw (← c.self.view_is) refl;
  marks = rw (← c.self.view_is) refl;
  stale = rw (← c.self.view_is) (c.note_install.ensures.exact _
      c.in_ok-reserve_install.ensures.ready
      (c.reserve_install.ensures.kept _ _ c.self.invariant.stale));
}

-- so the core is found
is_found : (c : goal.In-Ok) → IsFound c.args.self.now.desc
    (with_install_at c.args.self.now.state.journal c.args.key c.args.at) (restored c)
is_found c =
    IsFound-install c.args.self.now (restored c) c.args.key c.args.at c.requires.found
    c.requires.fits c.requires.follows (restores c)

pub invariant_of-self-2 : goal.invariant_of-self-2
invariant_of-self-2 c =
    subst (IsSound (restored c)) (sym (c.in-Ok.ensures.items
    ∙ ap (λ steps. steps ++ Install c.args.key c.args.at ∷ []) c.reserve.ensures.items))
    (IsSound-restored c.args.self.now (restored c) c.self.inside.order.items c.args.key c.args.at
    (rw (← c.self.view_is) c.self.invariant) (is_found c) (restores c))

pub returns : goal.returns
returns c = record { ok = is_found c }
