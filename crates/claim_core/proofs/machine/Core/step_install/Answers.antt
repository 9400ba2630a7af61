-- The journal gains the install, the version is held, and the claim ends with its pin.
use Rattle.std.proofs.Common.{◌≡◌, ◌∙◌, ◌+◌, ◌++◌, ◌-◌, ◌∷◌, [], ap, arith, length, refl, subst}
use Rattle.std.proofs.Common.{sym, ℕ}
use Rattle.std.specs.Prelude.{vec_capacity, vec_len}
use Rattle.std.proofs.lemmas.List.{length_push}
use Rattle.std.proofs.lemmas.Option.{same_Some}
use Rattle.raw_load.specs.Books.{deliveries_of}
use Rattle.machine_meaning.specs.declared.claim.Claim.{Claim}
use Rattle.machine_meaning.specs.Events.{Installs}
use Rattle.machine_meaning.specs.States.{IsGoodClaim}
use Rattle.claim_core.specs.Cores.{CoreOf, Steps, core_of}
use Rattle.claim_core.specs.declared.step.Step.TheVariants.{Install}
use Rattle.claim_core.specs.JournalView.{entries_of}
use Rattle.claim_core.proofs.EndLemmas.{IsGoodClaim-at, IsSome-claimed}
use Rattle.claim_core.proofs.InstallLemmas.{IsInstall, IsSound-install, Steps-install, install_of}
use Rattle.claim_core.proofs.InstallLemmas.{is_raw-claimed, newer-claimed, walked-claimed}
use Rattle.claim_core.proofs.JournalViewLemmas.{entries_of-install}
use Rattle.claim_core.proofs.machine.Core.step_install.Goals as goal

pub note_install-requires-clause-part : goal.note_install-requires-clause-part
note_install-requires-clause-part c =
    (IsGoodClaim-at _ _ c.args.id c.claim-claim.result c.self.invariant.good
    (rw (← c.self.view_is) at c.claim-claim.ensures.exact)).may.part

pub note_install-requires-clause-view : goal.note_install-requires-clause-view
note_install-requires-clause-view c =
    is_raw-claimed _ _ c.claim-claim.result
    (IsGoodClaim-at _ _ c.args.id c.claim-claim.result c.self.invariant.good
    (rw (← c.self.view_is) at c.claim-claim.ensures.exact))

pub note_install-requires-clause-past : goal.note_install-requires-clause-past
note_install-requires-clause-past c =
    rw c.self.invariant.stale.entries
    (IsGoodClaim-at _ _ c.args.id c.claim-claim.result c.self.invariant.good
    (rw (← c.self.view_is) at c.claim-claim.ensures.exact)).may.past

pub add-requires-clause-newer : goal.add-requires-clause-newer
add-requires-clause-newer c =
    let found = rw (← c.self.view_is) at c.claim-claim.ensures.exact in
    let room = rw (← c.self.view_is) at c.requires.room in
    newer-claimed _ _ c.claim-claim.result c.version-version.result c.self.invariant.good
    (IsGoodClaim-at _ _ c.args.id c.claim-claim.result c.self.invariant.good found)
    (c.version-version.ensures.exact _ _
    (c.note_install.ensures.exact _ (walked-claimed _ c.args.id c.claim-claim.result found room)
    c.self.invariant.stale))

pub unpin-requires : goal.unpin-requires
unpin-requires c = record {
  there = IsSome-claimed _ _ c.args.id c.self.invariant.good
      (rw (← c.self.view_is) at c.requires.claim);
}

-- the core before, and after
abbrev old_core : goal.In-Ok → CoreOf
old_core c = core_of c.self.inside.served.desc c.self.inside.raw c.self.inside.marks
    c.self.inside.stale c.self.inside.pins.pins c.self.inside.kept c.self.inside.claims.items
    c.self.inside.order.items (vec_capacity c.self.inside.order - vec_len c.self.inside.order)

abbrev new_core : goal.In-Ok → CoreOf
new_core c = core_of c.self.inside.served.desc c.self.inside.raw c.self.inside.marks
    c.note_install.new.self c.unpin.new.self.pins c.add.new.self c.end_claim.new.claims.items
    (c.self.inside.order.items
    ++ Install c.claim-claim.result.key c.claim-claim.result.at ∷ [])
    (vec_capacity c.push.new.self - vec_len c.push.new.self)

-- the claim may be installed
good_claim : (c : goal.In-Ok)
    → IsGoodClaim (old_core c).desc (old_core c).state c.claim-claim.result
good_claim c =
    IsGoodClaim-at (old_core c).desc (old_core c).state c.args.id c.claim-claim.result
    c.self.invariant.good (rw (← c.self.view_is) at c.claim-claim.ensures.exact)

-- the calls installed its partition
installs : (c : goal.In-Ok) → IsInstall (old_core c) (new_core c) c.args.id c.claim-claim.result
    c.version-version.result (c.len-entry.result + 1)
installs c =
    let found = rw (← c.self.view_is) at c.claim-claim.ensures.exact in
    let room = rw (← c.self.view_is) at c.requires.room in
    let place : c.len-entry.result ≡ length (old_core c).state.journal =
    rw (← c.self.view_is) at c.len-entry.ensures.exact in
    let tells = c.note_install.ensures.exact _
    (walked-claimed _ c.args.id c.claim-claim.result found room) c.self.invariant.stale in
    record {
      found = found;
      desc = refl;
      told = refl;
      marks = refl;
      journal = entries_of-install c.self.inside.order.items
          (deliveries_of c.self.inside.raw.told) c.claim-claim.result.key
          c.claim-claim.result.at c.self.invariant.loads.loads;
      claims = c.end_claim.ensures.exact;
      pins = c.unpin.ensures.exact;
      stale = tells;
      number = c.version-version.ensures.exact _ _ tells;
      place = ap (λ (place : ℕ). place + 1) place;
      held = record { entries = c.add.ensures.entry; newest = c.add.ensures.newest };
    }

pub invariant_of-self : goal.invariant_of-self
invariant_of-self c =
    rw c.in-Ok.ensures.items
    (IsSound-install (old_core c) (new_core c) c.self.inside.order.items c.args.id
    c.claim-claim.result c.version-version.result (c.len-entry.result + 1) (good_claim c)
    (installs c) c.self.invariant)

pub returns-clause-step : goal.returns-clause-step
returns-clause-step c = λ claim found.
    rw (← c.self.view_is, c.in-Ok.ensures.items)
    (subst (λ (claim : Claim). Steps (old_core c) (Installs claim.who c.args.id) (new_core c))
    (same_Some c.claim-claim.result claim (sym c.claim-claim.ensures.exact ∙ found))
    (Steps-install (old_core c) (new_core c) c.args.id c.claim-claim.result
    c.version-version.result (c.len-entry.result + 1) c.self.invariant.good (good_claim c)
    (installs c)))

pub returns-clause-entry : goal.returns-clause-entry
returns-clause-entry c =
    let journal = entries_of c.self.inside.order.items (deliveries_of c.self.inside.raw.told) in
    let place : c.len-entry.result ≡ length journal =
    rw (← c.self.view_is) at c.len-entry.ensures.exact in
    rw (
      c.in-Ok.ensures.items,
      entries_of-install c.self.inside.order.items (deliveries_of c.self.inside.raw.told)
          c.claim-claim.result.key c.claim-claim.result.at c.self.invariant.loads.loads,
    )
    (omega (arith, place, length_push journal (install_of c.claim-claim.result)))
