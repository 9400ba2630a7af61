-- The install of a claim's partition: what the claim says of it, and that the core stays sound.
use Rattle.std.proofs.Common.{◌≡◌, ◌∙◌, ◌<◌, ◌+◌, ◌++◌, ◌∷◌, List, Some, [], ap, arith, refl, subst}
use Rattle.std.proofs.Common.{sym, take, ℕ}
use Rattle.std.specs.Prelude.{IfSome, Option, false, length, slice_get}
use Rattle.std.proofs.lemmas.List.{append-nil}
use Rattle.desc_types.specs.Deliveries.{DeliveryOf}
use Rattle.desc_types.specs.Descriptions.{DescOf}
use Rattle.desc_types.specs.declared.table.Key.{Key}
use Rattle.view_meaning.specs.declared.journal.Entry.{Entry}
use Rattle.view_meaning.specs.declared.journal.Entry.TheVariants as entry
use Rattle.view_meaning.specs.Journal.{accepted}
use Rattle.view_meaning.specs.Versions.{is_raw, version}
use Rattle.view_meaning.proofs.AmongLemmas.{is_key-itself}
use Rattle.view_meaning.proofs.JournalLemmas.{accepted-append}
use Rattle.view_meaning.proofs.LegalLemmas.{is_raw-stale}
use Rattle.depot_marks.specs.MarkBooks.{TellsMarks}
use Rattle.query_pin.specs.Kept.{KeptListOf, newest_in}
use Rattle.query_pin.specs.Pins.{without_pin}
use Rattle.raw_load.specs.Books.{deliveries_of}
use Rattle.stale_test.specs.Books.{IsReadyFor, TellsStale}
use Rattle.machine_meaning.specs.declared.claim.Claim.{Claim}
use Rattle.machine_meaning.specs.Events.{HoldsAlso, Installs, claim_at, installed, made}
use Rattle.machine_meaning.specs.Events.{other_claims, with_entry}
use Rattle.machine_meaning.specs.States.{IsGood, IsGoodClaim, State}
use Rattle.machine_meaning.proofs.ClaimLemmas.{claim_at-id}
use Rattle.machine_meaning.proofs.EntryLemmas.{version-Install}
use Rattle.claim_core.specs.Cores.{CoreOf, HasInstallRoom, IsSound, Steps}
use Rattle.claim_core.specs.declared.step.Step.{Step as StepOf}
use Rattle.claim_core.specs.declared.step.Step.TheVariants.{Install}
use Rattle.claim_core.proofs.JournalViewLemmas.{AreSteps-install}
use Rattle.claim_core.proofs.PlaceLemmas.{placed-install}
use Rattle.claim_core.proofs.SoundLemmas.{Steps-from}

-- the partition of a good claim is of a view
pub is_raw-claimed : (desc : DescOf) (state : State) (claim : Claim) → IsGoodClaim desc state claim
    → is_raw (slice_get desc.tables claim.key.table) ≡ false
is_raw-claimed desc state claim is =
    is_raw-stale desc (take claim.at state.journal) claim.key is.may.stale

-- the install of a claim's partition as an entry
abbrev pub install_of : Claim → Entry
install_of claim = entry.Install claim.key claim.at

-- its install makes the next version
pub version-claimed : (desc : DescOf) (state : State) (claim : Claim)
    → IsGoodClaim desc state claim
    → version desc (with_entry state.journal (install_of claim)) claim.key
    ≡ version desc state.journal claim.key + 1
version-claimed desc state claim is =
    version-Install desc state.journal (install_of claim) claim.key
    (is_raw-claimed desc state claim is) (is_key-itself claim.key)

-- which is newer than what is held
pub newer-claimed : (desc : DescOf) (state : State) (claim : Claim) (next : ℕ)
    → IsGood desc state → IsGoodClaim desc state claim
    → next ≡ version desc (with_entry state.journal (install_of claim)) claim.key
    → newest_in state.held claim.key < next
newer-claimed desc state claim next good is made =
    omega (
      arith,
      made,
      version-claimed desc state claim is,
      good.held.newest claim.key (is_raw-claimed desc state claim is),
    )

-- one version more is held, under any names of its number and its entry
pub HoldsAlso-same : (old new : KeptListOf) (key : Key) (number next entry last : ℕ)
    → number ≡ next → entry ≡ last
    → HoldsAlso old new (record { key = key; version = number }) entry
    → HoldsAlso old new (record { key = key; version = next }) last
HoldsAlso-same old new key number next entry last same_number same_entry holds =
    subst (HoldsAlso old new (record { key = key; version = next })) same_entry
    (subst (λ (number : ℕ). HoldsAlso old new (record { key = key; version = number }) entry)
    same_number holds)

-- the room that was made is for the partition of the claim
pub walked-claimed : (core : CoreOf) (id : ℕ) (claim : Claim)
    → claim_at id core.state.claims ≡ Some claim → HasInstallRoom id core
    → IsReadyFor core.desc (claim.key ∷ []) core.stale
walked-claimed core id claim found room =
    subst (λ (found : Option Claim). IfSome found
    (λ claim. IsReadyFor core.desc (claim.key ∷ []) core.stale)) found room.walked

-- what the install of a claim's partition changed of a core
pub record IsInstall (old new : CoreOf) (id : ℕ) (claim : Claim) (next entry : ℕ) : Type 0 where
  pub found : claim_at id old.state.claims ≡ Some claim
  pub desc : new.desc ≡ old.desc
  pub told : new.raw.told ≡ old.raw.told
  pub marks : new.marks ≡ old.marks
  pub journal : new.state.journal ≡ with_entry old.state.journal (install_of claim)
  pub claims : new.state.claims ≡ other_claims id old.state.claims
  pub pins : new.state.pins ≡ without_pin id old.state.pins
  pub stale : TellsStale old.desc (with_entry old.state.journal (install_of claim)) new.stale
  pub number : next ≡ version old.desc (with_entry old.state.journal (install_of claim)) claim.key
  pub place : entry ≡ length old.state.journal + 1
  pub held : HoldsAlso old.state.held new.state.held
      (record { key = claim.key; version = next }) entry

-- so the claim has ended and its partition is installed
state-installed : (old new : CoreOf) (id : ℕ) (claim : Claim) (next entry : ℕ)
    → IsInstall old new id claim next entry
    → new.state ≡ installed old.state claim new.state.held
state-installed old new id claim next entry is =
    let same : id ≡ claim.id = sym (claim_at-id id old.state.claims claim is.found) in
    λ i. record {
      journal = is.journal i;
      claims = (is.claims ∙ ap (λ (id : ℕ). other_claims id old.state.claims) same) i;
      pins = (is.pins ∙ ap (λ (id : ℕ). without_pin id old.state.pins) same) i;
      held = new.state.held;
    }

-- that is an event, which leads to a good state
pub Steps-install : (old new : CoreOf) (id : ℕ) (claim : Claim) (next entry : ℕ)
    → IsGood old.desc old.state → IsGoodClaim old.desc old.state claim
    → IsInstall old new id claim next entry → Steps old (Installs claim.who id) new
Steps-install old new id claim next entry good good_claim is =
    Steps-from old new (Installs claim.who id) is.desc good (
      claim,
      record { found = is.found; own = refl },
      HoldsAlso-same old.state.held new.state.held claim.key next
          (version old.desc old.state.journal claim.key + 1) entry (length old.state.journal + 1)
          (is.number ∙ version-claimed old.desc old.state claim good_claim) is.place is.held,
      state-installed old new id claim next entry is,
    )

-- an install accepts no delivery
accepted-install : (journal : List Entry) (claim : Claim)
    → accepted (with_entry journal (install_of claim)) ≡ accepted journal
accepted-install journal claim =
    accepted-append journal (install_of claim ∷ []) ∙ append-nil (accepted journal)

-- the event leads to a sound core
pub IsSound-install : (old new : CoreOf) (steps : List StepOf) (id : ℕ) (claim : Claim)
    (next entry : ℕ) → IsGoodClaim old.desc old.state claim
    → IsInstall old new id claim next entry → IsSound old steps
    → IsSound new (steps ++ Install claim.key claim.at ∷ [])
IsSound-install old new steps id claim next entry good_claim is sound = record {
  loads = rw is.told
      (AreSteps-install steps (deliveries_of old.raw.told) claim.key claim.at sound.loads);
  placed = rw is.told
      (placed-install steps old.raw.told.loads claim.key claim.at sound.placed);
  good = (Steps-install old new id claim next entry sound.good good_claim is).good;
  raw = rw (is.desc, is.told) sound.raw;
  marks = rw (is.desc, is.marks, is.journal)
      (subst (λ (all : List DeliveryOf). TellsMarks old.desc all old.marks)
      (sym (accepted-install old.state.journal claim)) sound.marks);
  stale = rw (is.desc, is.journal) is.stale;
}
