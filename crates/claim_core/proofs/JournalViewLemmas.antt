-- The entries of a journal whose steps and deliveries are kept apart.
use Rattle.std.proofs.Common.{◌≡◌, ℕ, zero, suc, ◌+◌, List, [], ◌∷◌, ◌++◌, length, length-append, refl}
use Rattle.std.proofs.Common.{ap, arith}
use Rattle.std.proofs.Common.{inl, inr, map, ◌∙◌}
use Rattle.std.specs.Prelude.{Option, None, Some, is_some, option_and_then, slice_get}
use Rattle.std.specs.List.{list_any}
use Rattle.std.proofs.lemmas.Bool.{cases_Bool}
use Rattle.std.proofs.lemmas.List.{map-append}
use Rattle.desc_types.specs.Deliveries.{DeliveryOf}
use Rattle.desc_types.specs.declared.table.Key.{Key}
use Rattle.view_meaning.specs.declared.journal.Entry.TheVariants as entry
use Rattle.view_meaning.specs.Journal.{accepted, is_same}
use Rattle.raw_load.specs.Books.{LoadOf, RawBookOf, deliveries_of, place_in}
use Rattle.claim_core.specs.declared.step.Step.{Step}
use Rattle.claim_core.specs.declared.step.Step.TheVariants.{Load, Install}
use Rattle.claim_core.specs.JournalView.{AreSteps, entries_of, installed_after, key_stepped, loads_in}

-- there is an entry for each step
pub length-entries_of : (steps : List Step) (deliveries : List DeliveryOf)
    → loads_in steps ≡ length deliveries
    → length (entries_of steps deliveries) ≡ length steps
length-entries_of [] deliveries loads = refl
length-entries_of (Load ∷ steps) [] loads = absurd (omega (arith, loads))
length-entries_of (Load ∷ steps) (delivery ∷ later) loads =
    ap suc (length-entries_of steps later (omega (arith, loads)))
length-entries_of (Install key at ∷ steps) deliveries loads =
    ap suc (length-entries_of steps deliveries loads)

-- the loads of steps and more are those of both
pub loads_in-append : (steps more : List Step)
    → loads_in (steps ++ more) ≡ loads_in steps + loads_in more
loads_in-append [] more = omega arith
loads_in-append (Load ∷ steps) more = omega (arith, loads_in-append steps more)
loads_in-append (Install key at ∷ steps) more = loads_in-append steps more

-- a load at the end is an entry at the end
pub entries_of-load : (steps : List Step) (deliveries : List DeliveryOf) (delivery : DeliveryOf)
    → loads_in steps ≡ length deliveries
    → entries_of (steps ++ Load ∷ []) (deliveries ++ delivery ∷ [])
    ≡ entries_of steps deliveries ++ entry.Load delivery ∷ []
entries_of-load [] [] delivery loads = refl
entries_of-load [] (first ∷ later) delivery loads = absurd (omega (arith, loads))
entries_of-load (Load ∷ steps) [] delivery loads = absurd (omega (arith, loads))
entries_of-load (Load ∷ steps) (first ∷ later) delivery loads =
    ap (λ rest. entry.Load first ∷ rest)
    (entries_of-load steps later delivery (omega (arith, loads)))
entries_of-load (Install key at ∷ steps) deliveries delivery loads =
    ap (λ rest. entry.Install key at ∷ rest) (entries_of-load steps deliveries delivery loads)

-- so is an install
pub entries_of-install : (steps : List Step) (deliveries : List DeliveryOf) (key : Key) (at : ℕ)
    → loads_in steps ≡ length deliveries
    → entries_of (steps ++ Install key at ∷ []) deliveries
    ≡ entries_of steps deliveries ++ entry.Install key at ∷ []
entries_of-install [] deliveries key at loads = refl
entries_of-install (Load ∷ steps) [] key at loads = absurd (omega (arith, loads))
entries_of-install (Load ∷ steps) (first ∷ later) key at loads =
    ap (λ rest. entry.Load first ∷ rest)
    (entries_of-install steps later key at (omega (arith, loads)))
entries_of-install (Install other place ∷ steps) deliveries key at loads =
    ap (λ rest. entry.Install other place ∷ rest)
    (entries_of-install steps deliveries key at loads)

-- a load adds a step and a delivery
pub AreSteps-load : (steps : List Step) (deliveries : List DeliveryOf) (delivery : DeliveryOf)
    → AreSteps steps deliveries → AreSteps (steps ++ Load ∷ []) (deliveries ++ delivery ∷ [])
AreSteps-load steps deliveries delivery before = record {
  loads = omega (
    arith,
    loads_in-append steps (Load ∷ []),
    before.loads,
    length-append deliveries (delivery ∷ []),
  );
}

-- an install adds only a step
pub AreSteps-install : (steps : List Step) (deliveries : List DeliveryOf) (key : Key) (at : ℕ)
    → AreSteps steps deliveries → AreSteps (steps ++ Install key at ∷ []) deliveries
AreSteps-install steps deliveries key at before =
    record { loads = omega (arith, loads_in-append steps (Install key at ∷ []), before.loads) }

-- the accepted deliveries are those that are kept
pub accepted-entries_of : (steps : List Step) (deliveries : List DeliveryOf)
    → loads_in steps ≡ length deliveries → accepted (entries_of steps deliveries) ≡ deliveries
accepted-entries_of [] [] loads = refl
accepted-entries_of [] (first ∷ later) loads = absurd (omega (arith, loads))
accepted-entries_of (Load ∷ steps) [] loads = absurd (omega (arith, loads))
accepted-entries_of (Load ∷ steps) (delivery ∷ later) loads =
    ap (λ rest. delivery ∷ rest) (accepted-entries_of steps later (omega (arith, loads)))
accepted-entries_of (Install key at ∷ steps) deliveries loads =
    accepted-entries_of steps deliveries loads

-- which entry is an install of which partition stands in the steps alone
pub installed-steps : (steps : List Step) (deliveries : List DeliveryOf) (count : ℕ)
    → loads_in steps ≡ length deliveries
    → installed_after (entries_of steps deliveries) count
    ≡ option_and_then key_stepped (slice_get steps count)
installed-steps [] deliveries count loads = refl
installed-steps (Load ∷ steps) [] count loads = absurd (omega (arith, loads))
installed-steps (Load ∷ steps) (delivery ∷ later) zero loads = refl
installed-steps (Load ∷ steps) (delivery ∷ later) (suc count) loads =
    installed-steps steps later count (omega (arith, loads))
installed-steps (Install key at ∷ steps) deliveries zero loads = refl
installed-steps (Install key at ∷ steps) deliveries (suc count) loads =
    installed-steps steps deliveries count loads

-- a load at the end of a book is a delivery at the end
pub deliveries_of-load : (old new : RawBookOf) (place : ℕ) (delivery : DeliveryOf)
    → new.loads ≡ old.loads ++ record { place = place; delivery = delivery } ∷ []
    → deliveries_of new ≡ deliveries_of old ++ delivery ∷ []
deliveries_of-load old new place delivery loads =
    ap (λ (all : List LoadOf). map (λ (load : LoadOf). load.delivery) all) loads
    ∙ map-append (λ (load : LoadOf). load.delivery) old.loads
    (record { place = place; delivery = delivery } ∷ [])

-- a number has a place exactly if one of the deliveries has it
pub is_some-place_in : (loads : List LoadOf) (delivery : DeliveryOf)
    → is_some (place_in loads delivery.feed delivery.number)
    ≡ list_any (is_same delivery) (map (λ (load : LoadOf). load.delivery) loads)
is_some-place_in [] delivery = refl
is_some-place_in (load ∷ later) delivery =
    elim (cases_Bool (is_same delivery load.delivery)) [
      | inl same ↦ rw same refl
      | inr other ↦ rw other (is_some-place_in later delivery)
    ]
