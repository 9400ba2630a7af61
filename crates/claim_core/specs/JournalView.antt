-- The entries of a journal, from its deliveries and the order of its steps, which are kept apart.
use Rattle.std.specs.Prelude.{ℕ, suc, ◌≡◌, List, [], ◌∷◌, length, Option, None, Some}
use Rattle.std.specs.Prelude.{option_and_then, slice_get}
use Rattle.desc_types.specs.declared.table.Key.{Key}
use Rattle.desc_types.specs.Deliveries.{DeliveryOf}
use Rattle.view_meaning.specs.declared.journal.Entry.{Entry}
use Rattle.view_meaning.specs.declared.journal.Entry.TheVariants as entry
use Rattle.claim_core.specs.declared.step.Step.{Step}
use Rattle.claim_core.specs.declared.step.Step.TheVariants.{Load, Install}

-- how many of the steps are loads
abbrev pub loads_in : List Step → ℕ
loads_in [] = 0
loads_in (Load ∷ steps) = suc (loads_in steps)
loads_in (Install key at ∷ steps) = loads_in steps

-- the places of the loads among the entries, from 1, if there were so many entries before
abbrev pub places_after : (before : ℕ) → List Step → List ℕ
places_after before [] = []
places_after before (Load ∷ steps) = suc before ∷ places_after (suc before) steps
places_after before (Install key at ∷ steps) = places_after (suc before) steps

-- the places of the loads
abbrev pub places_of : List Step → List ℕ
places_of steps = places_after 0 steps

-- the entries in their order: each load takes the next delivery
abbrev pub entries_of : List Step → List DeliveryOf → List Entry
entries_of [] deliveries = []
entries_of (Load ∷ steps) [] = []
entries_of (Load ∷ steps) (delivery ∷ later) = entry.Load delivery ∷ entries_of steps later
entries_of (Install key at ∷ steps) deliveries = entry.Install key at ∷ entries_of steps deliveries

-- the partition that an entry computed, if it is an install
abbrev pub key_installed : Entry → Option Key
key_installed (entry.Load delivery) = None
key_installed (entry.Install key at) = Some key

-- the same of the entry after so many others
abbrev pub installed_after : List Entry → (count : ℕ) → Option Key
installed_after journal count = option_and_then key_installed (slice_get journal count)

-- the same of a step
abbrev pub key_stepped : Step → Option Key
key_stepped Load = None
key_stepped (Install key at) = Some key

-- there is a delivery for each load
pub record AreSteps (steps : List Step) (deliveries : List DeliveryOf) : Type 0 where
  pub loads : loads_in steps ≡ length deliveries
