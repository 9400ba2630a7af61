-- The disk that `after_stop` makes.
use Rattle.std.specs.Prelude.{◌≡◌, ◌⊎◌, ℕ, List, [], ◌∷◌, None, Some}
use Rattle.std.specs.declared.option.Option.{Option}
use Rattle.depot_disk.specs.Life.{Change, Synced, Wrote, IsSettled}
use Rattle.depot_disk.specs.Picks.{picked}
use Rattle.depot_disk.specs.Record.{held_by, life_of}

-- a file is put onto a disk as a whole, if there is one
abbrev pub PutsWhole : ℕ → Option (List ℕ) → List (ℕ × Change) → List (ℕ × Change) → Type 0
PutsWhole file None old new = new ≡ old
PutsWhole file (Some bytes) old new = new ≡ (file, Synced) ∷ (file, Wrote 0 bytes) ∷ old

-- on a disk with the steps `new`, each file of the steps `done` is as a pick leaves it, the others
-- are absent, and a stop leaves each file as it is held
pub record HasPicked (pick : ℕ) (steps done new : List (ℕ × Change)) : Type 0 where
  pub each : (file : ℕ) → (held_by new file ≡ picked pick (life_of file steps))
      ⊎ ((held_by new file ≡ None) × (life_of file done ≡ []))
  pub settled : (file : ℕ) → IsSettled (life_of file new)

-- whatever was done before, one step more is done now
abbrev pub DoesPicked : ℕ → List (ℕ × Change) → ℕ × Change → List (ℕ × Change)
    → List (ℕ × Change) → Type 0
DoesPicked pick steps step old new = (done : List (ℕ × Change))
    → HasPicked pick steps done old → HasPicked pick steps (step ∷ done) new
