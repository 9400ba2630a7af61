-- What a disk in memory holds, and what a stop may leave of it, by its record.
use Rattle.std.specs.Prelude.{◌≡◌, ◌<◌, ◌⊎◌, ◌==◌, ℕ, if◌then◌else◌, List, [], ◌∷◌, length, None, Some}
use Rattle.std.specs.Prelude.{Result, Ok, Err, IsOk}
use Rattle.std.specs.declared.option.Option.{Option}
use Rattle.depot_io.specs.Causes.{next_count}
use Rattle.depot_disk.specs.Image.{Image}
use Rattle.depot_disk.specs.State.{DiskState}
use Rattle.depot_disk.specs.Life.{Change, MayLeaveFile, content_of}

-- a disk in memory: a file and what was done to it for each step, the last step first; and how often
-- a call has failed
pub record MemState : Type 0 where
  pub steps : List (ℕ × Change)
  pub faults : ℕ

-- the life of a file by these steps
abbrev pub life_of : ℕ → List (ℕ × Change) → List Change
life_of file [] = []
life_of file (step ∷ older) =
    if file == step.0 then step.1 ∷ life_of file older else life_of file older

-- what is held after these steps
abbrev pub held_by : List (ℕ × Change) → Image
held_by steps file = content_of (life_of file steps)

-- the images that a stop may leave after these steps: of each file what its life says
abbrev pub LeftBy : List (ℕ × Change) → Image → Type 0
LeftBy steps image = (file : ℕ) → MayLeaveFile (life_of file steps) (image file)

-- the images that a stop may have left after so many steps, or after one of the later ones
abbrev pub LeftSince : List (ℕ × Change) → ℕ → Image → Type 0
LeftSince [] from image = LeftBy [] image
LeftSince (step ∷ older) from image =
    LeftBy (step ∷ older) image ⊎ ((from < length (step ∷ older)) × LeftSince older from image)

-- what the disk tells of itself. Its moment is the number of its steps
abbrev pub state_of : MemState → DiskState
state_of disk = record {
  holds = Some (held_by disk.steps);
  may_leave = LeftBy disk.steps;
  moment = length disk.steps;
  left_since = LeftSince disk.steps;
  faults = disk.faults;
}

-- the disk with one step more
abbrev pub with_step : ℕ → Change → MemState → MemState
with_step file change disk = record disk { steps = (file, change) ∷ disk.steps }

-- a call does this to a file, or finds no memory and changes nothing
abbrev pub MayDo : {T E : Type 0} → ℕ → Change → MemState → MemState → Result T E → Type 0
MayDo file change old new (Ok _) = new ≡ with_step file change old
MayDo file change old new (Err _) = new ≡ old

-- a call does this to a file, or counts a fault
abbrev pub Does : {T E : Type 0} → ℕ → Change → MemState → MemState → Result T E → Type 0
Does file change old new (Ok _) = new ≡ with_step file change old
Does file change old new (Err _) = new ≡ record old { faults = next_count old.faults }

-- a call does this to a file if it is there, and of an absent one changes nothing
abbrev pub DoesIfThere : {T E : Type 0} → Option (List ℕ) → ℕ → Change → MemState → MemState
    → Result T E → Type 0
DoesIfThere None file change old new result = (new ≡ old) × IsOk result
DoesIfThere (Some _) file change old new result = Does file change old new result

-- a fault is counted if there was no memory
abbrev pub Counts : {T E F : Type 0} → MemState → MemState → Result T E → Result T F → Type 0
Counts old new (Ok _) (Ok _) = new ≡ old
Counts old new (Err _) (Err _) = new ≡ record old { faults = next_count old.faults }
Counts old new _ _ = ⊥
