-- Laws that each disk has to give: what it tells is of one piece.
use Rattle.std.specs.Prelude.{ℕ, List, [], ◌∷◌, length, refl}
use Rattle.std.proofs.Math.Nat.{lt_irrefl}
use mathlib.Core.Logic.{inl, inr}
use Rattle.depot_disk.specs.Image.{Image}
use Rattle.depot_disk.specs.State.{DiskState, IsDiskState}
use Rattle.depot_disk.specs.Life.{Change, Removed, Synced, Wrote, MayLeaveFile, content_of}
use Rattle.depot_disk.specs.Record.{LeftBy, LeftSince, MemState, life_of, state_of}
use Rattle.depot_disk.specs.Listed.{counting}

-- a stop may leave what a file holds
pub MayLeaveFile-content_of : (life : List Change) → MayLeaveFile life (content_of life)
MayLeaveFile-content_of [] = refl
MayLeaveFile-content_of (Wrote at bytes ∷ older) = inl refl
MayLeaveFile-content_of (Synced ∷ older) = refl
MayLeaveFile-content_of (Removed ∷ older) = tt

-- this moment counts from each earlier one on
LeftSince-now : (steps : List (ℕ × Change)) (from : ℕ) (image : Image)
    → LeftBy steps image → LeftSince steps from image
LeftSince-now [] from image left = left
LeftSince-now (step ∷ older) from image left = inl left

-- since this moment there is no other
LeftSince-only : (steps : List (ℕ × Change)) (image : Image)
    → LeftSince steps (length steps) image → LeftBy steps image
LeftSince-only [] image left = left
LeftSince-only (step ∷ older) image (inl left) = left
LeftSince-only (step ∷ older) image (inr early) =
    absurd (lt_irrefl (length (step ∷ older)) early.0)

-- of a disk in memory
pub IsDiskState-mem : (disk : MemState) → IsDiskState (state_of disk)
IsDiskState-mem disk = record {
  held_is_left = λ file. MayLeaveFile-content_of (life_of file disk.steps);
  counts_now = λ from image le left. LeftSince-now disk.steps from image left;
  only_now = LeftSince-only disk.steps;
}

-- of a disk that counts faults of its own
pub IsDiskState-counting : (own : ℕ) (state : DiskState)
    → IsDiskState state → IsDiskState (counting own state)
IsDiskState-counting own state told = record {
  held_is_left = told.held_is_left;
  counts_now = told.counts_now;
  only_now = told.only_now;
}
