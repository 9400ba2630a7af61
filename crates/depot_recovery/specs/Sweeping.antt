-- What is left when files that nothing needs are taken away.
use Rattle.std.specs.Prelude.{◌≡◌, ◌<◌, ℕ, List, IsSome, Option, None, Some}
use Rattle.depot_disk.specs.Image.{Image}
use Rattle.depot_disk.specs.State.{Becomes, DiskState, LeavesOnly, Stepped}
use Rattle.view_meaning.specs.declared.journal.Entry.{Entry}
use Rattle.depot_recovery.specs.Images.{IsNeeded}

-- each file that is needed is as it was
abbrev pub SameIfNeeded : List Entry → (old new : Image) → Type 0
SameIfNeeded journal old new = (file : ℕ) → IsNeeded journal file → new file ≡ old file

-- at most files that are not needed are gone, and each other one is as it was
pub record Loses (journal : List Entry) (old new : Image) : Type 0 where
  pub needed : SameIfNeeded journal old new
  pub left : (file : ℕ) → IsSome (new file) → new file ≡ old file

-- each file that is there is needed
abbrev pub IsSwept : List Entry → Image → Type 0
IsSwept journal image = (file : ℕ) → IsSome (image file) → IsNeeded journal file

-- each file before one is needed, if it is there
abbrev pub IsSweptBefore : List Entry → (end : ℕ) → Image → Type 0
IsSweptBefore journal end image = (file : ℕ) → file < end → IsSome (image file)
    → IsNeeded journal file

-- the same up to a number, or up to the last file
abbrev pub IsSweptUpTo : List Entry → (next : Option ℕ) → Image → Type 0
IsSweptUpTo journal None image = IsSwept journal image
IsSweptUpTo journal (Some next) image = IsSweptBefore journal next image

-- a run of calls takes away at most files that are not needed: the disk holds each other one as it
-- was, and at each moment a stop leaves those that are needed so
pub record Sweeps (journal : List Entry) (old new : DiskState) : Type 0 where
  pub held : Becomes (Loses journal) old.holds new.holds
  pub any_moment : LeavesOnly old new (Stepped (SameIfNeeded journal) old.may_leave)
