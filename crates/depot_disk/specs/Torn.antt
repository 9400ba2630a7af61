-- What calls answer of an image, and what they make of one.
use Rattle.std.specs.Prelude.{◌≡◌, ◌+◌, ◌≤◌, ◌<◌, ◌⊎◌, ℕ, min, ⊤, List, length, take, drop}
use Rattle.std.specs.Prelude.{None, Some, IsSome}
use Rattle.std.specs.declared.option.Option.{Option}
use Rattle.depot_disk.specs.Image.{Image, SameElsewhere, without}

-- a torn write of `count` bytes: any bytes in its range and past the old end, the others as they
-- were, and no longer than if all of it were done. The old bytes may end before the range, if
-- what lay between was not synced either
pub record TornBytes (at count : ℕ) (old new : List ℕ) : Type 0 where
  pub before : take (min at (length old)) new ≡ take at old
  pub after : drop (at + count) new ≡ drop (at + count) old
  pub no_shorter : length old ≤ length new

-- the same of a file that may be absent: then it may have been made or not
abbrev pub TornFile : ℕ → ℕ → Option (List ℕ) → Option (List ℕ) → Type 0
TornFile at count (Some old) (Some new) = TornBytes at count old new
TornFile at count (Some old) None = ⊥
TornFile at count None (Some new) = length new ≤ at + count
TornFile at count None None = ⊤

-- the same of an image: every other file is as it was
pub record Torn (file at count : ℕ) (old new : Image) : Type 0 where
  pub within : TornFile at count (old file) (new file)
  pub elsewhere : SameElsewhere file old new

-- a file is as it was, or gone
abbrev pub MayLose : ℕ → Image → Image → Type 0
MayLose file old new = (new ≡ old) ⊎ (new ≡ without file old)

-- so many bytes of a file from a place on, and none only if there are none or there is no room
pub record IsPiece (bytes : List ℕ) (at count : ℕ) (into : List ℕ) : Type 0 where
  pub fits : count ≤ length into
  pub there : count ≤ length (drop at bytes)
  pub piece : take count into ≡ take count (drop at bytes)
  pub some : 0 < length into → 0 < length (drop at bytes) → 0 < count

-- no file is there from one number up to, but not including, another
abbrev pub NoneFrom : Image → ℕ → ℕ → Type 0
NoneFrom image least end = (other : ℕ) → least ≤ other → other < end → image other ≡ None

-- the least number of a present file from one on
abbrev pub IsFirstFrom : Image → ℕ → Option ℕ → Type 0
IsFirstFrom image least (Some first) =
    (least ≤ first) × IsSome (image first) × NoneFrom image least first
IsFirstFrom image least None = (other : ℕ) → least ≤ other → image other ≡ None
