-- Which versions of partitions are held: the newest of each, and others that were replaced.
use Rattle.std.specs.Prelude.{ℕ, ◌≡◌, ◌<◌, ◌≤◌, ◌==◌, ◌^◌, false, List, Option, Some, None}
use Rattle.std.specs.Prelude.{IsSome, IfSome, if◌then◌else◌}
use Rattle.std.specs.Option.{unwrap_or}
use Rattle.std.specs.Map.{lookup}
use Rattle.std.specs.BTreeMap.{is_at}
use Rattle.std.specs.Ordering.{is_gt}
use Rattle.std.specs.declared.cmp.Ordering.{Ordering}
use Rattle.desc_types.specs.declared.table.Key.{Key}
use Rattle.desc_types.specs.Keys.{key_cmp}
use Rattle.query_pin.specs.declared.input.Input.{Input}
use Rattle.query_pin.specs.declared.newest.Newest.{Newest}
use Rattle.query_pin.specs.Inputs.{input_cmp}

-- the newest held version of each partition
abbrev pub NewestList : Type 0
NewestList = List (Key × Option Newest)

-- the entries of held versions that were replaced
abbrev pub ReplacedList : Type 0
ReplacedList = List (Input × Option ℕ)

-- the held versions. A place with nothing in it tells nothing
pub record KeptListOf : Type 0 where
  pub newest : List (Key × Option Newest)
  pub replaced : List (Input × Option ℕ)

-- what a place of a list has in it
abbrev pub told_at : {K X : Type 0} → (K → K → Ordering) → List (K × Option X) → K → Option X
told_at cmp list key = unwrap_or (lookup (is_at (cmp key)) list) None

-- the newest held version of a partition, if there is one
abbrev pub newest_at : NewestList → Key → Option Newest
newest_at newest key = told_at key_cmp newest key

-- the entry of a version, if it was replaced and is held
abbrev pub replaced_at : ReplacedList → Input → Option ℕ
replaced_at replaced read = told_at input_cmp replaced read

-- the entry of a version in a list by version, if it is there
abbrev pub entry_at : List (Input × ℕ) → Input → Option ℕ
entry_at held read = lookup (is_at (input_cmp read)) held

-- the number of a newest version, 0 of none
abbrev pub number_of : Option Newest → ℕ
number_of None = 0
number_of (Some newest) = newest.version

-- the entry of the newest version, if it has this number, or else another
abbrev pub newest_entry_or : Option Newest → (version : ℕ) → (other : Option ℕ) → Option ℕ
newest_entry_or None version other = other
newest_entry_or (Some newest) version other =
    if version == newest.version then Some newest.entry else other

-- the entry of a held version
abbrev pub entry_in : KeptListOf → Input → Option ℕ
entry_in kept read =
    newest_entry_or (newest_at kept.newest read.key) read.version (replaced_at kept.replaced read)

-- the number of the newest held version of a partition, 0 if none is held
abbrev pub newest_in : KeptListOf → Key → ℕ
newest_in kept key = number_of (newest_at kept.newest key)

-- numbers begin at 1, and those of replaced versions are below the newest of their partition
pub record IsKeptList (newest : NewestList) (replaced : ReplacedList) : Type 0 where
  pub below : (read : Input) → IsSome (replaced_at replaced read)
      → read.version < number_of (newest_at newest read.key)
  pub positive : (read : Input) → IsSome (replaced_at replaced read) → 0 < read.version
  pub newest_positive : (key : Key) → IsSome (newest_at newest key)
      → 0 < number_of (newest_at newest key)
  pub small : (key : Key) → number_of (newest_at newest key) < 2 ^ 64

-- two lists tell the same
pub record SameKept (old new : KeptListOf) : Type 0 where
  pub entry : (read : Input) → entry_in new read ≡ entry_in old read
  pub newest : (key : Key) → newest_in new key ≡ newest_in old key

-- a partition has its place among the newest
abbrev pub HasNewestPlace : NewestList → Key → Type 0
HasNewestPlace newest key = IsSome (lookup (is_at (key_cmp key)) newest)

-- a version has its place among the replaced
abbrev pub HasReplacedPlace : ReplacedList → Input → Type 0
HasReplacedPlace replaced read = IsSome (lookup (is_at (input_cmp read)) replaced)

-- there is room for the next version of a partition, and for its newest one among the replaced
pub record HasRoomFor (key : Key) (kept : KeptListOf) : Type 0 where
  pub newest : HasNewestPlace kept.newest key
  pub replaced : IfSome (newest_at kept.newest key) (λ newest. HasReplacedPlace kept.replaced
      (record { key = key; version = newest.version }))

-- a version is not before another
abbrev pub IsFrom : (from read : Input) → Type 0
IsFrom from read = is_gt (input_cmp from read) ≡ false

-- a version is held, and is not the newest of its partition
pub record IsReplaced (kept : KeptListOf) (read : Input) : Type 0 where
  pub held : IsSome (entry_in kept read)
  pub replaced : read.version < newest_in kept read.key

-- held versions have numbers from 1 to that of the newest of their partition
abbrev pub HasNumbers : KeptListOf → Type 0
HasNumbers kept = (read : Input) → IsSome (entry_in kept read)
    → (0 < read.version) × (read.version ≤ newest_in kept read.key)
