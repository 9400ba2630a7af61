-- Held versions, each with its entry.
use Rattle.std.specs.Prelude.{ℕ, ◌≡◌, ◌<◌, List, Option, Some, IsSome, map}
use Rattle.std.specs.List.Sorted.{IsStrictlySortedBy}
use Rattle.query_pin.specs.Inputs.{input_cmp}
use Rattle.query_pin.specs.declared.input.Input.{Input}
use Rattle.query_pin.specs.declared.dead.Dead.{Dead}
use Rattle.query_pin.specs.Kept.{IsFrom, IsReplaced, KeptListOf, ReplacedList, entry_at, entry_in}
use Rattle.query_pin.specs.Kept.{newest_in, replaced_at}

-- the version that is held
abbrev pub version_of : Dead → Input
version_of held = record { key = held.key; version = held.version }

-- a version is the first of those from one on that are held as replaced ones
pub record IsFirstFrom (replaced : ReplacedList) (from : Input) (dead : Dead) : Type 0 where
  pub entry : replaced_at replaced (version_of dead) ≡ Some dead.entry
  pub not_before : IsFrom from (version_of dead)
  pub first : (read : Input) → IsFrom from read → IsSome (replaced_at replaced read)
      → IsFrom (version_of dead) read

-- a version is the first of those from one on that are held and not the newest of their partitions
pub record IsNextReplaced (kept : KeptListOf) (from : Input) (dead : Dead) : Type 0 where
  pub entry : entry_in kept (version_of dead) ≡ Some dead.entry
  pub replaced : dead.version < newest_in kept dead.key
  pub not_before : IsFrom from (version_of dead)
  pub first : (read : Input) → IsFrom from read → IsReplaced kept read
      → IsFrom (version_of dead) read

-- a version with its entry as a held version
abbrev pub dead_of : Input × ℕ → Dead
dead_of held = record { key = held.0.key; version = held.0.version; entry = held.1 }

-- the entry of a version in a list, if it is there
abbrev pub entry_listed : List Dead → Input → Option ℕ
entry_listed list read = entry_at (map (λ held. (version_of held, held.entry)) list) read

-- a list has each version that has an entry once, in order
pub record IsListOf (entry : Input → Option ℕ) (list : List Dead) : Type 0 where
  pub rising : IsStrictlySortedBy input_cmp (map version_of list)
  pub exact : (read : Input) → entry_listed list read ≡ entry read
