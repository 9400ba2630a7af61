-- Which held versions are dead.
use Rattle.std.specs.Prelude.{◌≡◌, ◌<◌, false, Some, IsSome}
use Rattle.std.specs.Ordering.{is_gt}
use Rattle.desc_types.specs.declared.table.Key.{Key}
use Rattle.desc_types.specs.Keys.{key_cmp}
use Rattle.query_pin.specs.declared.dead.Dead.{Dead}
use Rattle.query_pin.specs.declared.input.Input.{Input}
use Rattle.query_pin.specs.Held.{version_of}
use Rattle.query_pin.specs.Kept.{IsFrom, KeptListOf, entry_in, newest_in}
use Rattle.query_pin.specs.Pins.{PinBookOf, is_pinned}

-- a version is dead: it is held, it was replaced, and no pin keeps it
pub record IsDead (kept : KeptListOf) (pins : PinBookOf) (read : Input) : Type 0 where
  pub held : IsSome (entry_in kept read)
  pub replaced : read.version < newest_in kept read.key
  pub unread : is_pinned pins.pins read ≡ false

-- a version is of no partition before another
abbrev pub IsFromKey : (from : Key) → (read : Input) → Type 0
IsFromKey from read = is_gt (key_cmp from read.key) ≡ false

-- a version is the first of the dead ones from a partition on
pub record IsLeastDead (kept : KeptListOf) (pins : PinBookOf) (from : Key) (found : Dead)
    : Type 0 where
  pub entry : entry_in kept (version_of found) ≡ Some found.entry
  pub dead : IsDead kept pins (version_of found)
  pub not_before : IsFromKey from (version_of found)
  pub least : (read : Input) → IsFromKey from read → IsDead kept pins read
      → IsFrom (version_of found) read
