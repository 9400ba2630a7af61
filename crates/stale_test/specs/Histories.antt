-- What is kept of each partition that changed.
use Rattle.std.specs.Prelude.{ℕ, ◌<◌, ◌≤◌, ◌+◌, ◌==◌, List, if◌then◌else◌}
use Rattle.desc_types.specs.declared.table.Key.{Key}
use Rattle.stale_test.specs.declared.history.History.{History}
use Rattle.stale_test.specs.Places.{value_in}

-- histories by key
abbrev pub Histories : Type 0
Histories = List (Key × History)

-- the history of a partition that never changed
abbrev pub no_history : History
no_history = record { version = 0; changed = 0; upto = 0 }

-- the history that is kept of a partition
abbrev pub history_in : Histories → Key → History
history_in parts key = value_in no_history parts key

-- a history after the entry with this number, which changed the partition
abbrev pub raised : (entry : ℕ) → History → History
raised entry history = if history.changed == entry then history else record {
  version = history.version + 1;
  changed = entry;
  upto = history.upto;
}

-- a history after the entry with this number, which installed the partition with this place
abbrev pub installed : (entry at : ℕ) → History → History
installed entry at history = record {
  version = (raised entry history).version;
  changed = (raised entry history).changed;
  upto = at;
}

-- so many entries are enough for a history
pub record IsWithin (entries : ℕ) (history : History) : Type 0 where
  pub version : history.version ≤ entries
  pub changed : history.changed ≤ entries

-- so many entries are enough for all
abbrev pub AreWithin : (entries : ℕ) → Histories → Type 0
AreWithin entries parts = (key : Key) → IsWithin entries (history_in parts key)

-- fewer entries than this are enough for a history
pub record IsBefore (entry : ℕ) (history : History) : Type 0 where
  pub version : history.version < entry
  pub changed : history.changed < entry

-- all histories come from entries before the one with this number
abbrev pub AreBefore : (entry : ℕ) → Histories → Type 0
AreBefore entry parts = (key : Key) → IsBefore entry (history_in parts key)
