-- What stands at a gate, by what a catalogue is read as from there on.
use Rattle.std.specs.Prelude.{◌≡◌, ◌<◌, ◌+◌, ℕ, suc, List, [], Ok, Err, length, take, drop}
use Rattle.catalog_journal.specs.declared.gate.Gate.{Gate}
use Rattle.catalog_journal.specs.declared.gate.Gate.TheVariants.{Open, Closed, Cut}
use Rattle.catalog_journal.specs.Reading.{read_records, with_first}

-- the bytes begin with a whole record after an open gate, and with one more gate
pub record IsOpen (bytes : List ℕ) (len : ℕ) : Type 0 where
  pub whole : 5 + len < length bytes
  pub reads : (most place : ℕ) → read_records (suc most) place bytes
      ≡ with_first (take len (drop 5 bytes)) (read_records most (place + (5 + len)) (drop (5 + len) bytes))

-- an open gate is read as a record before the others, a closed one as the end, and all else as a
-- fault at this place
abbrev pub IsGate : List ℕ → Gate → Type 0
IsGate bytes (Open len) = IsOpen bytes len
IsGate bytes Closed = (most place : ℕ) → read_records (suc most) place bytes ≡ Ok []
IsGate bytes Cut = (most place : ℕ) → read_records (suc most) place bytes ≡ Err place
