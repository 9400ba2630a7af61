-- Who reads which versions.
use Rattle.std.specs.Prelude.{ℕ, ◌≡◌, Bool, true, false, ◌&&◌, ◌==◌, List}
use Rattle.std.specs.BTreeMap.{is_at}
use Rattle.std.specs.List.{list_any}
use Rattle.std.specs.Ordering.{nat_cmp, ordering_then}
use Rattle.std.specs.declared.cmp.Ordering.{Ordering}
use Rattle.query_pin.specs.declared.input.Input.{Input}
use Rattle.query_pin.specs.declared.readers.Reader.{Reader}
use Rattle.query_pin.specs.Inputs.{input_cmp, is_read, is_version}

-- readers go by their versions, then by id
abbrev pub reader_cmp : Reader → Reader → Ordering
reader_cmp reader other =
    ordering_then (input_cmp reader.read other.read) (nat_cmp reader.id other.id)

-- whether two readers are the same
abbrev pub same_reader : Reader → Reader → Bool
same_reader reader other = is_version other.read reader.read && (reader.id == other.id)

-- whether a reader is one of some
abbrev pub has_reader : List Reader → Reader → Bool
has_reader readers reader = list_any (is_at (reader_cmp reader)) readers

-- whether a reader has an id, and reads one of some versions
abbrev pub is_reader_of : (id : ℕ) → List Input → Reader → Bool
is_reader_of id versions reader = is_read versions reader.read && (id == reader.id)

-- the answer tells whether one of some readers reads a version
pub record TellsIfRead (readers : List Reader) (read : Input) (answer : Bool) : Type 0 where
  pub some : answer ≡ true
      → (id : ℕ) × (has_reader readers (record { read = read; id = id }) ≡ true)
  pub none : answer ≡ false
      → (id : ℕ) → has_reader readers (record { read = read; id = id }) ≡ false
