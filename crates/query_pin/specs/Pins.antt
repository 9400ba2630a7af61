-- Pins: which versions they keep from being reclaimed, and which ids are free.
use Rattle.std.specs.Prelude.{ℕ, ◌≡◌, ◌<◌, Bool, List, [], Option, None, Some, IsSome}
use Rattle.std.specs.BTreeMap.{insert_entry, is_at}
use Rattle.std.specs.List.{list_any}
use Rattle.std.specs.List.Sorted.{IsStrictlySortedBy}
use Rattle.std.specs.Map.{keys_of, lookup, remove_entry}
use Rattle.std.specs.Option.{option_map}
use Rattle.std.specs.Ordering.{nat_cmp}
use Rattle.view_meaning.specs.declared.request.PinItem.{PinItem}
use Rattle.query_pin.specs.declared.input.Input.{Input}
use Rattle.query_pin.specs.declared.readers.Reader.{Reader}
use Rattle.query_pin.specs.Inputs.{is_read}
use Rattle.query_pin.specs.Readers.{has_reader}

-- who asked for a pin, and the versions that it keeps
pub record PinOf : Type 0 where
  pub who : ℕ
  pub versions : List Input

-- the pins with their ids, in order of id
pub record PinBookOf : Type 0 where
  pub pins : List (ℕ × PinOf)

-- what a pin answers: its id, the place of the journal, and what is told of each partition
pub record PinnedOf : Type 0 where
  pub id : ℕ
  pub place : ℕ
  pub items : List PinItem

-- the pin of an id
abbrev pub pin_at : List (ℕ × PinOf) → (id : ℕ) → Option PinOf
pin_at pins id = lookup (is_at (nat_cmp id)) pins

-- who asked for the pin of an id, if there is one
abbrev pub who_at : List (ℕ × PinOf) → (id : ℕ) → Option ℕ
who_at pins id = option_map (λ (pin : PinOf). pin.who) (pin_at pins id)

-- the versions of a pin, if there is one
abbrev pub versions_of : Option PinOf → List Input
versions_of None = []
versions_of (Some pin) = pin.versions

-- the versions that the pin of an id keeps
abbrev pub versions_at : List (ℕ × PinOf) → (id : ℕ) → List Input
versions_at pins id = versions_of (pin_at pins id)

-- whether one of the pins keeps a version
abbrev pub is_pinned : List (ℕ × PinOf) → Input → Bool
is_pinned pins read = list_any (λ entry. is_read entry.1.versions read) pins

-- the pins, and one more of an id
abbrev pub with_pin : (id : ℕ) → PinOf → List (ℕ × PinOf) → List (ℕ × PinOf)
with_pin id pin pins = insert_entry nat_cmp pins id pin

-- the pins without that of an id
abbrev pub without_pin : (id : ℕ) → List (ℕ × PinOf) → List (ℕ × PinOf)
without_pin id pins = remove_entry (is_at (nat_cmp id)) pins

-- the ids differ and are in order
abbrev pub AreInOrder : List (ℕ × PinOf) → Type 0
AreInOrder pins = IsStrictlySortedBy nat_cmp (keys_of pins)

-- no pin has the id, and each lesser one belongs to a pin
pub record IsLeastFree (pins : List (ℕ × PinOf)) (id : ℕ) : Type 0 where
  pub free : pin_at pins id ≡ None
  pub least : (lower : ℕ) → lower < id → IsSome (pin_at pins lower)

-- the readers are those of the pins: each version of each pin, with its id
pub record IsPinBook (pins : List (ℕ × PinOf)) (readers : List Reader) : Type 0 where
  pub ordered : AreInOrder pins
  pub exact : (reader : Reader)
      → has_reader readers reader ≡ is_read (versions_at pins reader.id) reader.read
