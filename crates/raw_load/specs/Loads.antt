-- What a book is made of: its deliveries, their places, their numbers and the pieces of partitions.
use Rattle.std.specs.Prelude.{ℕ, ◌≡◌, ◌<◌, ◌∷◌, ◌++◌, List, [], Option, Some, None, All}
use Rattle.std.specs.Prelude.{vec_len, vec_capacity, length, map, slice_get, if◌then◌else◌}
use Rattle.std.specs.Map.{lookup}
use Rattle.std.specs.BTreeMap.{is_at}
use Rattle.std.specs.Ordering.{nat_cmp, ordering_then}
use Rattle.std.specs.declared.cmp.Ordering.{Ordering}
use Rattle.desc_types.specs.declared.table.Key.{Key}
use Rattle.desc_types.specs.Deliveries.{DeliveryOf}
use Rattle.raw_load.specs.declared.feed.FeedBook.{FeedBook}
use Rattle.raw_load.specs.declared.loads.Loads.{Loads}
use Rattle.raw_load.specs.declared.piece.Number.{Number}
use Rattle.raw_load.specs.Stretches.{Stretches}
use Rattle.raw_load.specs.Pieces.{AreOrdered, GainsPieces, HasPieceRooms, IsPieceOf, KeepsPieces}
use Rattle.raw_load.specs.Pieces.{pieces_at, rows_kept_by}
use Rattle.raw_load.specs.Books.{LoadOf, RawBookOf, is_numbered, place_in}
use Rattle.raw_load.specs.Feeds.{feed_of}

-- deliveries, each with the place that stands at its index
abbrev pub loads_of : (places : List ℕ) → List DeliveryOf → List LoadOf
loads_of [] deliveries = []
loads_of (place ∷ places) [] = []
loads_of (place ∷ places) (delivery ∷ deliveries) =
    record { place = place; delivery = delivery } ∷ loads_of places deliveries

-- numbers go by their feeds, then by themselves
abbrev pub number_cmp : Number → Number → Ordering
number_cmp number other =
    ordering_then (nat_cmp number.feed other.feed) (nat_cmp number.number other.number)

-- indices of deliveries, by number
abbrev pub Numbers : Type 0
Numbers = List (Number × ℕ)

-- the index that is kept for a number
abbrev pub index_at : Numbers → Number → Option ℕ
index_at numbers number = lookup (is_at (number_cmp number)) numbers

-- the place of an accepted delivery that may be there, if it has this number
abbrev pub place_if : Number → Option LoadOf → Option ℕ
place_if number None = None
place_if number (Some load) =
    if is_numbered number.feed number.number load then Some load.place else None

-- the place of the accepted delivery at an index that may be there, if it has this number
abbrev pub place_found : List LoadOf → Number → Option ℕ → Option ℕ
place_found loads number None = None
place_found loads number (Some index) = place_if number (slice_get loads index)

-- each number leads to the place of its delivery, and to none if it was not accepted
abbrev pub AreNumbered : List LoadOf → Numbers → Type 0
AreNumbered loads numbers = (number : Number)
    → place_found loads number (index_at numbers number)
    ≡ place_in loads number.feed number.number

-- the book that loads make, and what is kept of each feed
abbrev pub book_of : Loads → List FeedBook → RawBookOf
book_of loads feeds = record {
  loads = loads_of loads.places.items loads.deliveries.items;
  kept = rows_kept_by loads.deliveries.items loads.parts.entries;
  feeds = map feed_of feeds;
}

-- the parts of loads are of one list of deliveries: each has a place, each number leads to its
-- place, and each piece is of one of them
pub record AreLoads (loads : Loads) : Type 0 where
  pub paired : length loads.places.items ≡ length loads.deliveries.items
  pub numbered : AreNumbered (loads_of loads.places.items loads.deliveries.items)
      loads.numbers.entries
  pub within : (key : Key)
      → All (IsPieceOf loads.deliveries.items) (pieces_at loads.parts.entries key)
  pub ordered : AreOrdered loads.parts.entries

-- the number of a delivery
abbrev pub number_of : DeliveryOf → Number
number_of delivery = record { feed = delivery.feed; number = delivery.number }

-- loads have the deliveries that they had, with their places and pieces
pub record KeepsLoads (old new : Loads) : Type 0 where
  pub places : new.places.items ≡ old.places.items
  pub deliveries : new.deliveries.items ≡ old.deliveries.items
  pub pieces : KeepsPieces old.parts.entries new.parts.entries

-- and each number leads to where it led
pub record IsAsBefore (old new : Loads) : Type 0 where
  pub kept : KeepsLoads old new
  pub numbers : new.numbers.entries ≡ old.numbers.entries

-- there is room for a delivery with these stretches
pub record HasRoomToCommit (loads : Loads) (found : Stretches) : Type 0 where
  pub places : vec_len loads.places < vec_capacity loads.places
  pub deliveries : vec_len loads.deliveries < vec_capacity loads.deliveries
  pub pieces : HasPieceRooms loads.parts.entries found

-- loads have what they had, and there is room for a delivery: its number leads to the index at
-- which it will stand
pub record IsReady (number : Number) (found : Stretches) (old new : Loads) : Type 0 where
  pub kept : KeepsLoads old new
  pub numbers : (other : Number) → index_at new.numbers.entries other
      ≡ (if is_at (number_cmp number) other then Some (length old.deliveries.items)
      else index_at old.numbers.entries other)
  pub room : HasRoomToCommit new found

-- a delivery was accepted, with these stretches
pub record Accepts (delivery : DeliveryOf) (place : ℕ) (found : Stretches)
    (old new : Loads) : Type 0 where
  pub places : new.places.items ≡ old.places.items ++ place ∷ []
  pub deliveries : new.deliveries.items ≡ old.deliveries.items ++ delivery ∷ []
  pub numbers : new.numbers.entries ≡ old.numbers.entries
  pub pieces : GainsPieces (length old.deliveries.items) found
      old.parts.entries new.parts.entries
