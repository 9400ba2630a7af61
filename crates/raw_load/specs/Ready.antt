-- A book with the room that it has, and when a prepared delivery may be loaded.
use Rattle.std.specs.Prelude.{ℕ, ◌≡◌, ◌≤◌, ◌-◌, List, Some, None, All, IsSome, IsSomeAnd, Vec}
use Rattle.std.specs.Prelude.{length, map, slice_get, vec_capacity, vec_len}
use Rattle.std.specs.Map.{lookup}
use Rattle.std.specs.BTreeMap.{is_at}
use Rattle.std.specs.declared.alloc.Global.{Global}
use Rattle.desc_types.specs.declared.table.Key.{Key}
use Rattle.desc_types.specs.Descriptions.{DescOf}
use Rattle.desc_types.specs.Keys.{key_cmp}
use Rattle.view_meaning.specs.SetAside.{kept_rows}
use Rattle.raw_load.specs.declared.feed.FeedBook.{FeedBook}
use Rattle.raw_load.specs.declared.loads.Loads.{Loads}
use Rattle.raw_load.specs.declared.piece.Piece.{Piece}
use Rattle.raw_load.specs.Stretches.{IsStretchOf, TellsRows, found_at, stretches_in}
use Rattle.raw_load.specs.Pieces.{Parts}
use Rattle.raw_load.specs.Books.{RawBookOf, deliveries_of, place_in}
use Rattle.raw_load.specs.Loads.{Numbers, book_of, index_at, number_of}
use Rattle.raw_load.specs.Preparing.{PreparedOf, TellsOf}

-- the room that a book has: for how many places and deliveries, of each partition for how many
-- pieces, and of each feed for how many rows that are set aside; and to which index each number
-- leads, of deliveries to come too
pub record RoomOf : Type 0 where
  pub places : ℕ
  pub deliveries : ℕ
  pub numbers : Numbers
  pub pieces : List (Key × ℕ)
  pub asides : List ℕ

-- a book: what it tells, and the room that it has
pub record RawStateOf : Type 0 where
  pub told : RawBookOf
  pub room : RoomOf

-- how many elements a vector takes with no memory
abbrev pub spare : {X : Type 0} → Vec X Global → ℕ
spare vec = vec_capacity vec - vec_len vec

-- of each partition for how many pieces there is room
abbrev pub spare_pieces : Parts → List (Key × ℕ)
spare_pieces parts = map (λ (entry : Key × Vec Piece Global). (entry.0, spare entry.1)) parts

-- the book that loads make, and what is kept of each feed
abbrev pub state_of : Loads → List FeedBook → RawStateOf
state_of loads feeds = record {
  told = book_of loads feeds;
  room = record {
    places = spare loads.places;
    deliveries = spare loads.deliveries;
    numbers = loads.numbers.entries;
    pieces = spare_pieces loads.parts.entries;
    asides = map (λ (feed : FeedBook). spare feed.asides) feeds;
  };
}

-- a prepared delivery may be loaded: there is room for all of it, its number leads to the index at
-- which it will stand, and each stretch ends within its rows
pub record HasRoom (state : RawStateOf) (prepared : PreparedOf) : Type 0 where
  pub places : 1 ≤ state.room.places
  pub deliveries : 1 ≤ state.room.deliveries
  pub number : index_at state.room.numbers (number_of prepared.delivery)
      ≡ Some (length state.told.loads)
  pub pieces : (key : Key) → IsSome (found_at prepared.found key)
      → IsSomeAnd (lookup (is_at (key_cmp key)) state.room.pieces) (λ spare. 1 ≤ spare)
  pub asides : IsSomeAnd (slice_get state.room.asides prepared.delivery.feed)
      (λ spare. length prepared.asides ≤ spare)
  pub within : (key : Key)
      → All (IsStretchOf prepared.delivery.rows) (stretches_in (found_at prepared.found key))

-- a delivery was prepared for a book as it is now: it tells what loading it will do and where the
-- rows lie that are kept, its number is new, and there is room for all of it
pub record IsPrepared (desc : DescOf) (state : RawStateOf) (prepared : PreparedOf) : Type 0 where
  pub tells : TellsOf desc (deliveries_of state.told) prepared
  pub lying : TellsRows desc prepared.delivery.rows
      (kept_rows desc (deliveries_of state.told) prepared.delivery) prepared.found
  pub new : place_in state.told.loads prepared.delivery.feed prepared.delivery.number ≡ None
  pub room : HasRoom state prepared
