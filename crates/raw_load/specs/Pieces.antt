-- Pieces: which rows of which deliveries each partition has.
use Rattle.std.specs.Prelude.{ℕ, ◌≡◌, ◌<◌, ◌∷◌, ◌++◌, false, List, [], Option, Some, None, All}
use Rattle.std.specs.Prelude.{IsSome, IsSomeAnd, Vec, vec_len, vec_capacity, length, map, Bool}
use Rattle.std.specs.Prelude.{true, filter, slice_get, if◌then◌else◌}
use Rattle.std.specs.List.Sorted.{IsStrictlySortedBy}
use Rattle.std.specs.Map.{keys_of, lookup}
use Rattle.std.specs.BTreeMap.{is_at}
use Rattle.std.specs.declared.alloc.Global.{Global}
use Rattle.depot_cell.specs.declared.cell.Cell.{Cell}
use Rattle.desc_types.specs.declared.table.Key.{Key}
use Rattle.desc_types.specs.declared.delivery.DRow.{DRow}
use Rattle.desc_types.specs.Deliveries.{DeliveryOf}
use Rattle.desc_types.specs.Keys.{key_cmp}
use Rattle.raw_load.specs.declared.piece.Stretch.{Stretch}
use Rattle.raw_load.specs.declared.piece.Piece.{Piece}
use Rattle.raw_load.specs.Stretches.{IsStretchOf, Stretches, found_at, stretches_rows}

-- the rows of a delivery that may be there
abbrev pub rows_in : Option DeliveryOf → List DRow
rows_in None = []
rows_in (Some delivery) = delivery.rows

-- the rows of the delivery at an index
abbrev pub rows_at : List DeliveryOf → (index : ℕ) → List DRow
rows_at deliveries index = rows_in (slice_get deliveries index)

-- the rows of a piece
abbrev pub piece_rows : List DeliveryOf → Piece → List (List Cell)
piece_rows deliveries piece =
    stretches_rows (rows_at deliveries piece.delivery) piece.stretches.items

-- a piece is one of a delivery that is there, and each stretch ends within its rows
pub record IsPieceOf (deliveries : List DeliveryOf) (piece : Piece) : Type 0 where
  pub there : piece.delivery < length deliveries
  pub within : All (IsStretchOf (rows_at deliveries piece.delivery)) piece.stretches.items

-- pieces of each partition, by key
abbrev pub Parts : Type 0
Parts = List (Key × Vec Piece Global)

-- the pieces that may have been found
abbrev pub pieces_in : Option (Vec Piece Global) → List Piece
pieces_in None = []
pieces_in (Some pieces) = pieces.items

-- the pieces of a partition
abbrev pub pieces_at : Parts → Key → List Piece
pieces_at parts key = pieces_in (lookup (is_at (key_cmp key)) parts)

-- whether a list has an element
abbrev pub has_some : {X : Type 0} → List X → Bool
has_some [] = false
has_some (x ∷ xs) = true

-- the rows of each piece of each partition
abbrev pub piece_rows_by : List DeliveryOf → Parts → List (Key × List (List (List Cell)))
piece_rows_by deliveries parts = map (λ (entry : Key × Vec Piece Global).
    (entry.0, map (piece_rows deliveries) entry.1.items)) parts

-- the same without the partitions that have no piece
abbrev pub rows_kept_by : List DeliveryOf → Parts → List (Key × List (List (List Cell)))
rows_kept_by deliveries parts =
    filter (λ (entry : Key × List (List (List Cell))). has_some entry.1)
    (piece_rows_by deliveries parts)

-- each partition stands once, and they are in order of key
abbrev pub AreOrdered : Parts → Type 0
AreOrdered parts = IsStrictlySortedBy key_cmp (keys_of parts)

-- each partition keeps its pieces, and none more has one
pub record KeepsPieces (old new : Parts) : Type 0 where
  pub pieces : (key : Key) → pieces_at new key ≡ pieces_at old key
  pub rows : (deliveries : List DeliveryOf)
      → rows_kept_by deliveries new ≡ rows_kept_by deliveries old
  pub ordered : AreOrdered old → AreOrdered new

-- a partition is there, and has room for a piece more
abbrev pub HasPieceRoom : Parts → Key → Type 0
HasPieceRoom parts key = IsSomeAnd (lookup (is_at (key_cmp key)) parts)
    (λ pieces. vec_len pieces < vec_capacity pieces)

-- so has each partition of which stretches were found
abbrev pub HasPieceRooms : Parts → Stretches → Type 0
HasPieceRooms parts found = (key : Key) → IsSome (found_at found key) → HasPieceRoom parts key

-- a partition has one piece more at its end, each other one has what it had, and room if it had it
pub record GainsPiece (key : Key) (piece : Piece) (old new : Parts) : Type 0 where
  pub exact : (other : Key) → pieces_at new other
      ≡ pieces_at old other ++ (if is_at (key_cmp key) other then piece ∷ [] else [])
  pub rooms : (other : Key) → is_at (key_cmp key) other ≡ false
      → HasPieceRoom old other → HasPieceRoom new other
  pub ordered : AreOrdered old → AreOrdered new

-- a delivery's piece, if stretches of a partition were found in it
abbrev pub piece_of : (delivery : ℕ) → Option (Vec Stretch Global) → List Piece
piece_of delivery None = []
piece_of delivery (Some found) = record { delivery = delivery; stretches = found } ∷ []

-- each partition has a piece of the delivery at its end, if stretches of it were found
pub record GainsPieces (delivery : ℕ) (found : Stretches) (old new : Parts) : Type 0 where
  pub exact : (key : Key)
      → pieces_at new key ≡ pieces_at old key ++ piece_of delivery (found_at found key)
  pub ordered : AreOrdered old → AreOrdered new
