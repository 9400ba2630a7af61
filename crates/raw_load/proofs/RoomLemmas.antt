-- The room that a book has, as it is told and as it lies in its vectors.
use Rattle.std.proofs.Common.{◌≡◌, ℕ, ◌<◌, ◌≤◌, List, map, arith}
use Rattle.std.specs.Prelude.{Option, Some, None, IsSomeAnd, Vec, option_map, slice_get}
use Rattle.std.specs.Prelude.{vec_capacity, vec_len}
use Rattle.std.specs.BTreeMap.{is_at}
use Rattle.std.specs.Map.{lookup}
use Rattle.std.specs.declared.alloc.Global.{Global}
use Rattle.std.proofs.lemmas.Map.Made.{lookup-map_values}
use Rattle.std.proofs.lemmas.Option.{slice_get-map}
use Rattle.desc_types.specs.declared.table.Key.{Key}
use Rattle.desc_types.specs.Keys.{key_cmp}
use Rattle.raw_load.specs.declared.feed.FeedBook.{FeedBook}
use Rattle.raw_load.specs.declared.loads.Loads.{Loads}
use Rattle.raw_load.specs.declared.piece.Piece.{Piece}
use Rattle.raw_load.specs.Feeds.{HasAsideRoom, HasAsideRoomAt}
use Rattle.raw_load.specs.Loads.{HasRoomToCommit}
use Rattle.raw_load.specs.Pieces.{HasPieceRoom, Parts}
use Rattle.raw_load.specs.Preparing.{PreparedOf}
use Rattle.raw_load.specs.Ready.{HasRoom, spare, spare_pieces, state_of}

-- a vector with room for a piece has room that can be told
spare-piece : (found : Option (Vec Piece Global))
    → IsSomeAnd found (λ pieces. vec_len pieces < vec_capacity pieces)
    → IsSomeAnd (option_map spare found) (λ spare. 1 ≤ spare)
spare-piece None room = room
spare-piece (Some pieces) room = omega (arith, room)

-- and one with room that is told has room
piece-spare : (found : Option (Vec Piece Global))
    → IsSomeAnd (option_map spare found) (λ spare. 1 ≤ spare)
    → IsSomeAnd found (λ pieces. vec_len pieces < vec_capacity pieces)
piece-spare None room = room
piece-spare (Some pieces) room = omega (arith, room)

-- what room a partition has is told
lookup-spare_pieces : (parts : Parts) (key : Key)
    → lookup (is_at (key_cmp key)) (spare_pieces parts)
    ≡ option_map spare (lookup (is_at (key_cmp key)) parts)
lookup-spare_pieces parts key = lookup-map_values spare (is_at (key_cmp key)) parts

-- a partition with room for a piece tells so
pub spare_pieces-room : (parts : Parts) (key : Key) → HasPieceRoom parts key
    → IsSomeAnd (lookup (is_at (key_cmp key)) (spare_pieces parts)) (λ spare. 1 ≤ spare)
spare_pieces-room parts key room =
    rw (lookup-spare_pieces parts key) (spare-piece (lookup (is_at (key_cmp key)) parts) room)

-- a partition that tells so has room for a piece
HasPieceRoom-spare : (parts : Parts) (key : Key)
    → IsSomeAnd (lookup (is_at (key_cmp key)) (spare_pieces parts)) (λ spare. 1 ≤ spare)
    → HasPieceRoom parts key
HasPieceRoom-spare parts key room =
    piece-spare (lookup (is_at (key_cmp key)) parts) (rw (lookup-spare_pieces parts key) at room)

-- a book with room for a prepared delivery has it in its vectors
pub HasRoomToCommit-room : (loads : Loads) (feeds : List FeedBook) (prepared : PreparedOf)
    → HasRoom (state_of loads feeds) prepared → HasRoomToCommit loads prepared.found
HasRoomToCommit-room loads feeds prepared room = record {
  places = omega (arith, room.places);
  deliveries = omega (arith, room.deliveries);
  pieces = λ key found. HasPieceRoom-spare loads.parts.entries key (room.pieces key found);
}

-- what room a feed has is told
slice_get-spare : (feeds : List FeedBook) (feed : ℕ)
    → slice_get (map (λ (book : FeedBook). spare book.asides) feeds) feed
    ≡ option_map (λ (book : FeedBook). spare book.asides) (slice_get feeds feed)
slice_get-spare feeds feed = slice_get-map (λ (book : FeedBook). spare book.asides) feeds feed

-- a feed with room for rows that are set aside tells so
pub spare-asides : (feeds : List FeedBook) (feed count : ℕ) → HasAsideRoomAt feeds feed count
    → IsSomeAnd (slice_get (map (λ (book : FeedBook). spare book.asides) feeds) feed)
    (λ spare. count ≤ spare)
spare-asides feeds feed count room =
    rw (slice_get-spare feeds feed) (at (slice_get feeds feed) room)
  where
    at : (found : Option FeedBook) → IsSomeAnd found (λ book. HasAsideRoom book count)
        → IsSomeAnd (option_map (λ (book : FeedBook). spare book.asides) found)
        (λ spare. count ≤ spare)
    at None room = room
    at (Some book) room = omega (arith, room)

-- and one that tells so has room for them
pub HasAsideRoomAt-spare : (feeds : List FeedBook) (feed count : ℕ)
    → IsSomeAnd (slice_get (map (λ (book : FeedBook). spare book.asides) feeds) feed)
    (λ spare. count ≤ spare)
    → HasAsideRoomAt feeds feed count
HasAsideRoomAt-spare feeds feed count room =
    at (slice_get feeds feed) (rw (slice_get-spare feeds feed) at room)
  where
    at : (found : Option FeedBook)
        → IsSomeAnd (option_map (λ (book : FeedBook). spare book.asides) found)
        (λ spare. count ≤ spare)
        → IsSomeAnd found (λ book. HasAsideRoom book count)
    at None room = room
    at (Some book) room = omega (arith, room, book.asides.ok.1)
