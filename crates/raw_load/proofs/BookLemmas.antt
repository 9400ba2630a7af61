-- What a book tells by what it is made of: its loads, and what each partition keeps.
use Rattle.std.proofs.Common.{◌≡◌, ◌∙◌, ℕ, zero, suc, ◌<◌, List, [], ◌∷◌, ◌++◌, length, get_or}
use Rattle.std.proofs.Common.{refl, sym, ap, map, arith, length-append, take}
use Rattle.std.specs.Prelude.{◌&&◌, ◌==◌, Option, Some, None, All, Vec, flat_map, if◌then◌else◌}
use Rattle.std.specs.Prelude.{min, slice_get, unwrap_or}
use Rattle.std.specs.Option.{option_map}
use Rattle.std.specs.Map.{keys_of, lookup}
use Rattle.std.proofs.lemmas.Cmp.{eq_by_cmp_equiv}
use Rattle.std.proofs.lemmas.Map.Entries.{lookup-filter-values, option_filter}
use Rattle.std.proofs.lemmas.Map.Keys.{IsDistinct-from_sorted}
use Rattle.std.specs.BTreeMap.{is_at}
use Rattle.std.specs.declared.alloc.Global.{Global}
use Rattle.std.proofs.lemmas.List.Elements.{All-head, All-tail}
use Rattle.std.proofs.lemmas.List.{take-map, take_min}
use Rattle.std.proofs.lemmas.Map.Made.{lookup-map_values}
use Rattle.depot_cell.specs.declared.cell.Cell.{Cell}
use Rattle.desc_types.specs.declared.table.Key.{Key}
use Rattle.desc_types.specs.declared.delivery.DRow.{DRow}
use Rattle.desc_types.specs.Deliveries.{DeliveryOf}
use Rattle.desc_types.specs.Keys.{key_cmp}
use Rattle.desc_types.proofs.ListLemmas.{slice_get-push}
use Rattle.raw_load.specs.declared.feed.FeedBook.{FeedBook}
use Rattle.raw_load.specs.declared.loads.Loads.{Loads}
use Rattle.raw_load.specs.declared.piece.Number.{Number}
use Rattle.raw_load.specs.declared.piece.Piece.{Piece}
use Rattle.raw_load.proofs.CompareLemmas.{key_cmp-total}
use Rattle.raw_load.specs.Pieces.{AreOrdered, Parts, has_some, piece_rows_by, rows_kept_by}
use Rattle.raw_load.specs.Pieces.{IsPieceOf, piece_rows, pieces_at, pieces_in, rows_at, rows_in}
use Rattle.raw_load.specs.Stretches.{stretches_rows}
use Rattle.raw_load.specs.Books.{LoadOf, kept_in, rows_of}
use Rattle.raw_load.specs.Loads.{book_of, loads_of, place_if}

-- the loads have the deliveries
pub deliveries-loads_of : (places : List ℕ) (deliveries : List DeliveryOf)
    → length places ≡ length deliveries
    → map (λ (load : LoadOf). load.delivery) (loads_of places deliveries) ≡ deliveries
deliveries-loads_of [] [] paired = refl
deliveries-loads_of [] (delivery ∷ deliveries) paired = absurd (omega arith)
deliveries-loads_of (place ∷ places) [] paired = absurd (omega arith)
deliveries-loads_of (place ∷ places) (delivery ∷ deliveries) paired =
    ap (λ later. delivery ∷ later) (deliveries-loads_of places deliveries (omega arith))

-- there is one for each delivery
pub length-loads_of : (places : List ℕ) (deliveries : List DeliveryOf)
    → length places ≡ length deliveries → length (loads_of places deliveries) ≡ length deliveries
length-loads_of [] [] paired = refl
length-loads_of [] (delivery ∷ deliveries) paired = absurd (omega arith)
length-loads_of (place ∷ places) [] paired = absurd (omega arith)
length-loads_of (place ∷ places) (delivery ∷ deliveries) paired =
    ap suc (length-loads_of places deliveries (omega arith))

-- one delivery more, with its place, is one load more
pub loads_of-push : (places : List ℕ) (deliveries : List DeliveryOf) (place : ℕ)
    (delivery : DeliveryOf) → length places ≡ length deliveries
    → loads_of (places ++ place ∷ []) (deliveries ++ delivery ∷ [])
    ≡ loads_of places deliveries ++ record { place = place; delivery = delivery } ∷ []
loads_of-push [] [] place delivery paired = refl
loads_of-push [] (first ∷ deliveries) place delivery paired = absurd (omega arith)
loads_of-push (first ∷ places) [] place delivery paired = absurd (omega arith)
loads_of-push (first ∷ places) (next ∷ deliveries) place delivery paired =
    ap (λ later. record { place = first; delivery = next } ∷ later)
    (loads_of-push places deliveries place delivery (omega arith))

-- the place at an index, if a delivery is there and has the number
abbrev pub place_by : (places : List ℕ) (index : ℕ) → Number → Option DeliveryOf → Option ℕ
place_by places index number None = None
place_by places index number (Some delivery) =
    if (delivery.feed == number.feed) && (delivery.number == number.number)
    then Some (get_or places index 0) else None

-- it is the place of the load at that index, if it has the number
pub place_if-loads_of : (places : List ℕ) (deliveries : List DeliveryOf) (index : ℕ)
    (number : Number) → length places ≡ length deliveries
    → place_if number (slice_get (loads_of places deliveries) index)
    ≡ place_by places index number (slice_get deliveries index)
place_if-loads_of [] [] index number paired = refl
place_if-loads_of [] (delivery ∷ deliveries) index number paired = absurd (omega arith)
place_if-loads_of (place ∷ places) [] index number paired = absurd (omega arith)
place_if-loads_of (place ∷ places) (delivery ∷ deliveries) zero number paired = refl
place_if-loads_of (place ∷ places) (delivery ∷ deliveries) (suc index) number paired =
    place_if-loads_of places deliveries index number (omega arith)

-- the rows of pieces stand by the keys of these
keys-piece_rows_by : (deliveries : List DeliveryOf) (parts : Parts)
    → keys_of (piece_rows_by deliveries parts) ≡ keys_of parts
keys-piece_rows_by deliveries [] = refl
keys-piece_rows_by deliveries (entry ∷ parts) =
    ap (λ keys. entry.0 ∷ keys) (keys-piece_rows_by deliveries parts)

-- a list that may have been found is the same without lists that have nothing
unwrap_or-has_some : {X : Type 0} (found : Option (List X))
    → unwrap_or (option_filter has_some found) [] ≡ unwrap_or found []
unwrap_or-has_some None = refl
unwrap_or-has_some (Some []) = refl
unwrap_or-has_some (Some (x ∷ xs)) = refl

-- what is kept of a partition is what its pieces have
kept-piece_rows_by : (deliveries : List DeliveryOf) (parts : Parts) (key : Key)
    → AreOrdered parts
    → unwrap_or (lookup (is_at (key_cmp key)) (rows_kept_by deliveries parts)) []
    ≡ unwrap_or (lookup (is_at (key_cmp key)) (piece_rows_by deliveries parts)) []
kept-piece_rows_by deliveries parts key ordered =
    ap (λ (found : Option (List (List (List Cell)))). unwrap_or found [])
    (lookup-filter-values (eq_by_cmp_equiv key_cmp-total) has_some key
    (piece_rows_by deliveries parts)
    (rw (keys-piece_rows_by deliveries parts)
    (IsDistinct-from_sorted key_cmp (keys_of parts) ordered)))
    ∙ unwrap_or-has_some (lookup (is_at (key_cmp key)) (piece_rows_by deliveries parts))

-- what a book keeps of a partition are the rows of its pieces
pub kept_in-pieces : (loads : Loads) (feeds : List FeedBook) (key : Key)
    → AreOrdered loads.parts.entries
    → kept_in (book_of loads feeds) key
    ≡ map (piece_rows loads.deliveries.items) (pieces_at loads.parts.entries key)
kept_in-pieces loads feeds key ordered =
    kept-piece_rows_by loads.deliveries.items loads.parts.entries key ordered
    ∙ ap (λ (found : Option (List (List (List Cell)))). unwrap_or found [])
    (lookup-map_values rows (is_at (key_cmp key)) loads.parts.entries)
    ∙ each (lookup (is_at (key_cmp key)) loads.parts.entries)
  where
    rows : Vec Piece Global → List (List (List Cell))
    rows pieces = map (piece_rows loads.deliveries.items) pieces.items

    each : (found : Option (Vec Piece Global))
        → unwrap_or (option_map rows found) []
        ≡ map (piece_rows loads.deliveries.items) (pieces_in found)
    each None = refl
    each (Some pieces) = refl

-- a delivery more leaves the rows of those before it
pub rows_at-push : (deliveries : List DeliveryOf) (delivery : DeliveryOf) (index : ℕ)
    → index < length deliveries
    → rows_at (deliveries ++ delivery ∷ []) index ≡ rows_at deliveries index
rows_at-push deliveries delivery index there =
    ap rows_in (slice_get-push deliveries delivery index there)

-- its own rows stand at its index
pub rows_at-last : (deliveries : List DeliveryOf) (delivery : DeliveryOf)
    → rows_at (deliveries ++ delivery ∷ []) (length deliveries) ≡ delivery.rows
rows_at-last [] delivery = refl
rows_at-last (first ∷ deliveries) delivery = rows_at-last deliveries delivery

-- a piece stays one if a delivery more is there
pub IsPieceOf-push : (deliveries : List DeliveryOf) (delivery : DeliveryOf) (piece : Piece)
    → IsPieceOf deliveries piece → IsPieceOf (deliveries ++ delivery ∷ []) piece
IsPieceOf-push deliveries delivery piece is = record {
  there = omega (arith, is.there, length-append deliveries (delivery ∷ []));
  within = rw (rows_at-push deliveries delivery piece.delivery is.there) is.within;
}

-- pieces keep their rows
pub piece_rows-push : (deliveries : List DeliveryOf) (delivery : DeliveryOf) (pieces : List Piece)
    → All (IsPieceOf deliveries) pieces
    → map (piece_rows (deliveries ++ delivery ∷ [])) pieces ≡ map (piece_rows deliveries) pieces
piece_rows-push deliveries delivery [] all = refl
piece_rows-push deliveries delivery (piece ∷ pieces) all =
    let first = All-head (IsPieceOf deliveries) piece pieces all in
    ap (λ (rows : List DRow). stretches_rows rows piece.stretches.items
    ∷ map (piece_rows (deliveries ++ delivery ∷ [])) pieces)
    (rows_at-push deliveries delivery piece.delivery first.there)
    ∙ ap (λ later. piece_rows deliveries piece ∷ later)
    (piece_rows-push deliveries delivery pieces
    (All-tail (IsPieceOf deliveries) piece pieces all))

-- the rows of mapped lists, list by list
rows_of-map : (f : Piece → List (List Cell)) (pieces : List Piece)
    → rows_of (map f pieces) ≡ flat_map f pieces
rows_of-map f [] = refl
rows_of-map f (piece ∷ pieces) = ap (λ rows. f piece ++ rows) (rows_of-map f pieces)

-- the rows of the first so many pieces are those of the first so many deliveries
pub rows_of-take : (deliveries : List DeliveryOf) (pieces : List Piece) (version count : ℕ)
    → count ≡ min (length pieces) version
    → rows_of (take version (map (piece_rows deliveries) pieces))
    ≡ flat_map (piece_rows deliveries) (take count pieces)
rows_of-take deliveries pieces version count least =
    let same : count ≡ min version (length pieces) = omega arith in
    ap rows_of (take-map (piece_rows deliveries) version pieces)
    ∙ rows_of-map (piece_rows deliveries) (take version pieces)
    ∙ ap (λ (first : List Piece). flat_map (piece_rows deliveries) first)
    (sym (take_min version pieces) ∙ ap (λ (count : ℕ). take count pieces) (sym same))
