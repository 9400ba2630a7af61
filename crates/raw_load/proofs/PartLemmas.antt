-- Maps by key, as one value is put into them: stretches and pieces of a partition.
use Rattle.std.proofs.Common.{◌≡◌, ◌∙◌, ◌<◌, List, [], ◌∷◌, ◌++◌, refl, ap, inl, inr, subst, map}
use Rattle.std.proofs.Common.{append-nil, sym, None}
use Rattle.std.specs.Prelude.{filter, Bool, true, false, cond, ◌⊎◌, Some, All, IsSome, Vec, vec_len}
use Rattle.std.specs.Prelude.{vec_capacity, if◌then◌else◌}
use Rattle.std.specs.declared.cmp.Ordering.{Ordering}
use Rattle.std.specs.declared.cmp.Ordering.TheVariants.{Less, Equal, Greater}
use Rattle.std.specs.Map.{keys_of, lookup, set_value}
use Rattle.std.specs.BTreeMap.{insert_entry, is_at}
use Rattle.std.specs.declared.alloc.Global.{Global}
use Rattle.std.proofs.lemmas.Bool.{cases_Bool, false≢true}
use Rattle.std.proofs.lemmas.List.Elements.{All-head, All-tail}
use Rattle.depot_cell.specs.declared.cell.Cell.{Cell}
use Rattle.desc_types.specs.declared.table.Key.{Key}
use Rattle.desc_types.specs.Keys.{key_cmp}
use Rattle.desc_types.specs.Deliveries.{DeliveryOf}
use Rattle.raw_load.specs.declared.piece.Piece.{Piece}
use Rattle.raw_load.specs.declared.piece.Stretch.{Stretch}
use Rattle.raw_load.specs.Stretches.{AddsStretch, Stretches, found_at, stretches_in}
use Rattle.raw_load.specs.Pieces.{AreOrdered, has_some, piece_rows, piece_rows_by, rows_kept_by}
use Rattle.raw_load.specs.Pieces.{GainsPiece, HasPieceRoom, HasPieceRooms, KeepsPieces, Parts}
use Rattle.raw_load.specs.Pieces.{pieces_at, pieces_in}
use Rattle.raw_load.proofs.CompareLemmas.{is_at-key_cmp-itself, is_at-key_cmp-same}

-- a map has a value at a key, and at each other key what it had
abbrev pub IsUpdate : {X : Type 0} → (key : Key) → X → (old new : List (Key × X)) → Type 0
IsUpdate key value old new = (other : Key) → lookup (is_at (key_cmp other)) new
    ≡ cond (is_at (key_cmp key) other) (Some value) (lookup (is_at (key_cmp other)) old)

-- at its key it has the value
IsUpdate-itself : {X : Type 0} (key : Key) (value : X) (old new : List (Key × X))
    → IsUpdate key value old new → lookup (is_at (key_cmp key)) new ≡ Some value
IsUpdate-itself key value old new updates =
    updates key
    ∙ ap (λ (at : Bool). cond at (Some value) (lookup (is_at (key_cmp key)) old))
    (is_at-key_cmp-itself key)

-- at another key it has what it had
IsUpdate-other : {X : Type 0} (key other : Key) (value : X) (old new : List (Key × X))
    → IsUpdate key value old new → is_at (key_cmp key) other ≡ false
    → lookup (is_at (key_cmp other)) new ≡ lookup (is_at (key_cmp other)) old
IsUpdate-other key other value old new updates apart =
    updates other
    ∙ ap (λ (at : Bool). cond at (Some value) (lookup (is_at (key_cmp other)) old)) apart

-- what holds at its key and at each other one holds at each
at_each : (P : Key → Type 0) (key : Key) → P key
    → ((other : Key) → is_at (key_cmp key) other ≡ false → P other) → (other : Key) → P other
at_each P key own others other = elim (cases_Bool (is_at (key_cmp key) other)) [
  | inl same ↦ subst P (is_at-key_cmp-same key other same) own
  | inr apart ↦ others other apart
]

-- stretches that end with one more were found of a partition
pub AddsStretch-update : (key : Key) (stretch : Stretch) (stretches : Vec Stretch Global)
    (old new : Stretches) → IsUpdate key stretches old new
    → stretches.items ≡ stretches_in (found_at old key) ++ stretch ∷ []
    → AddsStretch key stretch old new
AddsStretch-update key stretch stretches old new updates items =
    let own = IsUpdate-itself key stretches old new updates in
    record {
      some = rw own refl;
      gained = rw own items;
      others = λ other apart. IsUpdate-other key other stretches old new updates apart;
    }

-- each partition keeps its pieces, if one gets a vector with the same ones
pieces_at-update : (key : Key) (pieces : Vec Piece Global) (old new : Parts)
    → IsUpdate key pieces old new → pieces.items ≡ pieces_at old key
    → (other : Key) → pieces_at new other ≡ pieces_at old other
pieces_at-update key pieces old new updates same =
    at_each (λ other. pieces_at new other ≡ pieces_at old other) key
    (ap pieces_in (IsUpdate-itself key pieces old new updates) ∙ same)
    (λ other apart. ap pieces_in (IsUpdate-other key other pieces old new updates apart))

-- the rows of an entry's pieces
abbrev entry_rows : List DeliveryOf → Key × Vec Piece Global → Key × List (List (List Cell))
entry_rows deliveries entry = (entry.0, map (piece_rows deliveries) entry.1.items)

-- all rows stay, if the vector that is found has the pieces of the one in its place: with an entry
-- in front, if it is so of the others
piece_rows_by-set_first : (deliveries : List DeliveryOf) (test : Key → Bool)
    (entry : Key × Vec Piece Global) (parts : Parts) (had has : Vec Piece Global)
    → has.items ≡ had.items
    → (lookup test parts ≡ Some had
    → piece_rows_by deliveries (set_value test parts has) ≡ piece_rows_by deliveries parts)
    → (test entry.0 ≡ true) ⊎ (test entry.0 ≡ false)
    → lookup test (entry ∷ parts) ≡ Some had
    → piece_rows_by deliveries (set_value test (entry ∷ parts) has)
    ≡ piece_rows_by deliveries (entry ∷ parts)
piece_rows_by-set_first deliveries test entry parts had has same later (inl here) found =
    rw here (ap (λ (pieces : List Piece).
    (entry.0, map (piece_rows deliveries) pieces) ∷ piece_rows_by deliveries parts)
    (same ∙ sym (ap pieces_in (rw here at found))))
piece_rows_by-set_first deliveries test entry parts had has same later (inr apart) found =
    rw apart (ap (λ rest. entry_rows deliveries entry ∷ rest) (later (rw apart at found)))

-- so it is of all
piece_rows_by-set_value : (deliveries : List DeliveryOf) (test : Key → Bool) (parts : Parts)
    (had has : Vec Piece Global) → has.items ≡ had.items → lookup test parts ≡ Some had
    → piece_rows_by deliveries (set_value test parts has) ≡ piece_rows_by deliveries parts
piece_rows_by-set_value deliveries test [] had has same found = refl
piece_rows_by-set_value deliveries test (entry ∷ parts) had has same found =
    piece_rows_by-set_first deliveries test entry parts had has same
    (λ found. piece_rows_by-set_value deliveries test parts had has same found)
    (cases_Bool (test entry.0)) found

-- all rows that are kept stay, if a partition without pieces is put in: with an entry in front, if
-- it is so of the others
rows_kept_by-insert_first : (deliveries : List DeliveryOf) (key : Key)
    (entry : Key × Vec Piece Global) (parts : Parts) (pieces : Vec Piece Global)
    → pieces.items ≡ []
    → (lookup (is_at (key_cmp key)) parts ≡ None
    → rows_kept_by deliveries (insert_entry key_cmp parts key pieces)
    ≡ rows_kept_by deliveries parts)
    → (order : Ordering) → key_cmp key entry.0 ≡ order
    → lookup (is_at (key_cmp key)) (entry ∷ parts) ≡ None
    → rows_kept_by deliveries (insert_entry key_cmp (entry ∷ parts) key pieces)
    ≡ rows_kept_by deliveries (entry ∷ parts)
rows_kept_by-insert_first deliveries key entry parts pieces empty later Less is none =
    rw (is, empty) refl
rows_kept_by-insert_first deliveries key entry parts pieces empty later Equal is none =
    let there : Some entry.1 ≡ None = rw is at none in absurd cc
rows_kept_by-insert_first deliveries key entry parts pieces empty later Greater is none =
    rw is (ap (λ (rest : List (Key × List (List (List Cell)))).
    cond (has_some (entry_rows deliveries entry).1) (entry_rows deliveries entry ∷ rest) rest)
    (later (rw is at none)))

-- so it is of all
rows_kept_by-insert_entry : (deliveries : List DeliveryOf) (key : Key) (parts : Parts)
    (pieces : Vec Piece Global) → pieces.items ≡ [] → lookup (is_at (key_cmp key)) parts ≡ None
    → rows_kept_by deliveries (insert_entry key_cmp parts key pieces)
    ≡ rows_kept_by deliveries parts
rows_kept_by-insert_entry deliveries key [] pieces empty none = rw empty refl
rows_kept_by-insert_entry deliveries key (entry ∷ parts) pieces empty none =
    rows_kept_by-insert_first deliveries key entry parts pieces empty
    (λ none. rows_kept_by-insert_entry deliveries key parts pieces empty none)
    (key_cmp key entry.0) refl none

-- each partition keeps its pieces, if one that is there gets a vector with the same ones
pub KeepsPieces-lent : (key : Key) (had has : Vec Piece Global) (old new : Parts)
    → Some had ≡ lookup (is_at (key_cmp key)) old → has.items ≡ had.items
    → new ≡ set_value (is_at (key_cmp key)) old has → IsUpdate key has old new
    → AreOrdered new → KeepsPieces old new
KeepsPieces-lent key had has old new found same set updates ordered = record {
  pieces = pieces_at-update key has old new updates (same ∙ ap pieces_in found);
  rows = λ deliveries. rw set
      (ap (filter (λ (entry : Key × List (List (List Cell))). has_some entry.1))
      (piece_rows_by-set_value deliveries (is_at (key_cmp key)) old had has same (sym found)));
  ordered = λ _. ordered;
}

-- and if one that is not there is put in without pieces
pub KeepsPieces-put : (key : Key) (pieces : Vec Piece Global) (old new : Parts)
    → None ≡ lookup (is_at (key_cmp key)) old → pieces.items ≡ []
    → new ≡ insert_entry key_cmp old key pieces → IsUpdate key pieces old new
    → AreOrdered new → KeepsPieces old new
KeepsPieces-put key pieces old new none empty put updates ordered = record {
  pieces = pieces_at-update key pieces old new updates (empty ∙ ap pieces_in none);
  rows = λ deliveries. rw put
      (rows_kept_by-insert_entry deliveries key old pieces empty (sym none));
  ordered = λ _. ordered;
}

-- two steps that keep the pieces of each partition keep them together
pub KeepsPieces-step : (old now new : Parts) → KeepsPieces old now → KeepsPieces now new
    → KeepsPieces old new
KeepsPieces-step old now new before after = record {
  pieces = λ key. after.pieces key ∙ before.pieces key;
  rows = λ deliveries. after.rows deliveries ∙ before.rows deliveries;
  ordered = λ ordered. after.ordered (before.ordered ordered);
}

-- each partition keeps its room, if one gets a vector that has room if there was some
pub HasPieceRoom-update : (key : Key) (pieces : Vec Piece Global) (old new : Parts)
    → IsUpdate key pieces old new → (HasPieceRoom old key → vec_len pieces < vec_capacity pieces)
    → (other : Key) → HasPieceRoom old other → HasPieceRoom new other
HasPieceRoom-update key pieces old new updates room =
    at_each (λ other. HasPieceRoom old other → HasPieceRoom new other) key
    (λ had. rw (IsUpdate-itself key pieces old new updates) (room had))
    (λ other apart had. rw (IsUpdate-other key other pieces old new updates apart) had)

-- a partition gains a piece, if it gets a vector with the piece at its end
pub GainsPiece-update : (key : Key) (piece : Piece) (had has : Vec Piece Global) (old new : Parts)
    → Some had ≡ lookup (is_at (key_cmp key)) old → has.items ≡ had.items ++ piece ∷ []
    → IsUpdate key has old new → AreOrdered new → GainsPiece key piece old new
GainsPiece-update key piece had has old new found items updates ordered = record {
  exact = at_each (λ other. pieces_at new other
      ≡ pieces_at old other ++ (if is_at (key_cmp key) other then piece ∷ [] else [])) key
      (ap pieces_in (IsUpdate-itself key has old new updates) ∙ items
      ∙ rw (is_at-key_cmp-itself key, ← found) refl)
      (λ other apart. rw apart
      (ap pieces_in (IsUpdate-other key other has old new updates apart)
      ∙ sym (append-nil (pieces_at old other))));
  rooms = λ other apart had. rw (IsUpdate-other key other has old new updates apart) had;
  ordered = λ _. ordered;
}

-- a partition of which stretches were found has room, if each key that is kept has
pub HasPieceRooms-keys : (parts : Parts) (found : Stretches)
    → All (HasPieceRoom parts) (keys_of found) → HasPieceRooms parts found
HasPieceRooms-keys parts [] all key some = absurd (false≢true some)
HasPieceRooms-keys parts (entry ∷ found) all key some =
    at_first (cases_Bool (is_at (key_cmp key) entry.0)) some
    (HasPieceRooms-keys parts found (All-tail (HasPieceRoom parts) entry.0 (keys_of found) all) key)
  where
    at_first : (is_at (key_cmp key) entry.0 ≡ true) ⊎ (is_at (key_cmp key) entry.0 ≡ false)
        → IsSome (found_at (entry ∷ found) key)
        → (IsSome (found_at found key) → HasPieceRoom parts key) → HasPieceRoom parts key
    at_first (inl same) some later =
        rw (is_at-key_cmp-same key entry.0 same)
        (All-head (HasPieceRoom parts) entry.0 (keys_of found) all)
    at_first (inr apart) some later = later (rw apart at some)
