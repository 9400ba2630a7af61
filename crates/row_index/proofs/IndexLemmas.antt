-- Rows by their key: what stands by a key, what one row more does, and the groups of the rows.
use Rattle.std.proofs.Common.{◌≡◌, ◌∙◌, ℕ, List, [], ◌∷◌, ◌++◌, refl, sym, ap, map, subst, inl, inr}
use Rattle.std.specs.Prelude.{Bool, true, false, ◌||◌, Option, Some, None, fold, position}
use Rattle.std.specs.Prelude.{if◌then◌else◌}
use Rattle.std.specs.List.{AllByRecursion, IsDistinct, list_any}
use Rattle.std.specs.Map.{keys_of, lookup}
use Rattle.std.specs.Option.{unwrap_or}
use Rattle.std.proofs.lemmas.Bool.{cases_Bool, or_parts, false≢true}
use Rattle.std.proofs.Math.Bool.{or-false}
use Rattle.std.proofs.lemmas.List.{append-nil, append_assoc, map-append}
use Rattle.std.proofs.lemmas.List.Elements.{filter-append}
use Rattle.std.proofs.lemmas.List.Folds.{list_any-append}
use Rattle.std.proofs.lemmas.List.Sums.{fold-append}
use Rattle.std.proofs.lemmas.Map.Keys.{IsDistinct-head, IsDistinct-tail, IsDistinct-push}
use Rattle.indexmap.specs.IndexMap.{insert_entry, set_value_at}
use Rattle.indexmap.proofs.MapLemmas.{Found-position, insert_entry-first}
use Rattle.depot_cell.specs.declared.cell.Cell.{Cell}
use Rattle.depot_cell.specs.Cells.{same_cells}
use Rattle.desc_types.specs.declared.view.Agg.{Agg}
use Rattle.view_meaning.specs.Operations.{cut_to, has_key, rows_with, with_key, keys_in}
use Rattle.view_meaning.specs.Operations.{group_row, grouped}
use Rattle.view_meaning.proofs.ListLemmas.{filter-empty, list_any-map}
use Rattle.row_index.specs.Index.{keyed, rows_by, with_row}
use Rattle.row_index.specs.Keys.{same_cells-decides, same_cells-laws}

-- keys, each with what a function makes of it
abbrev with_rows : (List Cell → List (List Cell)) → (keys : List (List Cell))
    → List (List Cell × List (List Cell))
with_rows rows keys = map {B = List Cell × List (List Cell)} (λ key. (key, rows key)) keys

-- keys that the test finds the same are equal
same : (key other : List Cell) → same_cells key other ≡ true → key ≡ other
same key other alike = (same_cells-decides key other).0 alike

-- one row more, one key more at most
keys_in-push : (columns : List ℕ) (rows : List (List Cell)) (cells : List Cell)
    → keys_in columns (rows ++ cells ∷ []) ≡ with_key (keys_in columns rows) (cut_to columns cells)
keys_in-push columns rows cells =
    ap (λ (keys : List (List Cell)). fold with_key [] keys)
    (map-append (cut_to columns) rows (cells ∷ []))
    ∙ fold-append with_key [] (map (cut_to columns) rows) (cut_to columns cells ∷ [])

-- keys that differ do so with one more
with_key-distinct : (keys : List (List Cell)) (key : List Cell) → IsDistinct same_cells keys
    → IsDistinct same_cells (with_key keys key)
with_key-distinct keys key distinct = elim (cases_Bool (list_any (same_cells key) keys)) [
  | inl known ↦ rw known distinct
  | inr new ↦ rw new (IsDistinct-push same_cells-laws keys key distinct new)
]

-- and with some more
fold-distinct : (keys more : List (List Cell)) → IsDistinct same_cells keys
    → IsDistinct same_cells (fold with_key keys more)
fold-distinct keys [] distinct = distinct
fold-distinct keys (key ∷ more) distinct =
    fold-distinct (with_key keys key) more (with_key-distinct keys key distinct)

-- the keys of rows differ
keys_in-distinct : (columns : List ℕ) (rows : List (List Cell))
    → IsDistinct same_cells (keys_in columns rows)
unfolding IsDistinct
keys_in-distinct columns rows = fold-distinct [] (map (cut_to columns) rows) tt

-- no key is the same as a known one without being known
or-known : (key : List Cell) (keys : List (List Cell)) (more : List Cell)
    → list_any (same_cells more) keys ≡ true
    → (list_any (same_cells key) keys || same_cells key more) ≡ list_any (same_cells key) keys
or-known key keys more known = elim (cases_Bool (same_cells key more)) [
  | inl alike ↦
      let there : list_any (same_cells key) keys ≡ true =
      subst (λ (other : List Cell). list_any (same_cells other) keys ≡ true)
      (sym (same key more alike)) known in
      rw there refl
  | inr other ↦ rw other (or-false (list_any (same_cells key) keys))
]

-- a key is among some keys with one more, if it is one of them or that one
list_any-with_key : (key : List Cell) (keys : List (List Cell)) (more : List Cell)
    → list_any (same_cells key) (with_key keys more) ≡ list_any (same_cells key) (keys ++ more ∷ [])
list_any-with_key key keys more = elim (cases_Bool (list_any (same_cells more) keys)) [
  | inl known ↦ rw known
      (sym (list_any-append (same_cells key) keys (more ∷ [])
      ∙ ap (λ (last : Bool). list_any (same_cells key) keys || last)
      (or-false (same_cells key more))
      ∙ or-known key keys more known))
  | inr new ↦ rw new refl
]

-- a key is among some keys with others, if it is one of those
list_any-fold : (key : List Cell) (keys more : List (List Cell))
    → list_any (same_cells key) (fold with_key keys more) ≡ list_any (same_cells key) (keys ++ more)
list_any-fold key keys [] = ap (list_any (same_cells key)) (sym (append-nil keys))
list_any-fold key keys (next ∷ more) =
    list_any-fold key (with_key keys next) more
    ∙ list_any-append (same_cells key) (with_key keys next) more
    ∙ ap (λ (before : Bool). before || list_any (same_cells key) more)
    (list_any-with_key key keys next)
    ∙ sym (list_any-append (same_cells key) (keys ++ next ∷ []) more)
    ∙ ap (list_any (same_cells key)) (append_assoc keys (next ∷ []) more)

-- rows have no key that is not among theirs
rows_with-none : (columns : List ℕ) (key : List Cell) (rows : List (List Cell))
    → list_any (same_cells key) (keys_in columns rows) ≡ false → rows_with columns key rows ≡ []
rows_with-none columns key rows none =
    filter-empty (has_key columns key) rows
    (sym (list_any-map (same_cells key) (cut_to columns) rows)
    ∙ sym (list_any-fold key [] (map (cut_to columns) rows)) ∙ none)

-- by a key that is there stands what was made of it
lookup-known : (rows : List Cell → List (List Cell)) (keys : List (List Cell)) (key : List Cell)
    → list_any (same_cells key) keys ≡ true
    → lookup (same_cells key) (with_rows rows keys) ≡ Some (rows key)
lookup-known rows [] key known = absurd (false≢true known)
lookup-known rows (first ∷ keys) key known = elim (cases_Bool (same_cells key first)) [
  | inl alike ↦ rw alike (ap (λ (key : List Cell). Some (rows key)) (sym (same key first alike)))
  | inr other ↦ rw other (lookup-known rows keys key (rw other at known))
]

-- by one that is not there stands nothing
lookup-none : (rows : List Cell → List (List Cell)) (keys : List (List Cell)) (key : List Cell)
    → list_any (same_cells key) keys ≡ false
    → lookup (same_cells key) (with_rows rows keys) ≡ None
lookup-none rows [] key none = refl
lookup-none rows (first ∷ keys) key none =
    let parts = or_parts (same_cells key first) (list_any (same_cells key) keys) none in
    rw parts.0 (lookup-none rows keys key parts.1)

-- by each key stand the rows that have it
pub rows_by-keyed : (columns : List ℕ) (rows : List (List Cell)) (key : List Cell)
    → rows_by (keyed columns rows) key ≡ rows_with columns key rows
rows_by-keyed columns rows key =
    let keys = keys_in columns rows in
    let with = λ (key : List Cell). rows_with columns key rows in
    elim (cases_Bool (list_any (same_cells key) keys)) [
      | inl known ↦ ap (λ (found : Option (List (List Cell))). unwrap_or found [])
          (lookup-known with keys key known)
      | inr none ↦ ap (λ (found : Option (List (List Cell))). unwrap_or found [])
          (lookup-none with keys key none)
          ∙ sym (rows_with-none columns key rows none)
    ]

-- the rows of the key of a row are one more with it
rows_with-own : (columns : List ℕ) (rows : List (List Cell)) (cells : List Cell)
    → rows_with columns (cut_to columns cells) (rows ++ cells ∷ [])
    ≡ rows_with columns (cut_to columns cells) rows ++ cells ∷ []
rows_with-own columns rows cells =
    let key = cut_to columns cells in
    filter-append (has_key columns key) rows (cells ∷ [])
    ∙ ap (λ (own : Bool). rows_with columns key rows ++ (if own then cells ∷ [] else []))
    (same_cells-laws.refl key)

-- those of another key stay
rows_with-other : (columns : List ℕ) (rows : List (List Cell)) (key cells : List Cell)
    → same_cells (cut_to columns cells) key ≡ false
    → rows_with columns key rows ≡ rows_with columns key (rows ++ cells ∷ [])
rows_with-other columns rows key cells other =
    sym (filter-append (has_key columns key) rows (cells ∷ [])
    ∙ ap (λ (own : Bool). rows_with columns key rows ++ (if own then cells ∷ [] else []))
    (same_cells-laws.symm key (cut_to columns cells) ∙ other)
    ∙ append-nil (rows_with columns key rows))

module _ (old next : List Cell → List (List Cell)) (key : List Cell)
    (agree : (other : List Cell) → same_cells key other ≡ false → old other ≡ next other) where
  -- the rows of keys that differ from one do not change with that
  with_rows-agree : (keys : List (List Cell))
      → AllByRecursion (λ other. same_cells key other ≡ false) keys
      → with_rows old keys ≡ with_rows next keys
  with_rows-agree [] others = refl
  with_rows-agree (first ∷ keys) others =
      λ i. (first, agree first others.0 i) ∷ with_rows-agree keys others.1 i

  -- a key that is there keeps its place, and has its new rows
  insert_entry-known : (keys : List (List Cell)) → IsDistinct same_cells keys
      → list_any (same_cells key) keys ≡ true
      → insert_entry same_cells (with_rows old keys) key (next key) ≡ with_rows next keys
  insert_entry-known [] distinct known = absurd (false≢true known)
  insert_entry-known (first ∷ keys) distinct known = elim (cases_Bool (same_cells key first)) [
    | inl alike ↦
        let equal = same key first alike in
        rw alike
        (λ i. (first, next (equal i)) ∷ with_rows-agree keys
        (subst (λ (own : List Cell). AllByRecursion (λ other. same_cells own other ≡ false) keys)
        (sym equal) (IsDistinct-head same_cells first keys distinct)) i)
    | inr other ↦ rw other
        (λ i. (first, agree first other i) ∷ insert_entry-known keys
        (IsDistinct-tail same_cells first keys distinct) (rw other at known) i)
  ]

  -- a new key stands at the end
  insert_entry-new : (keys : List (List Cell)) → list_any (same_cells key) keys ≡ false
      → insert_entry same_cells (with_rows old keys) key (next key)
      ≡ with_rows next (keys ++ key ∷ [])
  insert_entry-new [] new = refl
  insert_entry-new (first ∷ keys) new =
      let parts = or_parts (same_cells key first) (list_any (same_cells key) keys) new in
      rw parts.0
      (λ i. (first, agree first parts.0 i) ∷ insert_entry-new keys parts.1 i)

  -- so a key has its new rows among keys that differ
  insert_entry-with_key : (keys : List (List Cell)) → IsDistinct same_cells keys
      → insert_entry same_cells (with_rows old keys) key (next key)
      ≡ with_rows next (with_key keys key)
  insert_entry-with_key keys distinct = elim (cases_Bool (list_any (same_cells key) keys)) [
    | inl known ↦ rw known (insert_entry-known keys distinct known)
    | inr new ↦ rw new (insert_entry-new keys new)
  ]

-- rows by their key with one row more are those of the rows with one more
keyed-push : (columns : List ℕ) (rows : List (List Cell)) (cells : List Cell)
    → with_row columns (keyed columns rows) cells ≡ keyed columns (rows ++ cells ∷ [])
keyed-push columns rows cells =
    let key = cut_to columns cells in
    let next = λ (key : List Cell). rows_with columns key (rows ++ cells ∷ []) in
    ap (λ (own : List (List Cell)). insert_entry same_cells (keyed columns rows) key own)
    (ap (λ (before : List (List Cell)). before ++ cells ∷ []) (rows_by-keyed columns rows key)
    ∙ sym (rows_with-own columns rows cells))
    ∙ insert_entry-with_key (λ key. rows_with columns key rows) next key
    (λ other. rows_with-other columns rows other cells)
    (keys_in columns rows) (keys_in-distinct columns rows)
    ∙ ap (λ (keys : List (List Cell)). with_rows next keys)
    (sym (keys_in-push columns rows cells))

-- so are those with some rows more
pub keyed-append : (columns : List ℕ) (rows more : List (List Cell))
    → fold (with_row columns) (keyed columns rows) more ≡ keyed columns (rows ++ more)
keyed-append columns rows [] = ap (keyed columns) (sym (append-nil rows))
keyed-append columns rows (cells ∷ more) =
    ap (λ (entries : List (List Cell × List (List Cell))). fold (with_row columns) entries more)
    (keyed-push columns rows cells)
    ∙ keyed-append columns (rows ++ cells ∷ []) more
    ∙ ap (keyed columns) (append_assoc rows (cells ∷ []) more)

-- a row of a key that is there is one more at its place
pub set_value_at-with_row : (columns : List ℕ) (entries : List (List Cell × List (List Cell)))
    (key cells : List Cell) (place : ℕ) (now next : List (List Cell))
    → key ≡ cut_to columns cells → position (same_cells key) (keys_of entries) ≡ Some place
    → lookup (same_cells key) entries ≡ Some now → next ≡ now ++ cells ∷ []
    → set_value_at entries place next ≡ with_row columns entries cells
set_value_at-with_row columns entries key cells place now next own there here more =
    sym (insert_entry-first same_cells key next entries place
    (Found-position (same_cells key) entries place there).first)
    ∙ ap (insert_entry same_cells entries key)
    (more ∙ ap (λ (found : Option (List (List Cell))). unwrap_or found [] ++ cells ∷ []) (sym here))
    ∙ ap (λ (key : List Cell).
    insert_entry same_cells entries key (rows_by entries key ++ cells ∷ [])) own

-- the groups of rows are made of the rows of each key
pub map-keyed : (columns : List ℕ) (aggs : List Agg) (rows : List (List Cell))
    → map (λ entry. group_row aggs entry.0 entry.1) (keyed columns rows)
    ≡ grouped columns aggs rows
map-keyed columns aggs rows = each (keys_in columns rows)
  where
    each : (keys : List (List Cell))
        → map (λ entry. group_row aggs entry.0 entry.1)
        (with_rows (λ key. rows_with columns key rows) keys)
        ≡ map (λ key. group_row aggs key (rows_with columns key rows)) keys
    each [] = refl
    each (key ∷ keys) =
        ap (λ (others : List (List Cell)). group_row aggs key (rows_with columns key rows) ∷ others)
        (each keys)
