-- Columns that are named, and that numbers keep.
use Rattle.std.proofs.Common.{◌≡◌, ◌∙◌, ℕ, ◌+◌, ◌<◌, List, [], ◌∷◌, ◌++◌, Option, Some, None}
use Rattle.std.proofs.Common.{false, length, map, take, get_or, refl, ap, sym, subst}
use Rattle.std.specs.Prelude.{All, slice_get}
use Rattle.std.specs.List.{cons_option, list_any}
use Rattle.std.specs.Str.{bytes_eq}
use Rattle.std.proofs.lemmas.List.{append-nil, length-map, take_more}
use Rattle.std.proofs.lemmas.List.Elements.{All-cons, All-map, All-nil, All-weaker, filter_map-append}
use Rattle.std.proofs.lemmas.Option.{get_or_from_slice_get, slice_get_within}
use Rattle.desc_types.specs.declared.table.Column.{Column}
use Rattle.desc_causes.specs.Causes.{lacks}
use Rattle.table_desc.specs.Declarations.{column_number, found}
use Rattle.desc_types.specs.Columns.{kept_columns}
use Rattle.desc_types.specs.Accepted.{column_names}
use Rattle.desc_types.proofs.BoolLemmas.{or-none}
use Rattle.desc_types.proofs.ListLemmas.{list_any-none}
use Rattle.table_desc.proofs.LookupLemmas.{IsColumn, IsPlace-found, bytes-same, position-within}

-- what is so of each item is so of one that is there
pub All-there : {X : Type 0} (P : X → Type 0) (xs : List X) (place : ℕ) (x : X) → All P xs
    → slice_get xs place ≡ Some x → P x
All-there P xs place x all there = subst P (get_or_from_slice_get xs place x x there)
    (all place x (slice_get_within xs place x there))

-- a column that is not lacking is there
pub IsColumn-lacks : (columns : List Column) (name : List ℕ) → lacks columns name ≡ false
    → IsColumn columns name
IsColumn-lacks columns name found =
    IsPlace-found (λ (column : Column). bytes_eq column.name name) columns found

-- its number
pub column_number-within : (columns : List Column) (name : List ℕ) → lacks columns name ≡ false
    → column_number columns name < length columns
column_number-within columns name none =
    let column = IsColumn-lacks columns name none in
    rw column.found (position-within (λ (column : Column). bytes_eq column.name name) columns
    column.place column.found)

-- the numbers of columns that are not lacking
pub column_numbers-within : (columns : List Column) (names : List (List ℕ))
    → list_any (lacks columns) names ≡ false
    → All (λ number. number < length columns) (map (column_number columns) names)
column_numbers-within columns names found =
    All-map (λ number. number < length columns) (column_number columns) names
    (All-weaker (λ name. lacks columns name ≡ false)
    (λ name. column_number columns name < length columns)
    (column_number-within columns) names (list_any-none (lacks columns) names found))

-- columns that are kept by their names have these names
pub kept-names : (columns : List Column) (names : List (List ℕ))
    → list_any (lacks columns) names ≡ false
    → column_names (kept_columns columns (map (column_number columns) names)) ≡ names
kept-names columns [] found = refl
kept-names columns (name ∷ others) found =
    let parts = or-none (lacks columns name) (list_any (lacks columns) others) found in
    let column = IsColumn-lacks columns name parts.0 in
    rw (
      column.found,
      column.there,
      bytes-same column.item.name name column.passes,
      kept-names columns others parts.1,
    ) refl

-- as many as there are names
pub length-kept : (columns : List Column) (names : List (List ℕ))
    → list_any (lacks columns) names ≡ false
    → length (kept_columns columns (map (column_number columns) names)) ≡ length names
length-kept columns names found =
    sym (length-map (kept_columns columns (map (column_number columns) names))
    (λ (column : Column). column.name))
    ∙ ap length (kept-names columns names found)

-- what is so of all columns is so of those that are kept
pub kept-each : (P : Column → Type 0) (columns : List Column) (numbers : List ℕ) → All P columns
    → All P (kept_columns columns numbers)
kept-each P columns [] each = All-nil P
kept-each P columns (number ∷ numbers) each =
    by_column (slice_get columns number) refl (kept-each P columns numbers each)
  where
    by_column : (column : Option Column) → slice_get columns number ≡ column
        → All P (kept_columns columns numbers)
        → All P (cons_option column (kept_columns columns numbers))
    by_column None there others = others
    by_column (Some column) there others = All-cons P column (kept_columns columns numbers)
        (All-there P columns number column each there) others

-- one number more, and the columns that it keeps
kept_columns-take : (columns : List Column) (numbers : List ℕ) (index : ℕ) → index < length numbers
    → kept_columns columns (take (index + 1) numbers)
    ≡ kept_columns columns (take index numbers)
    ++ kept_columns columns (get_or numbers index 0 ∷ [])
kept_columns-take columns numbers index within =
    ap (kept_columns columns) (take_more numbers index 0 within)
    ∙ filter_map-append (slice_get columns) (take index numbers) (get_or numbers index 0 ∷ [])

-- the number of a column keeps it
pub kept_columns-push : (columns : List Column) (numbers : List ℕ) (index number : ℕ)
    (column : Column)
    → index < length numbers → number ≡ get_or numbers index 0
    → slice_get columns number ≡ Some column
    → kept_columns columns (take (index + 1) numbers)
    ≡ kept_columns columns (take index numbers) ++ column ∷ []
kept_columns-push columns numbers index number column within here found =
    rw (kept_columns-take columns numbers index within, ← here, found) refl

-- another number keeps none
pub kept_columns-same : (columns : List Column) (numbers : List ℕ) (index number : ℕ)
    → index < length numbers → number ≡ get_or numbers index 0 → slice_get columns number ≡ None
    → kept_columns columns (take (index + 1) numbers) ≡ kept_columns columns (take index numbers)
kept_columns-same columns numbers index number within here none =
    rw (kept_columns-take columns numbers index within, ← here, none) (append-nil _)
