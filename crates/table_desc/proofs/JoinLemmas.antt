-- The columns of a join: their names differ, and name columns.
use Rattle.std.proofs.Common.{◌≡◌, ◌∙◌, ℕ, ◌<◌, ◌+◌, ◌++◌, List, [], ◌∷◌, true, false}
use Rattle.std.proofs.Common.{map, refl, ap, length, arith, length-append}
use Rattle.std.specs.Prelude.{All, ◌||◌, codes}
use Rattle.std.specs.Str.{bytes_eq}
use Rattle.std.specs.List.{list_any}
use Rattle.std.proofs.lemmas.List.{map-append, length-map}
use Rattle.std.proofs.lemmas.List.Elements.{All-append, All-map, All-weaker}
use Rattle.desc_types.specs.declared.table.Column.{Column}
use Rattle.desc_types.specs.Columns.{are_different}
use Rattle.desc_types.specs.Columns.{joined_columns, prefixed}
use Rattle.desc_types.specs.Accepted.{NamesColumn, column_names}
use Rattle.table_desc.proofs.NamesLemmas.{are_different-append}

-- names under one prefix are alike if they were
left-any : (name : List ℕ) (columns : List Column)
    → list_any (bytes_eq (codes "l_" ++ name)) (column_names (map (prefixed (codes "l_")) columns))
    ≡ list_any (bytes_eq name) (column_names columns)
left-any name [] = refl
left-any name (column ∷ columns) =
    ap (λ found. bytes_eq name column.name || found) (left-any name columns)

right-any : (name : List ℕ) (columns : List Column)
    → list_any (bytes_eq (codes "r_" ++ name)) (column_names (map (prefixed (codes "r_")) columns))
    ≡ list_any (bytes_eq name) (column_names columns)
right-any name [] = refl
right-any name (column ∷ columns) =
    ap (λ found. bytes_eq name column.name || found) (right-any name columns)

left-different : (columns : List Column)
    → are_different (column_names (map (prefixed (codes "l_")) columns))
    ≡ are_different (column_names columns)
left-different [] = refl
left-different (column ∷ columns) = rw (left-any column.name columns, left-different columns) refl

right-different : (columns : List Column)
    → are_different (column_names (map (prefixed (codes "r_")) columns))
    ≡ are_different (column_names columns)
right-different [] = refl
right-different (column ∷ columns) =
    rw (right-any column.name columns, right-different columns) refl

-- no name under the one prefix is one under the other
apart : (name : List ℕ) (columns : List Column)
    → list_any (bytes_eq (codes "l_" ++ name)) (column_names (map (prefixed (codes "r_")) columns))
    ≡ false
apart name [] = refl
apart name (column ∷ columns) = apart name columns

-- the columns of a join have different names, if those of each side do
pub joined-different : (left right : List Column) → are_different (column_names left) ≡ true
    → are_different (column_names right) ≡ true
    → are_different (column_names (joined_columns left right)) ≡ true
joined-different left right left_differ right_differ =
    ap are_different (map-append (λ (column : Column). column.name)
    (map (prefixed (codes "l_")) left) (map (prefixed (codes "r_")) right))
    ∙ are_different-append (column_names (map (prefixed (codes "l_")) left))
    (column_names (map (prefixed (codes "r_")) right))
    (left-different left ∙ left_differ) (right-different right ∙ right_differ)
    (All-map (λ name. list_any (bytes_eq name)
    (column_names (map (prefixed (codes "r_")) right)) ≡ false)
    (λ (column : Column). column.name) (map (prefixed (codes "l_")) left)
    (All-map (λ (column : Column). list_any (bytes_eq column.name)
    (column_names (map (prefixed (codes "r_")) right)) ≡ false)
    (prefixed (codes "l_")) left (λ index default within. apart _ right)))

-- a name under a prefix names a column of a later table
left-named : (earlier number : ℕ) (name : List ℕ) → earlier < number → NamesColumn earlier name
    → NamesColumn number (codes "l_" ++ name)
left-named earlier number name before named = record {
  begins = refl;
  bytes = named.bytes;
  free = refl;
  short = omega (arith, length-append (codes "l_") name, named.short);
}

right-named : (earlier number : ℕ) (name : List ℕ) → earlier < number → NamesColumn earlier name
    → NamesColumn number (codes "r_" ++ name)
right-named earlier number name before named = record {
  begins = refl;
  bytes = named.bytes;
  free = refl;
  short = omega (arith, length-append (codes "r_") name, named.short);
}

-- so do those of a join
pub joined-named : (left_number right_number number : ℕ) (left right : List Column)
    → left_number < number → right_number < number
    → All (λ (column : Column). NamesColumn left_number column.name) left
    → All (λ (column : Column). NamesColumn right_number column.name) right
    → All (λ (column : Column). NamesColumn number column.name) (joined_columns left right)
joined-named left_number right_number number left right left_before right_before left_named
    right_named =
    All-append (λ (column : Column). NamesColumn number column.name)
    (map (prefixed (codes "l_")) left) (map (prefixed (codes "r_")) right)
    (All-map (λ (column : Column). NamesColumn number column.name) (prefixed (codes "l_")) left
    (All-weaker (λ (column : Column). NamesColumn left_number column.name)
    (λ (column : Column). NamesColumn number (codes "l_" ++ column.name))
    (λ column. left-named left_number number column.name left_before) left left_named))
    (All-map (λ (column : Column). NamesColumn number column.name) (prefixed (codes "r_")) right
    (All-weaker (λ (column : Column). NamesColumn right_number column.name)
    (λ (column : Column). NamesColumn number (codes "r_" ++ column.name))
    (λ column. right-named right_number number column.name right_before) right right_named))

-- as many as both sides have
pub length-joined : (left right : List Column)
    → length (joined_columns left right) ≡ length left + length right
length-joined left right =
    length-append (map (prefixed (codes "l_")) left) (map (prefixed (codes "r_")) right)
    ∙ rw (length-map left (prefixed (codes "l_")), length-map right (prefixed (codes "r_"))) refl
