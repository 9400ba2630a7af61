-- What the operations of views do to the types of rows. Take `AreTyped-filtered`,
-- `AreTyped-grouped` and `AreTyped-joined_rows`.
use Rattle.std.proofs.Common.{◌≡◌, ◌∙◌, ℕ, ℤ, pos, negsuc, zero, suc, ◌<◌, List, [], ◌∷◌, ◌++◌}
use Rattle.std.proofs.Common.{length, get_or, map, cond, refl, arith}
use Rattle.std.specs.Prelude.{Bool, true, false, Option, Some, None, All, FitsSigned, IfSome}
use Rattle.std.specs.Prelude.{IsSomeAnd, filter_map, fold, if◌then◌else◌, slice_get}
use Rattle.std.specs.Int.{w64, saturate_signed}
use Rattle.std.specs.List.{AllZip, best_of, cons_option, filter, list_all, list_any}
use Rattle.std.specs.Cmp.{int_eq_equiv, nat_eq_equiv}
use Rattle.std.specs.Cmp.Lexicographic.{lists_equiv}
use Rattle.std.proofs.lemmas.List.Elements.{All-filter, All-head, All-map, All-nil, All-push}
use Rattle.std.proofs.lemmas.List.Elements.{All-tail, All-weaker}
use Rattle.std.proofs.lemmas.List.Folds.{list_any_at}
use Rattle.std.proofs.lemmas.Option.{slice_get-map}
use Rattle.depot_cell.specs.declared.cell.Cell.{Cell}
use Rattle.depot_cell.specs.declared.cell.Cell.TheVariants.{Int, Text}
use Rattle.depot_cell.specs.declared.cell.Op.{Op}
use Rattle.depot_cell.specs.declared.cell.Op.TheVariants.{Lt, Gt}
use Rattle.depot_cell.specs.declared.cell.Ty.{Ty}
use Rattle.depot_cell.specs.declared.cell.Ty.TheVariants as ty
use Rattle.depot_cell.specs.Cells.{same_cell, same_cells}
use Rattle.depot_cell.specs.Reading.{IsCellOf}
use Rattle.desc_lines.specs.declared.fun.Fun.{Fun}
use Rattle.desc_lines.specs.declared.fun.Fun.TheVariants as fun
use Rattle.desc_types.specs.declared.table.Column.{Column}
use Rattle.desc_types.specs.declared.view.Agg.{Agg}
use Rattle.desc_types.specs.declared.view.Cond.{Cond}
use Rattle.desc_types.specs.declared.view.Pair.{Pair}
use Rattle.desc_types.specs.Accepted.{Computes, column_type, column_types}
use Rattle.desc_types.specs.Columns.{agg_type, computed_type}
use Rattle.view_meaning.specs.Operations.{aggregated, beats, beside, best_by, clamped, column_of}
use Rattle.view_meaning.specs.Operations.{cut_to, filtered, group_row, grouped, has_key}
use Rattle.view_meaning.specs.Operations.{joined_rows, keys_in, left_columns, meets, partners}
use Rattle.view_meaning.specs.Operations.{right_columns, rows_with, total, with_key}
use Rattle.view_meaning.proofs.ListLemmas.{All-flat_map}
use Rattle.depot_recovery.proofs.ZipLemmas.{AllZip-append, AllZip-filter_map, AllZip-picked}
use Rattle.depot_recovery.proofs.ZipLemmas.{AllZip-slice_get, All-filter_map, picked}
use Rattle.depot_recovery.proofs.ListLemmas.{length-filter_some}

-- rows of these types
abbrev pub AreTyped : List Ty → List (List Cell) → Type 0
AreTyped types rows = All (AllZip IsCellOf types) rows

-- rows that are cut to some columns have the types of these
pub AreTyped-filtered : (types : List Ty) (conds : List Cond) (keep : List ℕ)
    (rows : List (List Cell)) → AreTyped types rows
    → AreTyped (picked types keep) (filtered conds keep rows)
AreTyped-filtered types conds keep rows typed =
    let test = λ (cells : List Cell). list_all (meets cells) conds in
    All-map (AllZip IsCellOf (picked types keep)) (cut_to keep) (filter test rows)
    (All-weaker (AllZip IsCellOf types)
    (λ cells. AllZip IsCellOf (picked types keep) (cut_to keep cells))
    (λ cells fits. AllZip-picked IsCellOf types cells keep fits) (filter test rows)
    (All-filter test (AllZip IsCellOf types) rows typed))

-- a row beside others has its types, then theirs
AreTyped-beside : (types others : List Ty) (cells : List Cell) (right : List (List Cell))
    → AllZip IsCellOf types cells → AreTyped others right
    → AreTyped (types ++ others) (beside cells right)
AreTyped-beside types others cells right fits typed =
    All-map (AllZip IsCellOf (types ++ others)) (λ other. cells ++ other) right
    (All-weaker (AllZip IsCellOf others)
    (λ other. AllZip IsCellOf (types ++ others) (cells ++ other))
    (λ other alike. AllZip-append IsCellOf types cells others other fits alike) right typed)

-- joined rows have the types of the left ones, then those of the right ones
pub AreTyped-joined_rows : (types others : List Ty) (on : List Pair)
    (left right : List (List Cell)) → AreTyped types left → AreTyped others right
    → AreTyped (types ++ others) (joined_rows on left right)
AreTyped-joined_rows types others on left right typed also =
    All-flat_map (AllZip IsCellOf (types ++ others))
    (λ cells. beside cells (partners on cells right)) left
    (All-weaker (AllZip IsCellOf types)
    (λ cells. AreTyped (types ++ others) (beside cells (partners on cells right)))
    (λ cells fits. AreTyped-beside types others cells (partners on cells right) fits
    (All-filter (has_key (right_columns on) (cut_to (left_columns on) cells))
    (AllZip IsCellOf others) right also)) left typed)

-- an int that is clamped is a cell
IsCellOf-clamped : (number : ℤ) → IsCellOf ty.Int (clamped number)
IsCellOf-clamped number = record { typed = refl; is_cell = fits number }
  where
    fits : (number : ℤ) → FitsSigned w64 (saturate_signed w64 number)
    fits (pos number) = grind arith
    fits (negsuc number) = grind arith

-- what is true of some elements is true of the best of them
All-best_of : {X : Type 0} (P : X → Type 0) (better : X → X → Bool) (best : X) (xs : List X)
    → P best → All P xs → P (best_of better best xs)
All-best_of P better best [] first all = first
All-best_of P better best (x ∷ xs) first all =
    All-best_of P better (cond (better x best) x best) xs
    (either (better x best) (All-head P x xs all)) (All-tail P x xs all)
  where
    either : (test : Bool) → P x → P (cond test x best)
    either true here = here
    either false here = first

-- the best of some cells, of which the first is there
best_by-first : (op : Op) (type : Ty) (found : Option Cell) (rest : List Cell)
    → IsSomeAnd found (IsCellOf type) → All (IsCellOf type) rest
    → IsSomeAnd (best_by op (cons_option found rest)) (IsCellOf type)
best_by-first op type None rest here all = absurd here
best_by-first op type (Some cell) rest here all =
    All-best_of (IsCellOf type) (beats op) cell rest here all

-- what is there has a property, so it has it if it is there
IfSome-there : {X : Type 0} (P : X → Type 0) (found : Option X) → IsSomeAnd found P
    → IfSome found P
IfSome-there P None there = absurd there
IfSome-there P (Some x) there = there

-- of a column that each of some rows has, the best cell
best_by-column : (op : Op) (type : Ty) (column : ℕ) (rows : List (List Cell)) → 0 < length rows
    → All (λ cells. IsSomeAnd (slice_get cells column) (IsCellOf type)) rows
    → IsSomeAnd (best_by op (column_of column rows)) (IsCellOf type)
best_by-column op type column [] some all = absurd (omega (arith, some))
best_by-column op type column (cells ∷ rows) some all =
    let has = λ (cells : List Cell). IsSomeAnd (slice_get cells column) (IsCellOf type) in
    best_by-first op type (slice_get cells column) (column_of column rows)
    (All-head has cells rows all)
    (All-filter_map (IsCellOf type) (λ cells. slice_get cells column) rows
    (All-weaker has (λ cells. IfSome (slice_get cells column) (IsCellOf type))
    (λ cells. IfSome-there (IsCellOf type) (slice_get cells column)) rows
    (All-tail has cells rows all)))

-- a column that is there has a type
column_type-there : (columns : List Column) (number : ℕ) → number < length columns
    → (type : Ty) × (column_type columns number ≡ Some type)
column_type-there [] number within = absurd (omega (arith, within))
column_type-there (column ∷ columns) zero within = (column.ty, refl)
column_type-there (column ∷ columns) (suc number) within =
    column_type-there columns number (omega (arith, within))

-- the best cell of a column has the type of that
best_by-typed : (op : Op) (source : List Column) (column : ℕ) (type : Ty)
    (rows : List (List Cell)) → column_type source column ≡ Some type
    → AreTyped (column_types source) rows → 0 < length rows
    → IsSomeAnd (best_by op (column_of column rows)) (IsCellOf type)
best_by-typed op source column type rows there typed some =
    best_by-column op type column rows some
    (All-weaker (AllZip IsCellOf (column_types source))
    (λ cells. IsSomeAnd (slice_get cells column) (IsCellOf type))
    (λ cells. AllZip-slice_get IsCellOf (column_types source) cells column type
    (slice_get-map (λ (column : Column). column.ty) source column ∙ there)) rows typed)

-- what is computed of some rows is a cell of its type
aggregated-typed : (computes : Fun) (source : List Column) (column : ℕ) (rows : List (List Cell))
    → Computes computes source column → AreTyped (column_types source) rows → 0 < length rows
    → IsSomeAnd (aggregated computes column rows)
    (IsCellOf (computed_type computes (column_type source column)))
aggregated-typed fun.Sum source column rows fits typed some =
    IsCellOf-clamped (total column rows)
aggregated-typed fun.Count source column rows fits typed some =
    IsCellOf-clamped (pos (length rows))
aggregated-typed fun.Least source column rows fits typed some =
    let there = column_type-there source column fits in
    rw there.1 (best_by-typed Lt source column there.0 rows there.1 typed some)
aggregated-typed fun.Greatest source column rows fits typed some =
    let there = column_type-there source column fits in
    rw there.1 (best_by-typed Gt source column there.0 rows there.1 typed some)

-- a cell is the same as itself
same_cell-itself : (cell : Cell) → same_cell cell cell ≡ true
same_cell-itself (Int number) = int_eq_equiv.refl number
same_cell-itself (Text bytes) = (lists_equiv nat_eq_equiv).refl bytes

-- so are cells
same_cells-itself : (cells : List Cell) → same_cells cells cells ≡ true
same_cells-itself [] = refl
same_cells-itself (cell ∷ cells) = rw (same_cell-itself cell) (same_cells-itself cells)

-- a key of a group: it has the types of the key columns, and some row has it
record IsKeyOf (types : List Ty) (columns : List ℕ) (rows : List (List Cell)) (key : List Cell)
    : Type 0 where
  pub typed : AllZip IsCellOf (picked types columns) key
  pub held : list_any (has_key columns key) rows ≡ true

-- what is true of some keys and of more is true of them together
All-with_keys : (P : List Cell → Type 0) (keys more : List (List Cell)) → All P keys → All P more
    → All P (fold with_key keys more)
All-with_keys P keys [] all also = all
All-with_keys P keys (key ∷ more) all also =
    All-with_keys P (with_key keys key) more
    (at_test (list_any (same_cells key) keys) (All-head P key more also))
    (All-tail P key more also)
  where
    at_test : (known : Bool) → P key → All P (if known then keys else keys ++ key ∷ [])
    at_test true here = all
    at_test false here = All-push P keys key all here

-- the keys in some rows
IsKeyOf-keys_in : (types : List Ty) (columns : List ℕ) (rows : List (List Cell))
    → AreTyped types rows → All (IsKeyOf types columns rows) (keys_in columns rows)
IsKeyOf-keys_in types columns rows typed =
    All-with_keys (IsKeyOf types columns rows) [] (map (cut_to columns) rows)
    (All-nil (IsKeyOf types columns rows))
    (All-map (IsKeyOf types columns rows) (cut_to columns) rows
    (λ index default within.
    let row = get_or rows index default in
    record {
      typed = AllZip-picked IsCellOf types row columns (typed index default within);
      held = list_any_at (has_key columns (cut_to columns row)) rows index default within
          (same_cells-itself (cut_to columns row));
    }))

-- the row of a group has the types of the key columns, then those of the aggregates
group_row-typed : (source : List Column) (columns : List ℕ) (aggs : List Agg)
    (rows : List (List Cell)) (key : List Cell)
    → All (λ (agg : Agg). Computes agg.fun source agg.column) aggs
    → AreTyped (column_types source) rows → IsKeyOf (column_types source) columns rows key
    → AllZip IsCellOf (picked (column_types source) columns ++ map (agg_type source) aggs)
    (group_row aggs key (rows_with columns key rows))
group_row-typed source columns aggs rows key computes typed of_rows =
    let group = rows_with columns key rows in
    let made = λ (agg : Agg). aggregated agg.fun agg.column group in
    AllZip-append IsCellOf (picked (column_types source) columns) key
    (map (agg_type source) aggs) (filter_map made aggs) of_rows.typed
    (AllZip-filter_map IsCellOf (agg_type source) made aggs
    (All-weaker (λ (agg : Agg). Computes agg.fun source agg.column)
    (λ agg. IsSomeAnd (made agg) (IsCellOf (agg_type source agg)))
    (λ agg fits. aggregated-typed agg.fun source agg.column group fits
    (All-filter (has_key columns key) (AllZip IsCellOf (column_types source)) rows typed)
    (length-filter_some (has_key columns key) rows of_rows.held)) aggs computes))

-- so has each row of a group
pub AreTyped-grouped : (source : List Column) (columns : List ℕ) (aggs : List Agg)
    (rows : List (List Cell)) → All (λ (agg : Agg). Computes agg.fun source agg.column) aggs
    → AreTyped (column_types source) rows
    → AreTyped (picked (column_types source) columns ++ map (agg_type source) aggs)
    (grouped columns aggs rows)
AreTyped-grouped source columns aggs rows computes typed =
    let row_of = λ (key : List Cell). group_row aggs key (rows_with columns key rows) in
    let fits = AllZip IsCellOf
    (picked (column_types source) columns ++ map (agg_type source) aggs) in
    All-map fits row_of (keys_in columns rows)
    (All-weaker (IsKeyOf (column_types source) columns rows) (λ key. fits (row_of key))
    (λ key of_rows. group_row-typed source columns aggs rows key computes typed of_rows)
    (keys_in columns rows)
    (IsKeyOf-keys_in (column_types source) columns rows typed))
