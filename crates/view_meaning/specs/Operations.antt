-- What a view makes of the rows of its sources.
use Rattle.std.specs.Prelude.{ℕ, ℤ, pos, ◌+ℤ◌, List, [], ◌∷◌, ◌++◌, Option, Some, None, Bool, false}
use Rattle.std.specs.Prelude.{if◌then◌else◌, map, filter, filter_map, flat_map, fold, length}
use Rattle.std.specs.Prelude.{slice_get}
use Rattle.std.specs.Int.{w64, saturate_signed}
use Rattle.std.specs.List.{best_of, list_all, list_any}
use Rattle.depot_cell.specs.declared.cell.Cell.{Cell}
use Rattle.depot_cell.specs.declared.cell.Cell.TheVariants.{Int, Text}
use Rattle.depot_cell.specs.declared.cell.Op.{Op}
use Rattle.depot_cell.specs.declared.cell.Op.TheVariants.{Lt, Gt}
use Rattle.depot_cell.specs.Cells.{cell_cmp, passes, same_cells}
use Rattle.desc_types.specs.declared.view.Agg.{Agg}
use Rattle.desc_types.specs.declared.view.Cond.{Cond}
use Rattle.desc_lines.specs.declared.fun.Fun.{Fun}
use Rattle.desc_lines.specs.declared.fun.Fun.TheVariants.{Sum, Count, Least, Greatest}
use Rattle.desc_types.specs.declared.view.Pair.{Pair}
use Rattle.desc_types.specs.KindValues.{KindOf, Raw, Filter, Group, Join}

-- whether a condition holds of a cell that is there
abbrev pub holds_of : Cond → Option Cell → Bool
holds_of cond None = false
holds_of cond (Some cell) = passes cond.op (cell_cmp cell cond.value)

-- whether a row meets a condition on one of its columns
abbrev pub meets : List Cell → Cond → Bool
meets cells cond = holds_of cond (slice_get cells cond.column)

-- a row cut to these columns, in their order
abbrev pub cut_to : (columns : List ℕ) → List Cell → List Cell
cut_to columns cells = filter_map (slice_get cells) columns

-- the rows that meet each condition, in their order, cut to the kept columns
abbrev pub filtered : List Cond → (keep : List ℕ) → List (List Cell) → List (List Cell)
filtered conds keep rows = map (cut_to keep) (filter (λ cells. list_all (meets cells) conds) rows)

-- whether a row has these cells in these columns
abbrev pub has_key : (columns : List ℕ) → (key : List Cell) → List Cell → Bool
has_key columns key cells = same_cells key (cut_to columns cells)

-- the rows that have this key, in their order
abbrev pub rows_with : (columns : List ℕ) → (key : List Cell) → List (List Cell) → List (List Cell)
rows_with columns key rows = filter (has_key columns key) rows

-- some keys, and one more at the end if it is not among them
abbrev pub with_key : (keys : List (List Cell)) → (key : List Cell) → List (List Cell)
with_key keys key = if list_any (same_cells key) keys then keys else keys ++ key ∷ []

-- the keys of some rows, each once, in order of first appearance
abbrev pub keys_in : (columns : List ℕ) → List (List Cell) → List (List Cell)
keys_in columns rows = fold with_key [] (map (cut_to columns) rows)

-- the number of a cell; a text counts 0, and so does a cell that is not there
abbrev pub number_in : Option Cell → ℤ
number_in None = pos 0
number_in (Some (Int number)) = number
number_in (Some (Text bytes)) = pos 0

-- the sum of the numbers of a column, without a bound
abbrev pub total : (column : ℕ) → List (List Cell) → ℤ
total column rows = fold ◌+ℤ◌ (pos 0) (map (λ cells. number_in (slice_get cells column)) rows)

-- the cells of a column, row by row
abbrev pub column_of : (column : ℕ) → List (List Cell) → List Cell
column_of column rows = filter_map (λ cells. slice_get cells column) rows

-- whether an operator holds of two cells
abbrev pub beats : Op → Cell → Cell → Bool
beats op cell best = passes op (cell_cmp cell best)

-- of some cells the first that is not beaten
abbrev pub best_by : Op → List Cell → Option Cell
best_by op [] = None
best_by op (cell ∷ cells) = Some (best_of (beats op) cell cells)

-- the int of 64 bits that is nearest to a number
abbrev pub clamped : ℤ → Cell
clamped number = Int (saturate_signed w64 number)

-- what an aggregate over a column makes of the rows of a group
abbrev pub aggregated : Fun → (column : ℕ) → List (List Cell) → Option Cell
aggregated Sum column rows = Some (clamped (total column rows))
aggregated Count column rows = Some (clamped (pos (length rows)))
aggregated Least column rows = best_by Lt (column_of column rows)
aggregated Greatest column rows = best_by Gt (column_of column rows)

-- the row of a group: its key, then each aggregate over its rows
abbrev pub group_row : List Agg → (key : List Cell) → List (List Cell) → List Cell
group_row aggs key rows = key ++ filter_map (λ (agg : Agg). aggregated agg.fun agg.column rows) aggs

-- a row for each different key, in order of first appearance
abbrev pub grouped : (columns : List ℕ) → List Agg → List (List Cell) → List (List Cell)
grouped columns aggs rows =
    map (λ key. group_row aggs key (rows_with columns key rows)) (keys_in columns rows)

-- the columns of the left side of some pairs, and of the right side
abbrev pub left_columns : List Pair → List ℕ
left_columns on = map (λ (pair : Pair). pair.left) on

abbrev pub right_columns : List Pair → List ℕ
right_columns on = map (λ (pair : Pair). pair.right) on

-- the right rows that agree with a left row on all pairs, in their order
abbrev pub partners : List Pair → (cells : List Cell) → (right : List (List Cell))
    → List (List Cell)
partners on cells right = rows_with (right_columns on) (cut_to (left_columns on) cells) right

-- a row beside each of some others
abbrev pub beside : List Cell → (others : List (List Cell)) → List (List Cell)
beside cells others = map (λ other. cells ++ other) others

-- each left row beside each right row that agrees with it, in left order, then in right order
abbrev pub joined_rows : List Pair → (left right : List (List Cell)) → List (List Cell)
joined_rows on left right = flat_map (λ cells. beside cells (partners on cells right)) left

-- what a table of this kind makes of the rows of its left and right source. A filter and a group
-- have only a left one. A raw table makes nothing: its rows are those that deliveries brought.
abbrev pub operation : KindOf → (left right : List (List Cell)) → List (List Cell)
operation (Raw _ _) left right = []
operation (Filter _ conds keep) left right = filtered conds keep left
operation (Group _ columns aggs) left right = grouped columns aggs left
operation (Join _ _ on) left right = joined_rows on left right
