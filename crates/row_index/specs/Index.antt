-- Rows by their key.
use Rattle.std.specs.Prelude.{ℕ, List, [], ◌∷◌, ◌++◌, map}
use Rattle.std.specs.Map.{lookup}
use Rattle.std.specs.Option.{unwrap_or}
use Rattle.indexmap.specs.IndexMap.{insert_entry}
use Rattle.depot_cell.specs.declared.cell.Cell.{Cell}
use Rattle.depot_cell.specs.Cells.{same_cells}
use Rattle.view_meaning.specs.Operations.{cut_to, keys_in, rows_with}

-- each different key of some rows, in order of first appearance, with the rows that have it
abbrev pub keyed : (columns : List ℕ) → List (List Cell) → List (List Cell × List (List Cell))
keyed columns rows =
    map {B = List Cell × List (List Cell)} (λ key. (key, rows_with columns key rows))
    (keys_in columns rows)

-- the rows that stand by a key
abbrev pub rows_by : List (List Cell × List (List Cell)) → (key : List Cell) → List (List Cell)
rows_by entries key = unwrap_or (lookup (same_cells key) entries) []

-- rows by their key, and one row more by its own
abbrev pub with_row : (columns : List ℕ) → List (List Cell × List (List Cell)) → List Cell
    → List (List Cell × List (List Cell))
with_row columns entries cells =
    let key = cut_to columns cells in
    insert_entry same_cells entries key (rows_by entries key ++ cells ∷ [])
