-- Rows against one table, as the programs that compute the definitions test them.
use Rattle.std.specs.Prelude.{List, Some, Bool, ◌&&◌, ◌==◌, map, filter}
use Rattle.depot_cell.specs.declared.cell.Cell.{Cell}
use Rattle.desc_types.specs.declared.table.Key.{Key}
use Rattle.desc_types.specs.declared.delivery.DRow.{DRow}
use Rattle.desc_types.specs.Tables.{TableOf}
use Rattle.view_meaning.specs.RawValues.{holds_cells}

-- whether a row lies in a partition of this table
abbrev pub lies_in_table : TableOf → Key → DRow → Bool
lies_in_table table key row =
    (row.table == key.table) && holds_cells (Some table) key.part row.cells

-- the cells of the rows that pass a test
abbrev pub cells_where : (DRow → Bool) → List DRow → List (List Cell)
cells_where test rows = map (λ (row : DRow). row.cells) (filter test rows)
