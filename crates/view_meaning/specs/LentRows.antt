-- Rows that are lent where they lie.
use Rattle.std.specs.Prelude.{List, map}
use Rattle.depot_cell.specs.declared.cell.Cell.{Cell}
use Rattle.desc_types.specs.declared.delivery.DRow.{DRow}
use Rattle.view_meaning.specs.declared.lent.LentRows.{LentRows}
use Rattle.view_meaning.specs.declared.lent.LentRows.TheVariants as lent

-- the rows of a list, or the cells of some rows of a delivery
abbrev pub rows_lent : LentRows → List (List Cell)
rows_lent (lent.List rows) = rows.now
rows_lent (lent.Delivery rows) = map (λ (row : DRow). row.cells) rows.now
