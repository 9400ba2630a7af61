-- the copy has the cells so far
use Rattle.std.proofs.Common.{◌≡◌, take}
use Rattle.depot_cell.proofs.row.copy_row.Given as goal

abbrev pub invariant-loop-cell : goal.invariant-loop-cell
invariant-loop-cell l = l.copy ≡ take l.cell-index l.cell-items
