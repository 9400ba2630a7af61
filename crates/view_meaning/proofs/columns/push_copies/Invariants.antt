use Rattle.std.proofs.Common.{◌≡◌, ◌++◌, take}
use Rattle.view_meaning.proofs.columns.push_copies.Given as goal

-- the row has the cells from before, and those so far
abbrev pub invariant-loop-cell : goal.invariant-loop-cell
invariant-loop-cell l = l.row ≡ l.fn.row ++ take l.cell-index l.cells
