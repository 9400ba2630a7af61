-- The row has the cells from before, and those of the key so far.
use Rattle.std.proofs.Common.{◌≡◌, ◌++◌, map, take}
use Rattle.view_group.proofs.grouping.push_key.Given as goal

abbrev pub invariant-loop-cell : goal.invariant-loop-cell
invariant-loop-cell l =
    l.row ≡ l.fn.row ++ map (λ cell. cell.now) (take l.cell-index l.cells)
