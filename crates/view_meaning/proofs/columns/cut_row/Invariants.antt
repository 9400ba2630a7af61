use Rattle.std.proofs.Common.{◌≡◌, take}
use Rattle.view_meaning.specs.Operations.{cut_to}
use Rattle.view_meaning.proofs.columns.cut_row.Given as goal

-- the cut has the cells of the columns so far
abbrev pub invariant-loop-column : goal.invariant-loop-column
invariant-loop-column l = l.cut ≡ cut_to (take l.column-index l.columns) l.row
