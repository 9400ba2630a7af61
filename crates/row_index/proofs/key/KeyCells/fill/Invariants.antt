use Rattle.std.proofs.Common.{◌≡◌, take}
use Rattle.view_meaning.specs.Operations.{cut_to}
use Rattle.row_index.proofs.key.KeyCells.fill.Given as goal

-- the key has the cells of the columns so far
abbrev pub invariant-loop-column : goal.invariant-loop-column
invariant-loop-column l = l.self ≡ cut_to (take l.column-index l.columns) l.row
