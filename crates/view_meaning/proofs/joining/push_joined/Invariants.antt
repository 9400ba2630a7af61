use Rattle.std.proofs.Common.{◌≡◌, ◌++◌, take}
use Rattle.view_meaning.specs.Operations.{joined_rows}
use Rattle.view_meaning.proofs.joining.push_joined.Given as goal

-- the rows are those from before, and those of the left rows so far
abbrev pub invariant-loop-row : goal.invariant-loop-row
invariant-loop-row l = l.rows
    ≡ l.fn.rows ++ joined_rows l.on (take l.row-index l.row-items) l.right
