use Rattle.std.proofs.Common.{◌≡◌, take}
use Rattle.std.specs.Option.{option_copied}
use Rattle.view_meaning.specs.Operations.{best_by, column_of}
use Rattle.view_meaning.proofs.grouping.best_by.Given as goal

-- the best is that of the rows so far
abbrev pub invariant-loop-row : goal.invariant-loop-row
invariant-loop-row l = option_copied l.best
    ≡ best_by l.op (column_of l.column (take l.row-index l.row-items))
