use Rattle.std.proofs.Common.{◌≡◌, take}
use Rattle.view_meaning.specs.Operations.{rows_with}
use Rattle.view_meaning.proofs.columns.rows_with.Given as goal

-- the rows are those so far that have the key
abbrev pub invariant-loop-row : goal.invariant-loop-row
invariant-loop-row l = l.rows ≡ rows_with l.columns l.key (take l.row-index l.row-items)
