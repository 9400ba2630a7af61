use Rattle.std.proofs.Common.{◌≡◌, ◌++◌, take}
use Rattle.view_meaning.specs.Operations.{filtered}
use Rattle.view_meaning.proofs.filtering.push_filtered.Given as goal

-- the rows are those from before, and what the filter makes of the source's so far
abbrev pub invariant-loop-row : goal.invariant-loop-row
invariant-loop-row l = l.rows ≡ l.fn.rows ++ filtered l.conds l.keep (take l.row-index l.row-items)
