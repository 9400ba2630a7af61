use Rattle.std.proofs.Common.{◌≡◌, ◌++◌, take}
use Rattle.view_meaning.specs.Operations.{filtered}
use Rattle.view_filter.proofs.filtering.push_filtered.Given as goal

-- the rows are those from before, and what the filter makes of the part's so far
abbrev pub invariant-loop-index : goal.invariant-loop-index
invariant-loop-index g l =
    l.rows ≡ l.fn.rows ++ filtered l.conds l.keep (take l.index (g.P.Part.rows l.part))
