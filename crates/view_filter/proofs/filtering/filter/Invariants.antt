use Rattle.std.proofs.Common.{◌≡◌, take}
use Rattle.view_meaning.specs.Operations.{filtered}
use Rattle.view_meaning.specs.Parts.{rows_in}
use Rattle.view_filter.proofs.filtering.filter.Given as goal

-- the rows are what the filter makes of the parts so far
abbrev pub invariant-loop-part : goal.invariant-loop-part
invariant-loop-part g l =
    l.rows ≡ filtered l.conds l.keep (rows_in g.P.Part.rows (take l.part-index l.source))
