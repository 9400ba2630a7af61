use Rattle.std.proofs.Common.{◌≡◌, take}
use Rattle.view_meaning.specs.Parts.{rows_in}
use Rattle.view_join.specs.Pairs.{paired}
use Rattle.view_join.proofs.joining.paired.Given as goal

-- the rows are those of the left parts so far
abbrev pub invariant-loop-part : goal.invariant-loop-part
invariant-loop-part g l = l.rows
    ≡ paired l.columns l.index.entries (rows_in g.L.Part.rows (take l.part-index l.left))
