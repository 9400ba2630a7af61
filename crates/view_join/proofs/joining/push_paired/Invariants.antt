use Rattle.std.proofs.Common.{◌≡◌, ◌++◌, take}
use Rattle.view_join.specs.Pairs.{paired}
use Rattle.view_join.proofs.joining.push_paired.Given as goal

-- the rows are those from before, and those of the left rows so far
abbrev pub invariant-loop-place : goal.invariant-loop-place
invariant-loop-place g l = l.rows
    ≡ l.fn.rows ++ paired l.columns l.index.entries (take l.place (g.L.Part.rows l.part))
