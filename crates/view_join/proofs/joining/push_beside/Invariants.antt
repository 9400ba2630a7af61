use Rattle.std.proofs.Common.{◌≡◌, ◌++◌, map, take}
use Rattle.view_meaning.specs.Operations.{beside}
use Rattle.view_join.proofs.joining.push_beside.Given as goal

-- the rows are those from before, and the row beside the others so far
abbrev pub invariant-loop-other : goal.invariant-loop-other
invariant-loop-other l = l.rows
    ≡ l.fn.rows ++ beside l.row (map (λ other. other.now) (take l.other-index l.others))
