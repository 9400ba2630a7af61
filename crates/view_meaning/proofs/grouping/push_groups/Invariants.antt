use Rattle.std.proofs.Common.{◌≡◌, ◌++◌, map, take}
use Rattle.view_meaning.specs.Operations.{group_row, rows_with}
use Rattle.view_meaning.proofs.grouping.push_groups.Given as goal

-- the rows are those from before, and those of the keys so far
abbrev pub invariant-loop-key : goal.invariant-loop-key
invariant-loop-key l = l.rows ≡ l.fn.rows
    ++ map (λ key. group_row l.aggs key (rows_with l.columns key l.source))
    (take l.key-index l.key-items)
