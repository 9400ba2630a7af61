use Rattle.std.proofs.Common.{◌≡◌, take}
use Rattle.view_meaning.specs.Operations.{group_row}
use Rattle.view_meaning.proofs.grouping.group_row.Given as goal

-- the row has the key, and the aggregates so far
abbrev pub invariant-loop-agg : goal.invariant-loop-agg
invariant-loop-agg l = l.row ≡ group_row (take l.agg-index l.aggs) l.key l.group
