-- The row has the key, and the aggregates so far.
use Rattle.std.proofs.Common.{◌≡◌, map, take}
use Rattle.view_meaning.specs.Operations.{group_row}
use Rattle.view_group.proofs.grouping.group_row.Given as goal

abbrev pub invariant-loop-agg : goal.invariant-loop-agg
invariant-loop-agg l = l.row
    ≡ group_row (take l.agg-index l.aggs) l.key (map (λ member. member.now) l.members)
