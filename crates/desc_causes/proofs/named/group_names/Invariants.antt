-- the names so far are the keys, and after them those of the aggregates so far
use Rattle.std.proofs.Common.{◌≡◌, ◌++◌, map, take}
use Rattle.desc_lines.specs.Written.{WrittenAggOf}
use Rattle.desc_causes.proofs.named.group_names.Given as goal

abbrev pub invariant-loop-agg : goal.invariant-loop-agg
invariant-loop-agg l =
    map (λ name. name.now) l.names.items ≡ map (λ key. key.now) l.keys
    ++ map (λ (agg : WrittenAggOf). agg.name) (take l.agg-index l.aggs)
