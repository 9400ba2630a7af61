-- the aggregates so far are the first ones
use Rattle.std.proofs.Common.{◌≡◌, map, take}
use Rattle.table_desc.specs.Declarations.{declared_agg}
use Rattle.table_desc.proofs.parts.declared_aggs.Given as goal

abbrev pub invariant-loop-agg : goal.invariant-loop-agg
invariant-loop-agg l = l.made.items ≡ map (declared_agg l.columns) (take l.agg-index l.aggs)
