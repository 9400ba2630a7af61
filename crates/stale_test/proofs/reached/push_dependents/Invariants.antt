use Rattle.std.proofs.Common.{◌≡◌, ◌++◌, take}
use Rattle.std.specs.Prelude.{flat_map}
use Rattle.partition_map.specs.Partitions.{dependent_parts}
use Rattle.stale_test.proofs.reached.push_dependents.Given as goal

-- the numbers are those from before, and the dependents of the partitions so far
abbrev pub invariant-loop-part : goal.invariant-loop-part
invariant-loop-part l = l.parts.items ≡ l.fn.parts.items
    ++ flat_map (dependent_parts l.width l.source_width l.span) (take l.part-index l.source_parts)
