-- The standing is that by the partitions so far.
use Rattle.std.proofs.Common.{◌-◌, map}
use Rattle.std.specs.List.{range_with_len}
use Rattle.view_meaning.specs.Partitions.{key_of}
use Rattle.stale_test.specs.Standings.{IsWorst}
use Rattle.stale_test.proofs.kept.Kept.worst_read.Given as goal

abbrev pub invariant-loop-part : goal.invariant-loop-part
invariant-loop-part l = IsWorst l.self.parts.entries l.self.unsettled.entries l.at
    (map (key_of l.src.table) (range_with_len l.initial.part (l.part - l.initial.part))) l.worst
