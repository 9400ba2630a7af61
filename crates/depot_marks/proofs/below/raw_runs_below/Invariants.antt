-- The search is for what is below the partition, and what waits is of this table or an earlier one.
use Rattle.std.proofs.Common.{◌+◌}
use Rattle.depot_marks.specs.Below.{IsSearchOf}
use Rattle.depot_marks.proofs.below.raw_runs_below.Given as goal

abbrev pub invariant-loop-search : goal.invariant-loop-search
invariant-loop-search l = IsSearchOf l.served.desc l.fn.key (l.table + 1) l.search

abbrev pub decreases-loop-search : goal.decreases-loop-search
decreases-loop-search l = l.table
