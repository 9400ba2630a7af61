-- The search is on its way through the partitions: the run at hand, and those after it.
use Rattle.std.proofs.Common.{length, ◌++◌}
use Rattle.depot_marks.specs.Below.{keys_of_waiting, keys_waiting}
use Rattle.depot_marks.proofs.SearchLemmas.{IsOnItsWay}
use Rattle.depot_marks.proofs.below.look_at_all.Given as goal

abbrev pub invariant-loop-next : goal.invariant-loop-next
invariant-loop-next l =
    IsOnItsWay l.served.desc (keys_waiting l.fn.here.keys) l.fn.search
    (keys_of_waiting l.run ++ keys_waiting l.here.keys) l.search

abbrev pub decreases-loop-next : goal.decreases-loop-next
decreases-loop-next l = length l.here.keys
