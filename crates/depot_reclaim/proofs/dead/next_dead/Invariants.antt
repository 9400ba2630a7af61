-- All dead versions from the first partition on are still ahead.
use Rattle.query_pin.proofs.AheadLemmas.{ahead}
use Rattle.depot_reclaim.proofs.DeadLemmas.{HasSearched}
use Rattle.depot_reclaim.proofs.dead.next_dead.Given as goal

abbrev pub invariant-loop-dead : goal.invariant-loop-dead
invariant-loop-dead l = HasSearched l.kept l.pins l.fn.from l.next

abbrev pub decreases-loop-dead : goal.decreases-loop-dead
decreases-loop-dead l = ahead l.kept l.next
