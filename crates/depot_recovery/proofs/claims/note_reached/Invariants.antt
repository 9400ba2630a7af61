-- The claims so far were looked at, and some are left.
use Rattle.std.proofs.Common.{◌-◌, length}
use Rattle.depot_recovery.specs.Noted.{AreNoted}
use Rattle.depot_recovery.proofs.NotedLemmas.{noted_of}
use Rattle.depot_recovery.proofs.claims.note_reached.Given as goal

abbrev pub invariant-loop-claim : goal.invariant-loop-claim
invariant-loop-claim l =
    AreNoted l.core.desc l.core.state.journal (noted_of l.claims l.ready.items)

abbrev pub decreases-loop-claim : goal.decreases-loop-claim
decreases-loop-claim l = length l.claims - length l.ready.items
