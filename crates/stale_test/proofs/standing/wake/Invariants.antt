-- Those so far stand at least so badly.
use Rattle.std.proofs.Common.{take}
use Rattle.stale_test.specs.Standings.{WakesEach}
use Rattle.stale_test.proofs.standing.wake.Given as goal

abbrev pub invariant-loop-key : goal.invariant-loop-key
invariant-loop-key l =
    WakesEach l.standing (take l.key-index l.keys) l.fn.unsettled.entries l.unsettled.entries
