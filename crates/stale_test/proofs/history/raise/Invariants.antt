-- The histories of those so far were changed.
use Rattle.std.proofs.Common.{take}
use Rattle.stale_test.specs.Histories.{no_history, raised}
use Rattle.stale_test.specs.Places.{ChangesEach}
use Rattle.stale_test.proofs.history.raise.Given as goal

abbrev pub invariant-loop-key : goal.invariant-loop-key
invariant-loop-key l = ChangesEach (raised l.entry) no_history (take l.key-index l.keys)
    l.fn.parts.entries l.parts.entries
