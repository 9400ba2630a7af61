-- The ids below the number were passed, and those in the iterator are left.
use Rattle.query_pin.proofs.FreeLemmas.{HasPassed}
use Rattle.query_pin.proofs.pins.least_free.Given as goal

abbrev pub invariant-loop-id : goal.invariant-loop-id
invariant-loop-id l = HasPassed l.pins.entries l.free l.id-iterator
