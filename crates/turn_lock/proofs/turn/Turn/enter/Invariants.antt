use Rattle.std.proofs.Common.{◌≡◌}
use Rattle.turn_lock.proofs.turn.Turn.enter.Given as goal

-- the seat is that of the pass, and knows what it knew
abbrev pub invariant-loop : goal.invariant-loop
invariant-loop g l = (l.seat.table_id ≡ l.fn.pass.seat.table_id) × (l.seat.me ≡ l.fn.pass.seat.me)
