use Rattle.std.proofs.Common.{◌≡◌, take}
use Rattle.turn_lock.specs.Passes.{told_by}
use Rattle.turn_tests.specs.Passes.{TakesTurns}
use Rattle.turn_tests.proofs.callers.add_all.Given as goal

-- all numbers so far were added
abbrev pub invariant-loop-number : goal.invariant-loop-number
invariant-loop-number g l = record {
  turn : l.pass.seat.table_id ≡ l.fn.pass.seat.table_id;
  counted : l.count ≡ l.number-index;
  told : TakesTurns (take l.number-index l.numbers) 0 (told_by l.fn.pass.seat)
      (told_by l.pass.seat);
}
