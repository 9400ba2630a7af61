-- The next id is a later one, or the one that would be free.
use Rattle.query_pin.proofs.FreeLemmas.{HasPassed-step, IsLeastFree-gap}
use Rattle.query_pin.proofs.pins.least_free.Goals as goal

pub returns-then-id-free : goal.returns-then-id-free
returns-then-id-free c = record {
  exact = IsLeastFree-gap c.args.pins.now.entries c.loop-id.free c.in-Some.id.now c.next.new.self
      (rw c.in-Some.ensures.steps at c.loop-id.invariant) c.if-id-free.true;
}

pub loop-id-preserved : goal.loop-id-preserved
loop-id-preserved c =
    HasPassed-step c.args.pins.now.entries c.loop-id.free c.in-Some.id.now c.next.new.self
    (rw c.in-Some.ensures.steps at c.loop-id.invariant) c.if-id-free.false
