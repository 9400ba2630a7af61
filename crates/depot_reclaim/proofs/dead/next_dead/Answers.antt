-- Each replaced version that is found is dead, or it is passed.
use Rattle.std.proofs.Common.{sym}
use Rattle.depot_reclaim.proofs.DeadLemmas.{HasSearched-pinned, HasSearched-start}
use Rattle.depot_reclaim.proofs.DeadLemmas.{IsLeastDead-found, ahead-next}
use Rattle.depot_reclaim.proofs.dead.next_dead.Goals as goal

pub loop-dead-init : goal.loop-dead-init
loop-dead-init c = HasSearched-start c.args.kept.now c.args.pins.now c.args.from

pub returns-then-not-is_pinned : goal.returns-then-not-is_pinned
returns-then-not-is_pinned c = record {
  exact = IsLeastDead-found c.args.kept.now c.args.pins.now c.args.from c.loop-dead.next
      c.in-Some.dead c.loop-dead.invariant c.in-Some.ensures.exact
      (sym c.if-not-is_pinned.ensures.exact);
}

pub loop-dead-smaller : goal.loop-dead-smaller
loop-dead-smaller c =
    ahead-next c.args.kept.now c.loop-dead.next c.in-Some.dead c.in-Some.ensures.exact

pub loop-dead-preserved : goal.loop-dead-preserved
loop-dead-preserved c =
    HasSearched-pinned c.args.kept.now c.args.pins.now c.args.from c.loop-dead.next
    c.in-Some.dead c.loop-dead.invariant c.in-Some.ensures.exact
    (sym c.if-not-is_pinned.ensures.exact)

pub returns : goal.returns
returns c = record {
  exact = λ read not_before dead. c.in_default.ensures.exact read
      (c.loop-dead.invariant.ahead read not_before dead)
      (record { held = dead.held; replaced = dead.replaced });
}
