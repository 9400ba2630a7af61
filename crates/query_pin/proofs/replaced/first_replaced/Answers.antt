-- The place that the loop stops at is the first with an entry, or there is none.
use Rattle.std.proofs.Common.{◌∙◌, refl, sym}
use Rattle.query_pin.proofs.ReplacedLemmas.{IsFirstFrom-found, replaced_at-none}
use Rattle.query_pin.proofs.replaced.first_replaced.Goals as goal

pub returns-in-Some-place : goal.returns-in-Some-place
returns-in-Some-place c = record {
  exact = IsFirstFrom-found c.args.replaced.now c.args.from c.in-Some.read.now
      c.in-Some-place.entry c.range-read-items.ensures.ordered
      (rw (c.range-read-items.ensures.between tt) at c.range-read-items.ensures.in_range tt)
      (sym c.loop-read.invariant ∙ rw (c.in-Some.ensures.steps, c.in-Some-place.is) refl);
}

pub returns : goal.returns
returns c = record {
  exact = replaced_at-none c.args.replaced.now.entries c.args.from
      (sym c.loop-read.invariant ∙ rw c.in-None.ensures.steps.0 refl);
}
