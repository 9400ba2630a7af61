-- The list is that of the map, whose versions are in order.
use Rattle.std.proofs.Common.{◌∙◌, append-nil, sym, subst}
use Rattle.query_pin.specs.Held.{IsListOf}
use Rattle.query_pin.specs.Kept.{entry_at}
use Rattle.query_pin.proofs.ListingLemmas.{IsListOf-dead_of}
use Rattle.query_pin.proofs.listing.list_in_order.Goals as goal

pub returns : goal.returns
returns c = record {
  exact = subst (IsListOf (entry_at c.args.held.now.entries))
      (sym (rw c.in-None.ensures.steps.0 at c.loop-read.invariant)
      ∙ append-nil c.loop-read.list.items)
      (IsListOf-dead_of c.args.held.now.entries
      c.into_iter-read-iterator.ensures.into_iter_gives.5);
}
