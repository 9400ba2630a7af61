-- The book has the rows of each feed of the description.
use Rattle.std.proofs.Common.{◌∙◌, List, ap, sym}
use Rattle.desc_types.specs.Deliveries.{DeliveryOf}
use Rattle.view_meaning.specs.SetAside.{asides}
use Rattle.claim_core.proofs.JournalViewLemmas.{accepted-entries_of}
use Rattle.claim_core.proofs.machine.Core.aside.Goals as goal

pub returns : goal.returns
returns c = record {
  exact = rw (← c.self.view_is)
      (c.aside.ensures.exact
      ∙ c.self.invariant.raw.feeds.asides c.args.feed (rw (← c.self.view_is) at c.requires.within)
      ∙ ap (λ (all : List DeliveryOf). asides c.self.inside.served.desc all c.args.feed)
      (sym (accepted-entries_of c.self.inside.order.items _ c.self.invariant.loads.loads)));
}
