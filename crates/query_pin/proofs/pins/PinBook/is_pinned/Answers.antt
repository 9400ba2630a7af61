-- The readers tell.
use Rattle.query_pin.proofs.PinLemmas.{TellsIfRead-is_pinned}
use Rattle.query_pin.proofs.pins.PinBook.is_pinned.Goals as goal

pub returns : goal.returns
returns c = record {
  exact = rw (← c.self.view_is)
      (TellsIfRead-is_pinned c.self.inside.pins.entries c.self.inside.readers.keys _
      c.is_read_by.result c.self.invariant c.is_read_by.ensures.exact);
}
