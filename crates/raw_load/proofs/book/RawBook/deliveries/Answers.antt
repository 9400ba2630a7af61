-- The deliveries are those of the loads.
use Rattle.raw_load.proofs.BookLemmas.{deliveries-loads_of}
use Rattle.raw_load.proofs.book.RawBook.deliveries.Goals as goal

pub returns : goal.returns
returns c = record {
  exact = rw (← c.self.view_is, deliveries-loads_of _ _ c.self.invariant.paired)
      c.as_slice.ensures.value;
}
