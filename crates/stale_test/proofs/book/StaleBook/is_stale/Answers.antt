-- The book tells of each partition whether it is stale.
use Rattle.stale_test.proofs.TellsLemmas.{is_stale_in-part}
use Rattle.stale_test.proofs.book.StaleBook.is_stale.Goals as goal

pub returns : goal.returns
returns c = record {
  exact = λ desc journal tells part.
      rw (c.is_stale.ensures.exact, c.standing.ensures.exact)
      (is_stale_in-part desc journal c.args.self.now c.args.key tells part);
}
