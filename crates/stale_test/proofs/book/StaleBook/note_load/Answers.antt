-- The book tells of the journal with the load.
use Rattle.std.proofs.Common.{refl}
use Rattle.stale_test.proofs.HistoryLemmas.{AreBefore-next}
use Rattle.stale_test.proofs.NoteLemmas.{TellsStale-Load}
use Rattle.stale_test.proofs.book.StaleBook.note_load.Goals as goal

pub returns-clause-exact : goal.returns-clause-exact
returns-clause-exact c =
    rw (← c.self.view_is)
    (λ desc journal delivery ready tells touched.
    TellsStale-Load desc journal delivery c.args.touched.now _ _
    record {
      touched = touched;
      tells = tells;
      ready = ready;
      before = AreBefore-next c.self.inside.entries c.self.inside.kept.parts.entries
          c.self.invariant;
    }
    record {
      entries = refl;
      parts = c.load.ensures.exact.parts;
      unsettled = c.load.ensures.exact.unsettled;
    })
