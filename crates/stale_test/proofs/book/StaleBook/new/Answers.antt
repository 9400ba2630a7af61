-- A book that holds nothing tells of the empty journal.
use Rattle.std.proofs.Common.{refl}
use Rattle.stale_test.proofs.TellsLemmas.{TellsStale-empty}
use Rattle.stale_test.proofs.book.StaleBook.new.Goals as goal

pub returns-clause-exact : goal.returns-clause-exact
returns-clause-exact c =
    λ desc. TellsStale-empty desc _ refl c.new.ensures.parts c.new.ensures.unsettled
