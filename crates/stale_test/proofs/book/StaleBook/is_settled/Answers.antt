-- The book tells of each partition whether it is settled.
use Rattle.std.proofs.Common.{◌∙◌, ap}
use Rattle.std.specs.Prelude.{not}
use Rattle.std.proofs.Math.Bool.{not-not}
use Rattle.view_meaning.specs.Staleness.{is_settled}
use Rattle.stale_test.specs.Standings.{tells_unsettled}
use Rattle.stale_test.proofs.TellsLemmas.{is_unsettled_in-part}
use Rattle.stale_test.proofs.book.StaleBook.is_settled.Goals as goal

pub returns : goal.returns
returns c = record {
  exact = λ desc journal tells part.
      ap not (c.is_unsettled.ensures.exact
      ∙ ap tells_unsettled c.standing.ensures.exact
      ∙ is_unsettled_in-part desc journal c.args.self.now c.args.key tells part)
      ∙ not-not (is_settled desc journal c.args.key);
}
