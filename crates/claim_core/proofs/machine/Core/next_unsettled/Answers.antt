-- The book tells the first unsettled partition of the journal.
use Rattle.stale_test.specs.Books.{TellsStale}
use Rattle.claim_core.proofs.NextLemmas.{IsFirstFrom-unsettled}
use Rattle.claim_core.proofs.machine.Core.next_unsettled.Goals as goal

pub returns : goal.returns
returns c =
    let desc = c.args.self.now.desc in
    let journal = c.args.self.now.state.journal in
    let tells : TellsStale desc journal c.self.inside.stale =
    rw (← c.self.view_is) c.self.invariant.stale in
    record {
      exact = IsFirstFrom-unsettled desc journal c.args.from c.next_unsettled.result
          (c.next_unsettled.ensures.exact desc journal tells);
      earlier = rw (← c.self.view_is) c.self.inside.served.is_served.earlier;
    }
