-- The history of the partition is changed.
use Rattle.std.proofs.Common.{inr}
use Rattle.stale_test.specs.Histories.{installed, no_history}
use Rattle.stale_test.proofs.PlaceLemmas.{ChangesEach-one}
use Rattle.stale_test.proofs.history.install.Goals as goal

pub raised-history-requires : goal.raised-history-requires
raised-history-requires c =
    rw (c.value_of.ensures.exact, c.none.ensures.exact)
    record { few = inr (c.requires.before c.args.key).version }

pub returns : goal.returns
returns c = record {
  exact = ChangesEach-one (installed c.args.entry c.args.at) no_history c.args.key
      c.args.parts.now.entries c.put.new.map.entries
      (rw (c.raised-history.ensures.exact, c.value_of.ensures.exact, c.none.ensures.exact)
      at c.put.ensures.exact);
}
