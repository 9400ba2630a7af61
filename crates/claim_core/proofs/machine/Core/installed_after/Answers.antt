-- Which entries are installs stands in the steps alone.
use Rattle.std.proofs.Common.{◌∙◌, sym}
use Rattle.claim_core.proofs.JournalViewLemmas.{installed-steps}
use Rattle.claim_core.proofs.machine.Core.installed_after.Goals as goal

pub returns : goal.returns
returns c = record {
  exact = rw (← c.self.view_is) (rw c.deref.ensures.value at c.installed_at.ensures.exact
      ∙ sym (installed-steps c.self.inside.order.items _ c.args.count c.self.invariant.loads.loads));
}
