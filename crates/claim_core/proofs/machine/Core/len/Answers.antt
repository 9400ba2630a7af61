-- There is an entry for each step.
use Rattle.std.proofs.Common.{◌∙◌}
use Rattle.claim_core.proofs.JournalViewLemmas.{length-entries_of}
use Rattle.claim_core.proofs.machine.Core.len.Goals as goal

pub returns-clause-exact : goal.returns-clause-exact
returns-clause-exact c =
    rw (← c.self.view_is, length-entries_of _ _ c.self.invariant.loads.loads)
    (c.len.ensures ∙ c.self.inside.order.ok.0)
