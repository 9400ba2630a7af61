-- The accepted deliveries are those of the book.
use Rattle.std.proofs.Common.{sym}
use Rattle.claim_core.proofs.JournalViewLemmas.{accepted-entries_of}
use Rattle.claim_core.proofs.machine.Core.raw.Goals as goal

pub returns-clause-deliveries : goal.returns-clause-deliveries
returns-clause-deliveries c =
    rw (← c.self.view_is) (sym (accepted-entries_of c.self.inside.order.items _ c.self.invariant.loads.loads))
