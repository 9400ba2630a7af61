-- A dead version is dropped with its rows.
use Rattle.run_journal.proofs.ReclaimLemmas.{IsKept-reclaim}
use Rattle.run_journal.proofs.journal.Journal.drop_dead.Goals as goal

pub returns-clause-kept : goal.returns-clause-kept
returns-clause-kept c = λ desc.
    IsKept-reclaim desc c.args.self.now _ c.args.dead c.requires.entry
    (rw (← c.self.view_is) c.step_reclaim.ensures.step)
    (rw (← c.self.view_is) c.remove.ensures.exact)
    (rw (← c.self.view_is) c.remove.ensures.fewer)
