-- A load of the core is one of the journal.
use Rattle.std.proofs.Common.{ap, refl}
use Rattle.machine_meaning.specs.States.{State}
use Rattle.run_journal.specs.KeptJournals.{JournalOf}
use Rattle.run_journal.proofs.KeptLemmas.{IsKept-load}
use Rattle.run_journal.proofs.VersionCountLemmas.{reclaimed_of-load}
use Rattle.run_journal.proofs.journal.Journal.step_load.Goals as goal

pub returns-clause-kept : goal.returns-clause-kept
returns-clause-kept c = λ desc kept.
    IsKept-load desc c.args.self.now _ c.args.prepared.delivery
    (rw (← c.self.view_is) c.step_load.ensures.step) (rw (← c.self.view_is) refl) kept

pub returns-clause-reclaimed : goal.returns-clause-reclaimed
returns-clause-reclaimed c =
    let new : JournalOf =
    record { core = c.step_load.new.self; contents = c.self.inside.contents } in
    reclaimed_of-load c.args.self.now new c.args.prepared.delivery
    (rw (← c.self.view_is) (ap (λ (state : State). state.journal) c.step_load.ensures.step.step.1))
    (rw (← c.self.view_is) refl)
