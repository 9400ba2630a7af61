-- Nothing is claimed, so the least ready partition is the first unsettled one.
use Rattle.run_journal.proofs.DrainingLemmas.{first-unsettled, ready-found}
use Rattle.run_journal.proofs.journal.Journal.next_unsettled.Goals as goal

pub returns-clause-exact : goal.returns-clause-exact
returns-clause-exact c =
    first-unsettled c.args.self.now.core.desc c.args.self.now.core.state c.next_ready.result
    c.requires.kept.earlier c.requires.kept.good c.requires.kept.claims
    (rw (← c.self.view_is) c.next_ready.ensures.exact)

pub returns-clause-ready : goal.returns-clause-ready
returns-clause-ready c =
    ready-found c.args.self.now.core.desc c.args.self.now.core.state c.next_ready.result
    (rw (← c.self.view_is) c.next_ready.ensures.exact)
