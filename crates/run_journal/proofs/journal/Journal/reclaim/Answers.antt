-- No version is dead, so just those that were not replaced are kept.
use Rattle.std.proofs.Common.{◌∙◌, ap}
use Rattle.machine_meaning.specs.VersionCounts.{versions_replaced}
use Rattle.run_journal.proofs.ReclaimLemmas.{reclaimed_of-before, reclaimed_of-done}
use Rattle.run_journal.proofs.journal.Journal.reclaim.Goals as goal

pub returns-clause-all : goal.returns-clause-all
returns-clause-all c =
    reclaimed_of-done c.args.self.now.core.desc c.dead.self c.dead.invariant.kept
    (rw (← c.self-2.view_is) c.len.ensures.ordered)
    (rw (← c.self-in-dead.view_is) c.in_default.ensures.exact)
    ∙ ap versions_replaced c.dead.invariant.entries

pub returns-clause-exact : goal.returns-clause-exact
returns-clause-exact c =
    reclaimed_of-before c.args.self.now c.dead.self c.len-before.result c.len.result
    c.dead.invariant.before (rw (← c.self-2.view_is) c.len.ensures.exact)
    c.dead.invariant.fewer c.requires.kept.made
    c.dead.invariant.entries
    ∙ returns-clause-all c
