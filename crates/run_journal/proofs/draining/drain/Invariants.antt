-- The first unsettled partitions are installed, and what is kept is true.
use Rattle.std.proofs.Common.{length}
use Rattle.view_meaning.specs.Drains.{unsettled}
use Rattle.run_journal.specs.KeptJournals.{entries_of}
use Rattle.run_journal.proofs.DrainingLemmas.{IsDraining}
use Rattle.run_journal.proofs.draining.drain.Given as goal

abbrev pub invariant-keys : goal.invariant-keys
invariant-keys l = IsDraining l.fn.journal l.journal

abbrev pub decreases-keys : goal.decreases-keys
decreases-keys l = length (unsettled l.fn.journal.core.desc (entries_of l.journal))
