-- The parts have the rows of the versions so far.
use Rattle.std.proofs.Common.{◌≡◌, take}
use Rattle.raw_load.specs.Books.{rows_of}
use Rattle.run_journal.specs.KeptJournals.{contents_of, entries_of}
use Rattle.run_journal.proofs.journal.Journal.parts_of.Given as goal

abbrev pub invariant-loop-read : goal.invariant-loop-read
invariant-loop-read l = rows_of l.parts.items
    ≡ contents_of l.self.core.desc (entries_of l.self) (take l.read-index l.reads)
