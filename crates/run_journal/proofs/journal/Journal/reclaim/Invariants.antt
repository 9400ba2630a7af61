-- What is kept is true, and no more rows are kept than at the start.
use Rattle.std.proofs.Common.{◌≡◌, ◌≤◌, length}
use Rattle.run_journal.specs.KeptJournals.{IsKept, entries_of}
use Rattle.run_journal.proofs.journal.Journal.reclaim.Given as goal

abbrev pub invariant-dead : goal.invariant-dead
invariant-dead l = record {
  kept : IsKept l.fn.self.core.desc l.self;
  entries : entries_of l.self ≡ entries_of l.fn.self;
  before : l.before ≡ length l.fn.self.contents;
  fewer : length l.self.contents ≤ l.before;
}

abbrev pub decreases-dead : goal.decreases-dead
decreases-dead l = length l.self.contents
