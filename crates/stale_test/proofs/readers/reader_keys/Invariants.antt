-- The readers of the tables so far were found.
use Rattle.stale_test.proofs.ReaderLemmas.{AreReadersBelow}
use Rattle.stale_test.proofs.readers.reader_keys.Given as goal

abbrev pub invariant-loop-number : goal.invariant-loop-number
invariant-loop-number l = AreReadersBelow l.desc l.keys l.number l.readers.items
