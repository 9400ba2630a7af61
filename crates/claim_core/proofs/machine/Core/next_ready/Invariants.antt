-- All ready partitions from the first one on are still ahead.
use Rattle.claim_core.proofs.NextLemmas.{HasPassed, ahead}
use Rattle.claim_core.proofs.machine.Core.next_ready.Given as goal

abbrev pub invariant-loop-key : goal.invariant-loop-key
invariant-loop-key l = HasPassed l.self.desc l.self.state l.fn.from l.from

abbrev pub decreases-loop-key : goal.decreases-loop-key
decreases-loop-key l = ahead l.self.desc l.from
