-- The core is that of the entries so far.
use Rattle.claim_core.proofs.RestartLemmas.{HasRestored}
use Rattle.claim_core.proofs.machine.Core.restart.Given as goal

abbrev pub invariant-loop-entry : goal.invariant-loop-entry
invariant-loop-entry l =
    HasRestored l.fn.served.desc l.fn.entries.items l.yielded l.entry-iterator.rest.items l.core
