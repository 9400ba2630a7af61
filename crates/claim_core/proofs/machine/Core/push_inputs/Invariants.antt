-- What is there, and what is still to come, is all.
use Rattle.std.proofs.Common.{◌++◌, ◌≡◌}
use Rattle.claim_core.proofs.ReadingLemmas.{inputs_from}
use Rattle.claim_core.proofs.machine.Core.push_inputs.Given as goal

abbrev pub invariant-loop-part : goal.invariant-loop-part
invariant-loop-part l = l.inputs.items
    ++ inputs_from l.self.desc l.self.state.journal l.src.table l.part l.part-end
    ≡ l.initial.inputs.items
    ++ inputs_from l.self.desc l.self.state.journal l.src.table l.initial.part l.part-end
