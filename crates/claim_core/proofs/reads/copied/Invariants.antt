-- The first so many are copied.
use Rattle.std.proofs.Common.{take, ◌≡◌}
use Rattle.claim_core.proofs.reads.copied.Given as goal

abbrev pub invariant-loop-input : goal.invariant-loop-input
invariant-loop-input l = l.copies.items ≡ take l.input-index l.inputs
