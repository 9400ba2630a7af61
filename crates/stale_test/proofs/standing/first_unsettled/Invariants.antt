-- None of the entries so far is unsettled.
use Rattle.std.proofs.Common.{◌≡◌}
use Rattle.std.specs.Prelude.{find}
use Rattle.stale_test.proofs.UnsettledLemmas.{is_open}
use Rattle.stale_test.proofs.standing.first_unsettled.Given as goal

abbrev pub invariant-loop-key : goal.invariant-loop-key
invariant-loop-key l = find is_open l.initial.key-iterator ≡ find is_open l.key-iterator
