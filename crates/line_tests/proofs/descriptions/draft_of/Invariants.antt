use Rattle.std.proofs.Common.{◌≡◌}
use Rattle.line_tests.proofs.descriptions.draft_of.Given as goal

abbrev pub invariant-loop-line : goal.invariant-loop-line
invariant-loop-line l = l.draft.lines ≡ l.line-index
