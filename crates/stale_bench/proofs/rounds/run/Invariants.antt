-- Each round so far has made at most five entries.
use Rattle.std.proofs.Common.{◌≤◌, ◌*◌}
use Rattle.stale_bench.proofs.rounds.run.Given as goal

abbrev pub invariant-loop-round : goal.invariant-loop-round
invariant-loop-round l = l.book.entries ≤ 5 * l.round
