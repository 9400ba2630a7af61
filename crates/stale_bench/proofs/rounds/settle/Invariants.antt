-- Each turn so far has made at most one entry.
use Rattle.std.proofs.Common.{◌≤◌, ◌+◌}
use Rattle.stale_bench.proofs.rounds.settle.Given as goal

abbrev pub invariant-loop : goal.invariant-loop
invariant-loop l = l.book.entries ≤ l.fn.book.entries + l.counter
