use Rattle.std.proofs.Common.{◌≡◌, ℕ, []}
use Rattle.std.specs.Prelude.{vec_len}
use Rattle.stale_test.specs.PartLists.{lists_of, parts_at}
use Rattle.stale_test.proofs.reached.empty_lists.Given as goal

-- so many lists, each with no number
abbrev pub invariant-loop : goal.invariant-loop
invariant-loop l = record {
  each : vec_len l.lists ≡ l.counter;
  empty : (table : ℕ) → parts_at (lists_of l.lists.items) table ≡ [];
}
