-- The numbers that were passed, and those ahead that were accepted, are the same as at the start.
use Rattle.std.proofs.Common.{◌≡◌, ℕ, length}
use Rattle.std.specs.Prelude.{◌||◌, nat_lt}
use Rattle.depot_marks.specs.Numbers.{flag_at}
use Rattle.depot_marks.proofs.numbers.pass_accepted.Given as goal

abbrev pub invariant-loop-number : goal.invariant-loop-number
invariant-loop-number l = (number : ℕ)
    → (nat_lt number l.missing || flag_at l.ahead.entries number)
    ≡ (nat_lt number l.fn.from || flag_at l.fn.ahead.entries number)

abbrev pub decreases-loop-number : goal.decreases-loop-number
decreases-loop-number l = length l.ahead.entries
