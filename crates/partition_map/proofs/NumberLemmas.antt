-- Which numbers a list has.
use Rattle.std.proofs.Common.{◌≡◌, ◌∙◌, ℕ, suc, zero, ◌+◌, ◌<◌, ◌≤◌, Bool, true, List, [], ◌∷◌}
use Rattle.std.proofs.Common.{arith}
use Rattle.std.specs.Prelude.{◌&&◌, nat_lt, nat_le, max, min}
use Rattle.std.specs.List.{filter, range_with_len}
use Rattle.std.proofs.lemmas.Bool.{and_parts, and_from, ltb-true, lt-ltb, le-leb}
use Rattle.std.proofs.lemmas.Bool.Decides.{nat_tests}
use Rattle.std.proofs.Math.Nat.{le-mul_of_pos_right}
use Rattle.partition_map.specs.Partitions.{start_of, end_of, is_met, parts_met, has}
use Rattle.partition_map.proofs.BoolLemmas.{same-answer}

-- a filtered list has the numbers of the list that pass
pub has-filter : (test : ℕ → Bool) (xs : List ℕ) (number : ℕ)
    → has (filter test xs) number ≡ (test number && has xs number)
has-filter test [] number = grind arith
has-filter test (x ∷ xs) number = grind (arith, nat_tests, has-filter test xs number)

-- a run of numbers has those from its first up to its end
pub has-range_with_len : (from many number : ℕ)
    → has (range_with_len from many) number ≡ (nat_le from number && nat_lt number (from + many))
has-range_with_len from zero number = grind (arith, nat_tests)
has-range_with_len from (suc many) number =
    grind (arith, nat_tests, has-range_with_len (from + 1) many number)

-- a number below a bound is one of the run below it
pub has-run : (bound number : ℕ) → number < bound → has (range_with_len 0 bound) number ≡ true
has-run bound number below =
    has-range_with_len 0 bound number
    ∙ and_from (nat_le 0 number) (nat_lt number (0 + bound)) (le-leb 0 number (omega arith))
    (lt-ltb number (0 + bound) (omega arith))

-- a partition is among those that share a tick with a span exactly if it does
pub has-parts_met : (width from to part : ℕ)
    → has (parts_met width from to) part ≡ is_met width from to part
has-parts_met width from to part =
    let met = is_met width from to part in
    let run = has (range_with_len 0 to) part in
    has-filter (is_met width from to) (range_with_len 0 to) part
    ∙ same-answer (met && run) met
    (λ both. (and_parts met run both).0)
    (λ yes. and_from met run yes (has-run to part (below_end yes)))
  where
    below_end : is_met width from to part ≡ true → part < to
    below_end met =
        let shared = ltb-true (max (start_of width part) from) (min (end_of width part) to) met in
        let some : 0 < width = omega arith in
        let at_most : part ≤ start_of width part = le-mul_of_pos_right part some in
        omega arith
