-- The first number that is missing tells which numbers all lie before it.
use Rattle.std.proofs.Common.{◌≡◌, ◌∙◌, ℕ, ◌+◌, ◌<◌, ◌≤◌, ◌^◌, get_or, refl, subst, sym, arith}
use Rattle.std.proofs.Common.{inl, inr}
use Rattle.std.specs.Prelude.{true, false, nat_lt}
use Rattle.std.specs.List.{list_all, range_with_len}
use Rattle.std.proofs.lemmas.Bool.{cases_Bool, ltb-false, ltb-true}
use Rattle.std.proofs.lemmas.Bool.Decides.{nat_tests}
use Rattle.std.proofs.lemmas.List.Folds.{list_all_at}
use Rattle.std.proofs.lemmas.List.FromFn.{get_or-range_with_len, length-range_with_len}
use Rattle.std.proofs.lemmas.List.Sums.{AllPass-from_list_all, list_all-from_AllPass}
use Rattle.partition_map.proofs.ListLemmas.{All-range_with_len}
use Rattle.depot_marks.specs.Numbers.{IsLeastMissing, NumbersOf, flag_at, is_accepted}

-- all numbers up to one that is below the first that is missing were accepted
list_all-below : (numbers : NumbersOf) (last : ℕ) → last < numbers.missing
    → list_all (is_accepted numbers) (range_with_len 0 (last + 1)) ≡ true
list_all-below numbers last below =
    list_all-from_AllPass (is_accepted numbers) (range_with_len 0 (last + 1))
    (All-range_with_len (λ number. is_accepted numbers number ≡ true) 0 (last + 1)
    (λ number _ within.
    let before : nat_lt number numbers.missing ≡ true = grind (arith, nat_tests) in
    rw before refl))

-- up to one beyond it they were not, since that one is among them
list_all-beyond : (numbers : NumbersOf) (last : ℕ) → numbers.missing ≤ last
    → flag_at numbers.ahead numbers.missing ≡ false
    → list_all (is_accepted numbers) (range_with_len 0 (last + 1)) ≡ false
list_all-beyond numbers last beyond absent =
    let run = range_with_len 0 (last + 1) in
    let here : get_or run numbers.missing 0 ≡ numbers.missing =
    omega (arith, get_or-range_with_len 0 (last + 1) numbers.missing 0 (omega arith)) in
    let itself : nat_lt numbers.missing numbers.missing ≡ false = grind (arith, nat_tests) in
    list_all_at (is_accepted numbers) run numbers.missing 0
    (omega (arith, length-range_with_len 0 (last + 1))) (rw (here, itself) absent)

-- so all up to a number that a delivery can have were accepted exactly if it is below that one
pub list_all-missing : (numbers : NumbersOf) (last : ℕ) → last < 2 ^ 32
    → IsLeastMissing numbers.missing numbers.ahead
    → list_all (is_accepted numbers) (range_with_len 0 (last + 1)) ≡ nat_lt last numbers.missing
list_all-missing numbers last short least =
    elim (cases_Bool (nat_lt last numbers.missing)) [
      | inl below ↦ list_all-below numbers last (ltb-true last numbers.missing below) ∙ sym below
      | inr beyond ↦
          let far : numbers.missing ≤ last = ltb-false last numbers.missing beyond in
          list_all-beyond numbers last far (least (omega arith)) ∙ sym beyond
    ]

-- if all up to a number were accepted, so were all up to a lesser one
pub list_all-lesser : (numbers : NumbersOf) (number last : ℕ) → number ≤ last
    → list_all (is_accepted numbers) (range_with_len 0 (last + 1)) ≡ true
    → list_all (is_accepted numbers) (range_with_len 0 (number + 1)) ≡ true
list_all-lesser numbers number last lesser all =
    let run = range_with_len 0 (last + 1) in
    list_all-from_AllPass (is_accepted numbers) (range_with_len 0 (number + 1))
    (All-range_with_len (λ one. is_accepted numbers one ≡ true) 0 (number + 1) (λ one _ within.
    let here : get_or run one 0 ≡ one =
    omega (arith, get_or-range_with_len 0 (last + 1) one 0 (omega arith)) in
    subst (λ one. is_accepted numbers one ≡ true) here
    (AllPass-from_list_all (is_accepted numbers) run all one 0
    (omega (arith, length-range_with_len 0 (last + 1))))))
