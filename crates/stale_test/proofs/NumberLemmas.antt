-- Which numbers a list has. Take `rising-same` to show that two rising lists are the same.
use Rattle.std.proofs.Common.{◌≡◌, ◌∙◌, ℕ, ◌<◌, ◌≤◌, true, false, List, []}
use Rattle.std.proofs.Common.{◌∷◌, get_or, refl, sym, ⊎_elim, arith, eqb}
use Rattle.std.specs.Prelude.{nat_eq, All}
use Rattle.std.specs.List.{list_any, dedup, AllPairs, Contains}
use Rattle.std.proofs.lemmas.Bool.{both_ways, cases_eq, cases_lt, eqb-true, eq-eqb, ne_eqb, or_left}
use Rattle.std.proofs.lemmas.Bool.{or_from, false≢true}
use Rattle.std.proofs.lemmas.List.Folds.{Any-from_list_any, list_any_at, list_any_none}
use Rattle.std.proofs.lemmas.List.Kept.{Contains-dedup_nat, Contains-from_dedup}
use Rattle.std.proofs.lemmas.Map.Views.{Contains-from_any, list_any-from_Contains}
use Rattle.std.proofs.lemmas.Cmp.{nat_eq_equiv}
use Rattle.partition_map.specs.Partitions.{has}
use Rattle.view_meaning.proofs.ListLemmas.{AllPairs-head, AllPairs-tail}
use Rattle.partition_map.proofs.BoolLemmas.{same-answer}

-- a number that a list has is one of its elements
Contains-has : (xs : List ℕ) (number : ℕ) → has xs number ≡ true → Contains xs number
Contains-has xs number there = Contains-from_any eqb-true number xs there

-- a list has each of its elements
pub has-Contains : (xs : List ℕ) (number : ℕ) → Contains xs number → has xs number ≡ true
has-Contains xs number there = list_any-from_Contains nat_eq_equiv number xs there

-- if one list has a number of another, the other has that of it
meets : (xs ys : List ℕ) → list_any (has xs) ys ≡ true → list_any (has ys) xs ≡ true
meets xs ys there =
    let one = Any-from_list_any (has xs) ys there in
    let here = Contains-has xs one.1 one.4 in
    list_any_at (has ys) xs here.0 one.1 here.1
    (rw here.2 (has-Contains ys one.1 (one.0, one.2, one.3)))

-- whether two lists have a number in common is the same either way
pub list_any-has : (xs ys : List ℕ) → list_any (has xs) ys ≡ list_any (has ys) xs
list_any-has xs ys =
    same-answer (list_any (has xs) ys) (list_any (has ys) xs) (meets xs ys) (meets ys xs)

-- a list of greater numbers does not have a number
has-above : (first number : ℕ) (xs : List ℕ) → All (λ x. first < x) xs → number ≤ first
    → has xs number ≡ false
has-above first number xs above at_most =
    list_any_none (nat_eq number) xs (λ index default within.
    let greater : first < get_or xs index default = above index default within in
    ne_eqb number (get_or xs index default) (λ same. omega arith))

-- a list has its first number
has-start : (first : ℕ) (xs : List ℕ) → has (first ∷ xs) first ≡ true
has-start first xs = or_left (nat_eq first first) (has xs first) (eq-eqb first first refl)

-- a rising list has no number below its first
has-le : (first number : ℕ) (xs : List ℕ) → All (λ x. first < x) xs
    → has (first ∷ xs) number ≡ true → first ≤ number
has-le first number xs above there = ⊎_elim
    (λ below. absurd (both_ways (has (first ∷ xs) number)
    (or_from (nat_eq number first) (has xs number) (ne_eqb number first (λ same. omega arith))
    (has-above first number xs above (omega arith))) there))
    (λ at_least. at_least)
    (cases_lt number first)

-- after its first number a list has the other numbers that it has
has-rest : (first number : ℕ) (xs : List ℕ) → (number ≡ first → ⊥)
    → has xs number ≡ has (first ∷ xs) number
has-rest first number xs other = rw (ne_eqb number first other) refl

-- two rising lists that have the same numbers are the same
pub rising-same : (xs ys : List ℕ) → AllPairs (λ x y. x < y) xs → AllPairs (λ x y. x < y) ys
    → ((number : ℕ) → has xs number ≡ has ys number) → xs ≡ ys
rising-same [] [] rising also same = refl
rising-same [] (y ∷ ys) rising also same = absurd (false≢true (same y ∙ has-start y ys))
rising-same (x ∷ xs) [] rising also same =
    absurd (false≢true (sym (same x) ∙ has-start x xs))
rising-same (x ∷ xs) (y ∷ ys) rising also same =
    let above = AllPairs-head (λ x y. x < y) x xs rising in
    let above_too = AllPairs-head (λ x y. x < y) y ys also in
    let forth = has-le y x ys above_too (sym (same x) ∙ has-start x xs) in
    let back = has-le x y xs above (same y ∙ has-start y ys) in
    let firsts : x ≡ y = omega arith in
    let rest : (number : ℕ) → has xs number ≡ has ys number = λ number. ⊎_elim
    (λ here. has-above x number xs above (omega arith)
    ∙ sym (has-above y number ys above_too (omega arith)))
    (λ other. has-rest x number xs other ∙ same number
    ∙ sym (has-rest y number ys (λ here. other (here ∙ sym firsts))))
    (cases_eq number x) in
    λ i. firsts i ∷ rising-same xs ys (AllPairs-tail (λ x y. x < y) x xs rising)
    (AllPairs-tail (λ x y. x < y) y ys also) rest i

-- a list without the doubles that stand together has the same numbers
pub has-dedup : (xs : List ℕ) (number : ℕ) → has (dedup eqb xs) number ≡ has xs number
has-dedup xs number = same-answer (has (dedup eqb xs) number) (has xs number)
    (λ kept. has-Contains xs number
    (Contains-from_dedup eqb xs number (Contains-has (dedup eqb xs) number kept)))
    (λ there. has-Contains (dedup eqb xs) number
    (Contains-dedup_nat xs number (Contains-has xs number there)))
