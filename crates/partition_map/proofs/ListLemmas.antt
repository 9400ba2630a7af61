-- Facts on filters and on runs of numbers that std does not have. Take `filter-range_with_len` if a
-- test passes exactly on a run of numbers.
use Rattle.std.proofs.Common.{◌≡◌, ℕ, zero, suc, ◌+◌, ◌-◌, ◌<◌, ◌≤◌, List, [], ◌∷◌, ◌++◌}
use Rattle.std.proofs.Common.{refl, ap, arith, ◌∙◌}
use Rattle.std.specs.Prelude.{Bool, true, false, All}
use Rattle.std.specs.List.{filter, range_with_len}
use Rattle.std.proofs.lemmas.List.{append-nil}
use Rattle.std.proofs.lemmas.List.Elements.{All-head, All-tail, filter-append}
use Rattle.std.proofs.lemmas.List.FromFn.{length-range_with_len, get_or-range_with_len}

-- a test that passes no element keeps none
pub filter-none : {X : Type 0} (test : X → Bool) (xs : List X)
    → All (λ x. test x ≡ false) xs → filter test xs ≡ []
filter-none test [] fails = refl
filter-none test (x ∷ xs) fails =
    rw (All-head (λ x. test x ≡ false) x xs fails)
    (filter-none test xs (All-tail (λ x. test x ≡ false) x xs fails))

-- a test that passes each element keeps all
pub filter-all : {X : Type 0} (test : X → Bool) (xs : List X)
    → All (λ x. test x ≡ true) xs → filter test xs ≡ xs
filter-all test [] passes = refl
filter-all test (x ∷ xs) passes =
    rw (All-head (λ x. test x ≡ true) x xs passes)
    (ap (λ rest. x ∷ rest) (filter-all test xs (All-tail (λ x. test x ≡ true) x xs passes)))

-- what is true of the numbers from one on is true of each of the run
pub All-range_with_len : (P : ℕ → Type 0) (from many : ℕ)
    → ((number : ℕ) → from ≤ number → number < from + many → P number)
    → All P (range_with_len from many)
All-range_with_len P from many each index default within =
    let below : index < many = omega (arith, length-range_with_len from many) in
    rw (get_or-range_with_len from many index default below)
    (each (from + index) (omega arith) (omega arith))

-- a run of numbers is a shorter one and what follows it
pub range_with_len-append : (from many more next : ℕ) → from + many ≡ next
    → range_with_len from (many + more) ≡ range_with_len from many ++ range_with_len next more
range_with_len-append from zero more next follows =
    ap (λ (many : ℕ). range_with_len from many) (omega arith)
    ∙ ap (λ (first : ℕ). range_with_len first more) (omega arith)
range_with_len-append from (suc many) more next follows =
    let count : suc many + more ≡ suc (many + more) = omega arith in
    ap (λ (count : ℕ). range_with_len from count) count
    ∙ ap (λ rest. from ∷ rest) (range_with_len-append (from + 1) many more next (omega arith))

-- a test that passes no number of a run keeps none
filter-range_with_len-none : (test : ℕ → Bool) (from many : ℕ)
    → ((number : ℕ) → from ≤ number → number < from + many → test number ≡ false)
    → filter test (range_with_len from many) ≡ []
filter-range_with_len-none test from many fails =
    filter-none test (range_with_len from many)
    (All-range_with_len (λ number. test number ≡ false) from many fails)

-- one that passes each number of a run keeps all
filter-range_with_len-all : (test : ℕ → Bool) (from many : ℕ)
    → ((number : ℕ) → from ≤ number → number < from + many → test number ≡ true)
    → filter test (range_with_len from many) ≡ range_with_len from many
filter-range_with_len-all test from many passes =
    filter-all test (range_with_len from many)
    (All-range_with_len (λ number. test number ≡ true) from many passes)

-- the numbers below a bound are those before a run, the run, and those after it
range_with_len-parts : (from to bound : ℕ) → from ≤ to → to ≤ bound
    → range_with_len 0 bound ≡ range_with_len 0 from
    ++ (range_with_len from (to - from) ++ range_with_len to (bound - to))
range_with_len-parts from to bound in_order within =
    let whole : bound ≡ from + ((to - from) + (bound - to)) = omega arith in
    ap (λ (many : ℕ). range_with_len 0 many) whole
    ∙ range_with_len-append 0 from ((to - from) + (bound - to)) from (omega arith)
    ∙ ap (λ rest. range_with_len 0 from ++ rest)
    (range_with_len-append from (to - from) (bound - to) to (omega arith))

-- a test that passes exactly on the numbers from one up to another keeps those
pub filter-range_with_len : (test : ℕ → Bool) (from to bound : ℕ) → from ≤ to → to ≤ bound
    → ((number : ℕ) → number < from → test number ≡ false)
    → ((number : ℕ) → from ≤ number → number < to → test number ≡ true)
    → ((number : ℕ) → to ≤ number → number < bound → test number ≡ false)
    → filter test (range_with_len 0 bound) ≡ range_with_len from (to - from)
filter-range_with_len test from to bound in_order within before passes after =
    rw (
      range_with_len-parts from to bound in_order within,
      filter-append test (range_with_len 0 from)
          (range_with_len from (to - from) ++ range_with_len to (bound - to)),
      filter-append test (range_with_len from (to - from)) (range_with_len to (bound - to)),
      filter-range_with_len-none test 0 from (λ number _ below. before number (omega arith)),
      filter-range_with_len-all test from (to - from)
          (λ number at_least below. passes number at_least (omega arith)),
      filter-range_with_len-none test to (bound - to)
          (λ number at_least below. after number at_least (omega arith)),
    ) (append-nil (range_with_len from (to - from)))
