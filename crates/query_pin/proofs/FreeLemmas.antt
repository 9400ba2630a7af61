-- Which id is the least that is free, as the ids are passed in order.
use Rattle.std.proofs.Common.{◌≡◌, ◌∙◌, ℕ, ◌+◌, ◌<◌, ◌≤◌, List, ◌∷◌, length, get_or, refl, sym, arith}
use Rattle.std.specs.Prelude.{false, ◌||◌, Option, Some, None, All, is_some, nat_lt}
use Rattle.std.specs.BTreeMap.{is_at}
use Rattle.std.specs.List.{list_any}
use Rattle.std.specs.List.Sorted.{IsStrictlySortedBy}
use Rattle.std.specs.Ordering.{nat_cmp}
use Rattle.std.proofs.lemmas.Bool.{false≢true}
use Rattle.std.proofs.lemmas.Bool.Decides.{nat_tests}
use Rattle.std.proofs.lemmas.List.Elements.{All-cons, All-head}
use Rattle.std.proofs.lemmas.List.Folds.{list_any_none}
use Rattle.std.proofs.lemmas.Map.Keys.{sorted_tail}
use Rattle.std.proofs.lemmas.Map.Views.{All-after_first}
use Rattle.query_pin.specs.Pins.{IsLeastFree, PinOf, pin_at}

-- all ids below a number were passed and are taken, and some others from there on are left
pub record HasPassed (pins : List (ℕ × PinOf)) (free : ℕ) (rest : List ℕ) : Type 0 where
  pub counted : free + length rest ≡ length pins
  pub taken : (id : ℕ) → is_some (pin_at pins id)
      ≡ (nat_lt id free || list_any (is_at (nat_cmp id)) rest)
  pub ordered : IsStrictlySortedBy nat_cmp rest
  pub above : All (λ id. free ≤ id) rest

-- the ids after one are greater
above-first : (id : ℕ) (rest : List ℕ) → IsStrictlySortedBy nat_cmp (id ∷ rest)
    → All (λ later. id < later) rest
above-first id rest ordered index default within =
    grind (arith, nat_tests, All-after_first nat_cmp id rest ordered index default within)

-- the next id is the one that would be free
pub HasPassed-step : (pins : List (ℕ × PinOf)) (free id : ℕ) (rest : List ℕ)
    → HasPassed pins free (id ∷ rest) → id ≡ free → HasPassed pins (free + 1) rest
HasPassed-step pins free id rest passed same = record {
  counted = omega (arith, passed.counted);
  taken = λ other. passed.taken other ∙ grind (arith, nat_tests, same);
  ordered = sorted_tail nat_cmp id rest passed.ordered;
  above = λ index default within.
      omega (arith, above-first id rest passed.ordered index default within, same);
}

-- what is below was taken, and what is not left is free
IsLeastFree-left : (pins : List (ℕ × PinOf)) (free : ℕ) (rest : List ℕ)
    → HasPassed pins free rest → list_any (is_at (nat_cmp free)) rest ≡ false
    → IsLeastFree pins free
IsLeastFree-left pins free rest passed left = record {
  free = none (pin_at pins free) (passed.taken free ∙ grind (arith, nat_tests, left));
  least = λ lower below. passed.taken lower ∙ grind (arith, nat_tests, below);
}
  where
    none : (found : Option PinOf) → is_some found ≡ false → found ≡ None
    none None lacks = refl
    none (Some pin) lacks = absurd (false≢true (sym lacks))

-- the next id is a later one
pub IsLeastFree-gap : (pins : List (ℕ × PinOf)) (free id : ℕ) (rest : List ℕ)
    → HasPassed pins free (id ∷ rest) → (id ≡ free → ⊥) → IsLeastFree pins free
IsLeastFree-gap pins free id rest passed other =
    IsLeastFree-left pins free (id ∷ rest) passed
    (list_any_none (is_at (nat_cmp free)) (id ∷ rest)
    (All-cons (λ later. is_at (nat_cmp free) later ≡ false) id rest (apart id after)
    (λ index default within. apart (get_or rest index default)
    (omega (arith, after, above-first id rest passed.ordered index default within)))))
  where
    after : free < id
    after = omega (arith, other, All-head (λ id. free ≤ id) id rest passed.above)

    apart : (later : ℕ) → free < later → is_at (nat_cmp free) later ≡ false
    apart later greater = grind (arith, nat_tests, greater)
