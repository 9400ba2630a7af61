-- Which elements of a list pass a test: those before and after one, and how many.
use Rattle.std.proofs.Common.{◌≡◌, ◌∙◌, ◌<◌, ◌≤◌, ◌∷◌, ℕ, zero, suc, List, [], arith, cond, drop, inl, inr}
use Rattle.std.proofs.Common.{length, refl, sym, true}
use Rattle.std.specs.List.{list_any}
use Rattle.std.specs.Prelude.{Bool, IfSome, false, filter, nat_lt, slice_get, ◌||◌}
use Rattle.std.proofs.lemmas.Bool.{cases_lt, false≢true, le-ltb, lt-ltb, or_left, or_parts, or_right}

-- if no element passes a test, none does after some of them
pub list_any-drop_none : {X : Type 0} (test : X → Bool) (list : List X) (count : ℕ)
    → list_any test list ≡ false → list_any test (drop count list) ≡ false
list_any-drop_none test list zero none = none
list_any-drop_none test [] (suc count) none = refl
list_any-drop_none test (first ∷ later) (suc count) none =
    list_any-drop_none test later count (or_parts (test first) (list_any test later) none).1

-- if none passes it after some of them, none does after more
list_any-drop_after : {X : Type 0} (test : X → Bool) (list : List X) (count more : ℕ)
    → list_any test (drop count list) ≡ false → count ≤ more
    → list_any test (drop more list) ≡ false
list_any-drop_after test list zero more none fewer = list_any-drop_none test list more none
list_any-drop_after test [] (suc count) more none fewer = list_any-drop_none test [] more refl
list_any-drop_after test (first ∷ later) (suc count) zero none fewer = absurd (omega arith)
list_any-drop_after test (first ∷ later) (suc count) (suc more) none fewer =
    list_any-drop_after test later count more none (omega arith)

-- up to one that passes it, one does
pub list_any-drop_before : {X : Type 0} (test : X → Bool) (list : List X) (place count : ℕ)
    → place < length list → IfSome (slice_get list place) (λ there. test there ≡ true)
    → count ≤ place → list_any test (drop count list) ≡ true
list_any-drop_before test [] place count within there before = absurd (omega arith)
list_any-drop_before test (first ∷ later) zero zero within there before =
    or_left (test first) (list_any test later) there
list_any-drop_before test (first ∷ later) zero (suc count) within there before =
    absurd (omega arith)
list_any-drop_before test (first ∷ later) (suc place) zero within there before =
    or_right (test first) (list_any test later)
    (list_any-drop_before test later place zero (omega arith) there (omega arith))
list_any-drop_before test (first ∷ later) (suc place) (suc count) within there before =
    list_any-drop_before test later place count (omega arith) there (omega arith)

-- one that passes it, and after which none does, is the last
pub list_any-drop_last : {X : Type 0} (test : X → Bool) (list : List X) (place count : ℕ)
    → place < length list → IfSome (slice_get list place) (λ there. test there ≡ true)
    → list_any test (drop (suc place) list) ≡ false
    → list_any test (drop count list) ≡ nat_lt count (suc place)
list_any-drop_last test list place count within there alone =
    elim (cases_lt count (suc place)) [
      | inl before ↦
          list_any-drop_before test list place count within there (omega (arith, before))
          ∙ sym (lt-ltb count (suc place) before)
      | inr after ↦ list_any-drop_after test list (suc place) count alone after
          ∙ sym (le-ltb count (suc place) after)
    ]

-- a test that finds an element keeps one
pub length-filter_some : {X : Type 0} (test : X → Bool) (xs : List X) → list_any test xs ≡ true
    → 0 < length (filter test xs)
length-filter_some test [] found = absurd (false≢true found)
length-filter_some test (x ∷ xs) found = at_test (test x) found (length-filter_some test xs)
  where
    at_test : (first : Bool) → (first || list_any test xs) ≡ true
        → (list_any test xs ≡ true → 0 < length (filter test xs))
        → 0 < length (cond first (x ∷ filter test xs) (filter test xs))
    at_test true found later = omega arith
    at_test false found later = later found
