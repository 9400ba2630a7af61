-- The first place of a sorted list that tells something, among those whose keys pass a test.
use Rattle.std.proofs.Common.{◌≡◌, ◌∙◌, List, [], ◌∷◌, refl, sym, subst, cond, inl, inr}
use Rattle.std.specs.Prelude.{Bool, true, false, ◌&&◌, Option, Some, None, IsSome, All, is_some}
use Rattle.std.specs.Cmp.{IsTotalOrder}
use Rattle.std.specs.List.{AllByRecursion, filter, find, position_or_len}
use Rattle.std.specs.List.Sorted.{IsStrictlySortedBy}
use Rattle.std.specs.Map.{keys_of}
use Rattle.std.specs.BTreeMap.{is_at}
use Rattle.std.specs.Ordering.{is_gt}
use Rattle.std.specs.declared.cmp.Ordering.{Ordering}
use Rattle.std.specs.declared.cmp.Ordering.TheVariants.{Less}
use Rattle.std.proofs.lemmas.Bool.{cases_Bool, false≢true}
use Rattle.std.proofs.lemmas.Cmp.{tied_itself}
use Rattle.std.proofs.lemmas.List.Folds.{find_at}
use Rattle.std.proofs.lemmas.Option.{get_or_from_slice_get, none-some, same_Some, slice_get_within}
use Rattle.query_pin.specs.Kept.{told_at}
use Rattle.query_pin.proofs.PlaceLemmas.{TellsApart}

-- whether an entry tells something
abbrev pub is_told : {K X : Type 0} → K × Option X → Bool
is_told entry = is_some entry.1

-- whether an entry tells something, and its key passes a test
abbrev pub is_told_at : {K X : Type 0} → (passes : K → Bool) → K × Option X → Bool
is_told_at passes entry = passes entry.0 && is_some entry.1

-- to find one among those that pass is to find one that passes both tests
pub find-filter : {X : Type 0} (passes test : X → Bool) (xs : List X)
    → find test (filter passes xs) ≡ find (λ x. passes x && test x) xs
find-filter passes test [] = refl
find-filter passes test (x ∷ xs) =
    elim (cases_Bool (passes x)) [
      | inl passed ↦ rw (passed, find-filter passes test xs) refl
      | inr failed ↦ rw failed (find-filter passes test xs)
    ]

-- what is found has what all have
pub find-All : {X : Type 0} (P : X → Type 0) (test : X → Bool) (xs : List X) (x : X)
    → All P xs → find test xs ≡ Some x → P x
find-All P test xs x all found =
    let at = sym (find_at test xs) ∙ found in
    subst P (get_or_from_slice_get xs (position_or_len test xs) x x at)
    (all (position_or_len test xs) x (slice_get_within xs (position_or_len test xs) x at))

-- a choice comes to none only if its test fails, and the rest is none
cond-none : {X : Type 0} (test : Bool) (x : X) (rest : Option X) → cond test (Some x) rest ≡ None
    → (test ≡ false) × (rest ≡ None)
cond-none true x rest none = absurd (none-some x (sym none))
cond-none false x rest none = (refl, none)

-- a place that does not tell is told nothing of
told-none : {X : Type 0} (passes : Bool) (told : Option X) → passes ≡ true
    → (passes && is_some told) ≡ false → told ≡ None
told-none passes None passed none = refl
told-none passes (Some x) passed none = absurd (false≢true (sym none ∙ rw passed refl))

-- where none is found, no key that passes is told anything of
pub told_at-none : {K X : Type 0} (cmp : K → K → Ordering) → TellsApart cmp
    → (passes : K → Bool) (list : List (K × Option X)) → find (is_told_at passes) list ≡ None
    → (key : K) → passes key ≡ true → told_at cmp list key ≡ None
told_at-none cmp same passes [] none key passed = refl
told_at-none cmp same passes ((first, told) ∷ later) none key passed =
    let parts = cond-none (passes first && is_some told) (first, told)
    (find (is_told_at passes) later) none in
    elim (cases_Bool (is_at (cmp key) first)) [
      | inl here ↦ rw here
          (told-none (passes first) told (rw (← same key first here) passed) parts.0)
      | inr apart ↦ rw apart (told_at-none cmp same passes later parts.1 key passed)
    ]

-- a key that is told anything of has what all keys have
told_at-All : {K X : Type 0} (cmp : K → K → Ordering) → TellsApart cmp
    → (P : K → Type 0) (list : List (K × Option X)) → AllByRecursion P (keys_of list)
    → (key : K) → IsSome (told_at cmp list key) → P key
told_at-All cmp same P [] all key told = absurd (false≢true told)
told_at-All cmp same P ((first, here) ∷ later) all key told =
    elim (cases_Bool (is_at (cmp key) first)) [
      | inl at ↦ subst P (sym (same key first at)) all.0
      | inr apart ↦ told_at-All cmp same P later all.1 key (rw apart at told)
    ]

-- a key that passes is told of after the first, if that does not tell
told-later : {K X : Type 0} (cmp : K → K → Ordering) → TellsApart cmp
    → (passes : K → Bool) (first : K) (here : Option X) (later : List (K × Option X))
    → (passes first && is_some here) ≡ false → (key : K) → passes key ≡ true
    → IsSome (told_at cmp ((first, here) ∷ later) key) → IsSome (told_at cmp later key)
told-later cmp same passes first here later silent key passed told =
    elim (cases_Bool (is_at (cmp key) first)) [
      | inl at ↦
          let none = told-none (passes first) here (rw (← same key first at) passed) silent in
          absurd (false≢true (rw (at, none) at told))
      | inr apart ↦ rw apart at told
    ]

-- no key that is told anything of is before the first of a sorted list
told_at-first : {K X : Type 0} (cmp : K → K → Ordering) → IsTotalOrder cmp
    → TellsApart cmp → (first : K) (here : Option X) (later : List (K × Option X))
    → IsStrictlySortedBy cmp (first ∷ keys_of later)
    → (key : K) → IsSome (told_at cmp ((first, here) ∷ later) key)
    → is_gt (cmp first key) ≡ false
unfolding IsStrictlySortedBy
told_at-first cmp total same first here later sorted key told =
    elim (cases_Bool (is_at (cmp key) first)) [
      | inl at ↦ rw (same key first at, tied_itself total first) refl
      | inr apart ↦
          let less = told_at-All cmp same (λ other. cmp first other ≡ Less) later sorted.0 key
          (rw apart at told) in
          rw less refl
    ]

-- the first that is found is before no other key that passes and is told anything of
pub told_at-found : {K X : Type 0} (cmp : K → K → Ordering) → IsTotalOrder cmp
    → TellsApart cmp → (passes : K → Bool) (list : List (K × Option X))
    → IsStrictlySortedBy cmp (keys_of list)
    → (found : K × Option X) → find (is_told_at passes) list ≡ Some found
    → (key : K) → passes key ≡ true → IsSome (told_at cmp list key)
    → is_gt (cmp found.0 key) ≡ false
unfolding IsStrictlySortedBy
told_at-found cmp total same passes [] sorted found is key passed told =
    absurd (none-some found is)
told_at-found cmp total same passes ((first, here) ∷ later) sorted found is key passed told =
    elim (cases_Bool (passes first && is_some here)) [
      | inl tells ↦
          let first_is = same_Some (first, here) found (rw tells at is) in
          subst (λ entry. is_gt (cmp entry.0 key) ≡ false) first_is
          (told_at-first cmp total same first here later sorted key told)
      | inr silent ↦
          told_at-found cmp total same passes later sorted.1 found (rw silent at is) key passed
          (told-later cmp same passes first here later silent key passed told)
    ]
