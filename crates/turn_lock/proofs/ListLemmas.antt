-- Facts on lists by place, and on what stands in a list.
use Rattle.std.proofs.Common.{ℕ, zero, suc, ◌≡◌, ◌≢◌, ◌∙◌, ◌+◌, ◌<◌, ◌≤◌, ◌⊎◌, ⊎_elim, inl, inr, List, [], ◌∷◌, ◌++◌, ap, arith, get_or, length, refl, set, subst, sum_by, sym}
use Rattle.std.proofs.lemmas.List.Sums.{get_or-le-sum_by, sum_by-cons, sum_by-set}
use mathlib.Core.Option.{some, some-injective, some-ne-none}
use lib.ListN.{get_elem?}
use Rattle.atomic_table.proofs.Lists.{at_set, set_here}
use Rattle.turn_lock.specs.Passes.{IsIn, numbers_of}

module _ {A : Type 0} where
  -- one item stands at a place
  pub at-same : (items : List A) (place : ℕ) (one other : A)
      → get_elem? items place ≡ some one → get_elem? items place ≡ some other → one ≡ other
  at-same items place one other at also = some-injective one other (sym at ∙ also)

  -- a place at which an item stands is one of the list
  pub at-lt : (items : List A) (place : ℕ) (item : A)
      → get_elem? items place ≡ some item → place < length items
  at-lt [] place item at = absurd (some-ne-none item (sym at))
  at-lt (first ∷ rest) zero item at = omega arith
  at-lt (first ∷ rest) (suc place) item at =
      let below : place < length rest = at-lt rest place item at in omega arith

  -- an item that was set where one stood stands there
  pub at-set : (items : List A) (place : ℕ) (old item : A)
      → get_elem? items place ≡ some old → get_elem? (set items place item) place ≡ some item
  at-set items place old item at = set_here items place item (at-lt items place old at)

  -- what stands in a list with one more at its end stood there, or is the one more
  pub at-push : (items : List A) (last item : A) (place : ℕ)
      → get_elem? (items ++ last ∷ []) place ≡ some item
      → (get_elem? items place ≡ some item) ⊎ ((place ≡ length items) × (last ≡ item))
  at-push [] last item zero at = inr (refl, some-injective last item at)
  at-push [] last item (suc place) at = absurd (some-ne-none item (sym at))
  at-push (first ∷ rest) last item zero at = inl at
  at-push (first ∷ rest) last item (suc place) at =
      ⊎_elim inl (λ new. inr (ap suc new.0, new.1)) (at-push rest last item place at)

  -- a fact of each item after one was set: of the others, and of that one
  pub each-set : (items : List A) (place : ℕ) (item : A) (Fact : ℕ → A → Type 0)
      → ((other : ℕ) (kept : A) → other ≢ place → get_elem? items other ≡ some kept
      → Fact other kept)
      → Fact place item
      → (other : ℕ) (kept : A) → get_elem? (set items place item) other ≡ some kept
      → Fact other kept
  each-set items place item Fact others here other kept at = ⊎_elim
      (λ same. subst (λ seat. Fact seat kept) (sym same.0) (subst (Fact place) same.1 here))
      (λ apart. others other kept apart.0 apart.1) (at_set items place other item kept at)

  -- a fact of each item after one came
  pub each-push : (items : List A) (item : A) (Fact : ℕ → A → Type 0)
      → ((other : ℕ) (kept : A) → get_elem? items other ≡ some kept → Fact other kept)
      → Fact (length items) item
      → (other : ℕ) (kept : A) → get_elem? (items ++ item ∷ []) other ≡ some kept
      → Fact other kept
  each-push items item Fact each new other kept at = ⊎_elim (each other kept)
      (λ last. subst (λ seat. Fact seat kept) (sym last.0)
      (subst (Fact (length items)) last.1 new))
      (at-push items item kept other at)

  -- a read by place with a default finds the item
  get_or-at : (items : List A) (place : ℕ) (item : A)
      → get_elem? items place ≡ some item → get_or items place item ≡ item
  get_or-at [] place item at = absurd (some-ne-none item (sym at))
  get_or-at (first ∷ rest) zero item at = some-injective first item at
  get_or-at (first ∷ rest) (suc place) item at = get_or-at rest place item at

  -- what is in one list is in that list with more behind it
  pub IsIn-left : (item : A) (one other : List A) → IsIn item one → IsIn item (one ++ other)
  IsIn-left item [] other among = absurd among
  IsIn-left item (first ∷ rest) other among =
      ⊎_elim inl (λ later. inr (IsIn-left item rest other later)) among

  -- what is in one list is in that list with more before it
  pub IsIn-right : (item : A) (one other : List A) → IsIn item other → IsIn item (one ++ other)
  IsIn-right item [] other among = among
  IsIn-right item (first ∷ rest) other among = inr (IsIn-right item rest other among)

  -- what is in two lists joined is in one of them
  pub IsIn-append : (item : A) (one other : List A)
      → IsIn item (one ++ other) → IsIn item one ⊎ IsIn item other
  IsIn-append item [] other among = inr among
  IsIn-append item (first ∷ rest) other among =
      ⊎_elim (λ same. inl (inl same))
      (λ later. ⊎_elim (λ left. inl (inr left)) inr (IsIn-append item rest other later)) among

-- the number of what is in a list is among its numbers
pub IsIn-numbers : {A : Type 0} (item : ℕ × A) (items : List (ℕ × A))
    → IsIn item items → IsIn item.0 (numbers_of items)
IsIn-numbers {A} item [] among = absurd among
IsIn-numbers {A} item (first ∷ rest) among =
    ⊎_elim (λ same. inl (ap (λ (given : ℕ × A). given.0) same))
    (λ later. inr (IsIn-numbers item rest later)) among

module _ {A : Type 0} (f : A → ℕ) where
  -- how a sum changes if one item is set
  pub sum_by-at : (items : List A) (place : ℕ) (old item : A)
      → get_elem? items place ≡ some old
      → sum_by f (set items place item) + f old ≡ sum_by f items + f item
  sum_by-at items place old item at =
      ap (λ found. sum_by f (set items place item) + f found) (sym (get_or-at items place old at))
      ∙ sum_by-set f items place item old (at-lt items place old at)

  -- an item's summand is at most the sum
  pub sum_by-le : (items : List A) (place : ℕ) (item : A)
      → get_elem? items place ≡ some item → f item ≤ sum_by f items
  sum_by-le items place item at = subst (λ found. f found ≤ sum_by f items)
      (get_or-at items place item at)
      (get_or-le-sum_by f items place item (at-lt items place item at))

  -- a sum of zeros
  pub sum_by-none : (items : List A)
      → ((place : ℕ) (item : A) → get_elem? items place ≡ some item → f item ≡ 0)
      → sum_by f items ≡ 0
  sum_by-none [] zeros = refl
  sum_by-none (first ∷ rest) zeros = sum_by-cons f first rest
      ∙ omega (arith, zeros 0 first refl, sum_by-none rest (λ place. zeros (suc place)))
