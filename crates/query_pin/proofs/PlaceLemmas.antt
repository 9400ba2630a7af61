-- What the places of a list have in them, as one of them changes.
use Rattle.std.proofs.Common.{◌≡◌, List, refl, sym, cond, inl, inr}
use Rattle.std.specs.Prelude.{true, Option, Some, None}
use Rattle.std.specs.Map.{lookup}
use Rattle.std.specs.BTreeMap.{is_at}
use Rattle.std.specs.declared.cmp.Ordering.{Ordering}
use Rattle.std.proofs.lemmas.Bool.{cases_Bool}
use Rattle.query_pin.specs.Kept.{told_at}

-- keys that compare as equal are the same
abbrev pub TellsApart : {K : Type 0} → (K → K → Ordering) → Type 0
TellsApart {K} cmp = (key other : K) → is_at (cmp key) other ≡ true → key ≡ other

-- a place that is taken tells nothing, as before
pub told_at-place : {K X : Type 0} (cmp : K → K → Ordering) → TellsApart cmp
    → (key : K) (old new : List (K × Option X))
    → ((other : K) → lookup (is_at (cmp other)) new
    ≡ cond (is_at (cmp key) other) (Some None) (lookup (is_at (cmp other)) old))
    → told_at cmp old key ≡ None
    → (other : K) → told_at cmp new other ≡ told_at cmp old other
told_at-place {X = X} cmp same key old new updates none other =
    elim (cases_Bool (is_at (cmp key) other)) [
      | inl here ↦ rw (updates other, here, ← same key other here) (sym none)
      | inr apart ↦ rw (updates other, apart) refl
    ]
