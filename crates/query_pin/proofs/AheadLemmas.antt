-- How many places of replaced versions stand from a version on. A loop that goes from one replaced
-- version to the next ends, since each time fewer are ahead.
use Rattle.std.proofs.Common.{◌≡◌, ◌<◌, ◌≤◌, ◌+◌, ℕ, List, [], ◌∷◌, length, refl, cond}
use Rattle.std.proofs.Common.{arith, inl, inr}
use Rattle.std.specs.Prelude.{Bool, true, false, not, ◌==◌, Option, Some, None, IsSome}
use Rattle.std.specs.List.{filter}
use Rattle.std.specs.Map.{lookup}
use Rattle.std.specs.Option.{unwrap_or}
use Rattle.std.specs.BTreeMap.{is_at}
use Rattle.std.specs.Ordering.{is_gt}
use Rattle.std.specs.declared.cmp.Ordering.TheVariants.{Less}
use Rattle.std.proofs.lemmas.Bool.{cases_Bool, false≢true, not-true}
use Rattle.std.proofs.lemmas.Bool.Decides.{nat_tests}
use Rattle.std.proofs.lemmas.Cmp.{upto}
use Rattle.query_pin.specs.declared.input.Input.{Input}
use Rattle.query_pin.specs.declared.newest.Newest.{Newest}
use Rattle.query_pin.specs.Inputs.{input_cmp}
use Rattle.query_pin.specs.Kept.{IsFrom, IsReplaced, KeptListOf, newest_at, newest_entry_or}
use Rattle.query_pin.specs.Kept.{number_of, replaced_at}
use Rattle.query_pin.proofs.OrderLemmas.{input_cmp-same, input_cmp-total}

-- whether a version is not before another
abbrev pub is_from : (from read : Input) → Bool
is_from from read = not (is_gt (input_cmp from read))

-- how many places of replaced versions stand from a version on
abbrev pub ahead : KeptListOf → (from : Input) → ℕ
ahead kept from = length (filter (λ place. is_from from place.0) kept.replaced)

-- of two lists the shorter stays so, if an item that it gains is gained by the other too
length-cond : {X : Type 0} (few much : Bool) (x : X) (fewer more : List X) (by : ℕ)
    → (few ≡ true → much ≡ true) → length fewer + by ≤ length more
    → length (cond few (x ∷ fewer) fewer) + by ≤ length (cond much (x ∷ more) more)
length-cond true true x fewer more by implies le = omega (arith, le)
length-cond true false x fewer more by implies le = absurd (false≢true (implies refl))
length-cond false true x fewer more by implies le = omega (arith, le)
length-cond false false x fewer more by implies le = le

-- a test that passes less keeps no more
length-filter-le : {X : Type 0} (fewer more : X → Bool)
    → ((x : X) → fewer x ≡ true → more x ≡ true) → (xs : List X)
    → length (filter fewer xs) ≤ length (filter more xs)
length-filter-le fewer more implies [] = omega arith
length-filter-le fewer more implies (x ∷ xs) =
    let later = length-filter-le fewer more implies xs in
    let both = length-cond (fewer x) (more x) x (filter fewer xs) (filter more xs) 0 (implies x)
    (omega (arith, later)) in
    omega (arith, both)

-- a first item that only one test passes makes the difference
length-filter-first : {X : Type 0} (fewer more : X → Bool)
    → ((x : X) → fewer x ≡ true → more x ≡ true) → (x : X) (xs : List X)
    → fewer x ≡ false → more x ≡ true
    → length (filter fewer (x ∷ xs)) + 1 ≤ length (filter more (x ∷ xs))
length-filter-first fewer more implies x xs drops keeps =
    rw (drops, keeps) (omega (arith, length-filter-le fewer more implies xs))

-- a test that passes less keeps fewer, if it drops an entry that is found
length-filter-lookup : {K X : Type 0} (fewer more : K × X → Bool)
    → ((entry : K × X) → fewer entry ≡ true → more entry ≡ true) → (test : K → Bool)
    → ((entry : K × X) → test entry.0 ≡ true → (fewer entry ≡ false) × (more entry ≡ true))
    → (list : List (K × X)) → IsSome (lookup test list)
    → length (filter fewer list) + 1 ≤ length (filter more list)
length-filter-lookup fewer more implies test drops [] found = absurd (false≢true found)
length-filter-lookup fewer more implies test drops (first ∷ later) found =
    elim (cases_Bool (test first.0)) [
      | inl here ↦ length-filter-first fewer more implies first later (drops first here).0
          (drops first here).1
      | inr apart ↦ length-cond (fewer first) (more first) first (filter fewer later)
          (filter more later) 1 (implies first)
          (length-filter-lookup fewer more implies test drops later (rw apart at found))
    ]

-- a version that was replaced stands among the replaced ones
replaced_at-replaced : (newest : Option Newest) (version : ℕ) (other : Option ℕ)
    → IsSome (newest_entry_or newest version other) → version < number_of newest → IsSome other
replaced_at-replaced None version other told below = told
replaced_at-replaced (Some newest) version other told below =
    let apart : (version == newest.version) ≡ false = grind (arith, nat_tests, below) in
    rw apart at told

-- so its place is found
place-replaced : (kept : KeptListOf) (read : Input) → IsReplaced kept read
    → IsSome (lookup (is_at (input_cmp read)) kept.replaced)
place-replaced kept read is =
    place (lookup (is_at (input_cmp read)) kept.replaced)
    (replaced_at-replaced (newest_at kept.newest read.key) read.version
    (replaced_at kept.replaced read) is.held is.replaced)
  where
    place : (place : Option (Option ℕ)) → IsSome (unwrap_or place None) → IsSome place
    place None none = none
    place (Some entry) told = refl

-- after a replaced version that is not before another fewer are ahead
pub ahead-after : (kept : KeptListOf) (from read after : Input) → IsReplaced kept read
    → IsFrom from read → input_cmp read after ≡ Less → ahead kept after < ahead kept from
ahead-after kept from read after is there above =
    omega (
      arith,
      length-filter-lookup (λ place. is_from after place.0) (λ place. is_from from place.0)
          (λ place later. from_later place.0 later) (is_at (input_cmp read))
          (λ place at. rw (← input_cmp-same read place.0 at) (
            rw (input_cmp-total.antisymm after read, above) refl,
            rw there refl,
          ))
          kept.replaced (place-replaced kept read is),
    )
  where
    from_later : (key : Input) → is_from after key ≡ true → is_from from key ≡ true
    from_later key later =
        rw (upto input_cmp-total from after key
        (upto input_cmp-total from read after there (rw above refl))
        (not-true (is_gt (input_cmp after key)) later)) refl
