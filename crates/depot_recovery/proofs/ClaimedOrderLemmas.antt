-- Claims are in a total order, those that compare as equal are the same, and where they are in order
-- their places rise.
use Rattle.std.proofs.Common.{◌≡◌, ◌∙◌, ℕ, ◌<◌, ◌≤◌, List, length, get_or, ap, arith, inl, inr, refl}
use Rattle.std.specs.Prelude.{Contains, Err, true, false}
use Rattle.std.specs.Cmp.{IsTotalOrder, tied_then}
use Rattle.std.specs.List.{HoldsAt}
use Rattle.std.specs.List.Sorted.{IsBinarySearchResult, IsPartitionPoint, IsSorted}
use Rattle.std.specs.Ordering.{is_eq, is_lt, nat_cmp, ordering_then}
use Rattle.std.specs.declared.cmp.Ordering.{Ordering}
use Rattle.std.specs.declared.cmp.Ordering.TheVariants.{Less, Equal, Greater}
use Rattle.std.proofs.lemmas.Bool.{and_parts, both_ways, cases_lt}
use Rattle.std.proofs.lemmas.Bool.Decides.{nat_tests}
use Rattle.std.proofs.lemmas.Cmp.{nat_cmp_total, on_total, ranked, then_total, tied_itself}
use Rattle.std.proofs.lemmas.List.Sorted.{ranks_by, searchable_from_sorted, sorted_far}
use Rattle.desc_types.specs.Keys.{key_cmp}
use Rattle.query_pin.proofs.OrderLemmas.{key_cmp-same, key_cmp-total}
use Rattle.depot_recovery.specs.declared.claims.Claimed.{Claimed}
use Rattle.depot_recovery.specs.Noted.{claimed_cmp}

-- claims are in a total order
pub claimed_cmp-total : IsTotalOrder claimed_cmp
claimed_cmp-total =
    then_total (on_total (λ (claim : Claimed). claim.at) nat_cmp_total)
    (on_total (λ (claim : Claimed). claim.key) key_cmp-total)

-- numbers that compare as equal are the same
nat_cmp-same : (number other : ℕ) → is_eq (nat_cmp number other) ≡ true → number ≡ other
nat_cmp-same number other equal = grind (arith, nat_tests)

-- claims that compare as equal are the same
pub claimed_cmp-same : (claim other : Claimed) → claimed_cmp claim other ≡ Equal → claim ≡ other
claimed_cmp-same claim other equal =
    let places = nat_cmp claim.at other.at in
    let keys = key_cmp claim.key other.key in
    let parts = and_parts (is_eq places) (is_eq keys) (tied_then places keys ∙ ap is_eq equal) in
    let at = nat_cmp-same claim.at other.at parts.0 in
    let key = key_cmp-same claim.key other.key parts.1 in
    λ i. record { at = at i; key = key i }

-- what does not come before another by two parts does not by the first
le-not_before : (number other : ℕ) (first second : Ordering) → first ≡ nat_cmp number other
    → is_lt (ordering_then first second) ≡ false → other ≤ number
le-not_before number other Less second told after = absurd (both_ways true after refl)
le-not_before number other Equal second told after =
    let same : number ≡ other = ranked number other Equal told in omega arith
le-not_before number other Greater second told after =
    let more : other < number = ranked number other Greater told in omega arith

-- where claims are in order, a later one has no lesser place
pub places-rise : (claims : List Claimed) (first second : ℕ) (default : Claimed)
    → IsSorted claimed_cmp claims → first ≤ second → second < length claims
    → (get_or claims first default).at ≤ (get_or claims second default).at
places-rise claims first second default ordered upto within =
    let claim = get_or claims first default in
    let later = get_or claims second default in
    le-not_before later.at claim.at (nat_cmp later.at claim.at) (key_cmp later.key claim.key) refl
    (sorted_far (λ (claim other : Claimed). is_lt (claimed_cmp claim other))
    (ranks_by claimed_cmp-total (λ (claim : Claimed). claim)) claims ordered
    first second default upto within)

-- a claim that is listed does not stay unfound
pub found-Contains : (claims : List Claimed) (claim : Claimed) (place : ℕ)
    → IsSorted claimed_cmp claims → Contains claims claim
    → IsBinarySearchResult (λ (other : Claimed). claimed_cmp other claim) claims (Err place) → ⊥
found-Contains claims claim place ordered listed missed =
    let point : IsPartitionPoint (λ (it : Claimed). claimed_cmp it claim ≡ Less)
    (λ (it : Claimed). claimed_cmp it claim ≡ Greater) claims place =
    missed (searchable_from_sorted claimed_cmp-total (λ (it : Claimed). it) claims claim ordered) in
    let found : claimed_cmp (get_or claims listed.0 claim) claim ≡ Equal =
    rw listed.2 (tied_itself claimed_cmp-total claim) in
    elim (cases_lt listed.0 place) [
      | inl before ↦ let less = point.0 listed.0 claim (omega arith) before in cc
      | inr behind ↦ let greater = point.1 listed.0 claim behind listed.1 in cc
    ]

-- what is found at an index is the claim itself
pub found_at : (claims : List Claimed) (claim : Claimed) (index : ℕ)
    → HoldsAt (λ (other : Claimed). claimed_cmp other claim ≡ Equal) claims index
    → get_or claims index claim ≡ claim
found_at claims claim index equal =
    claimed_cmp-same (get_or claims index claim) claim (equal claim)
