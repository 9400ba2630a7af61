-- The claims of the installs of a catalogue, and what was noted of those whose places were reached.
use Rattle.std.specs.Prelude.{◌≡◌, ℕ, ◌≤◌, ◌<◌, Bool, List, All, Option, None, Some}
use Rattle.std.specs.Prelude.{Result, Ok, Err, drop, filter_map, length, map, take}
use Rattle.std.specs.declared.cmp.Ordering.{Ordering}
use Rattle.std.specs.Ordering.{nat_cmp, ordering_then}
use Rattle.std.specs.List.Sorted.{IsPermutation, IsSorted}
use Rattle.desc_types.specs.Descriptions.{DescOf}
use Rattle.desc_types.specs.Keys.{key_cmp}
use Rattle.row_codec.specs.declared.body.Body.{Body}
use Rattle.row_codec.specs.declared.body.Body.TheVariants as body
use Rattle.row_codec.specs.Bodies.{read_body}
use Rattle.view_meaning.specs.declared.journal.Entry.{Entry}
use Rattle.depot_recovery.specs.declared.claims.Claimed.{Claimed}
use Rattle.depot_recovery.specs.Claims.{may_claim}

-- claims go by their places, then by their partitions
abbrev pub claimed_cmp : Claimed → Claimed → Ordering
claimed_cmp claim other = ordering_then (nat_cmp claim.at other.at) (key_cmp claim.key other.key)

-- the claim of what was read of a body, if that is an install
abbrev pub claim_read : Result Body ℕ → Option Claimed
claim_read (Ok (body.Install key at len)) = Some (record { at = at; key = key })
claim_read (Ok (body.Load len)) = None
claim_read (Err place) = None

-- the claim of the install that a body tells, if it tells one
abbrev pub claim_in : (bytes : List ℕ) → Option Claimed
claim_in bytes = claim_read (read_body bytes)

-- the claims of installs in order, and of the first of them, whether the partition could be claimed
-- at the place of the claim
pub record ClaimsOf : Type 0 where
  pub claims : List Claimed
  pub ready : List Bool

-- claims are those of the installs among the bodies of a catalogue, of which the first is none
abbrev pub AreOfBodies : (bodies : List (List ℕ)) → List Claimed → Type 0
AreOfBodies bodies claims = IsPermutation (filter_map claim_in (drop 1 bodies)) claims

-- whether a claim was right, by the journal up to its place
abbrev pub was_right : DescOf → List Entry → Claimed → Bool
was_right desc journal claim = may_claim desc (take claim.at journal) claim.key

-- claims are in order; the first of them were looked at, and none at a place to come
pub record AreNoted (desc : DescOf) (journal : List Entry) (of : ClaimsOf) : Type 0 where
  pub ordered : IsSorted claimed_cmp of.claims
  pub within : length of.ready ≤ length of.claims
  pub past : All (λ (claim : Claimed). claim.at ≤ length journal)
      (take (length of.ready) of.claims)
  pub rest : All (λ (claim : Claimed). length journal ≤ claim.at)
      (drop (length of.ready) of.claims)
  pub noted : of.ready ≡ map (was_right desc journal) (take (length of.ready) of.claims)

-- and each at a place that was reached was looked at
pub record AreUpToDate (desc : DescOf) (journal : List Entry) (of : ClaimsOf) : Type 0 where
  pub noted : AreNoted desc journal of
  pub rest : All (λ (claim : Claimed). length journal < claim.at)
      (drop (length of.ready) of.claims)
