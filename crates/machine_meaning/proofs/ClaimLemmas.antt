-- Claims by id: which one has it, and the others.
use Rattle.std.proofs.Common.{List, Some, [], ap, cond, find, refl, subst, sym, true, ℕ, ◌∙◌, ◌∷◌}
use Rattle.std.proofs.Common.{◌≡◌, ◌≢◌}
use Rattle.std.specs.List.{AllPairs}
use Rattle.std.specs.Prelude.{All, Bool, false, not, ◌==◌}
use Rattle.std.proofs.lemmas.Bool.{eqb-false, eqb-true, false_from_ne_true, not-true}
use Rattle.std.proofs.lemmas.List.Elements.{All-cons, All-filter, All-head, All-tail, All-weaker}
use Rattle.std.proofs.lemmas.List.Elements.{filter_passes}
use Rattle.std.proofs.lemmas.Option.{none-some, same_Some}
use Rattle.desc_types.specs.declared.table.Key.{Key}
use Rattle.view_meaning.specs.Partitions.{is_key}
use Rattle.view_meaning.proofs.AmongLemmas.{is_key-same}
use Rattle.view_meaning.proofs.ListLemmas.{AllPairs-head, AllPairs-tail}
use Rattle.machine_meaning.specs.declared.claim.Claim.{Claim}
use Rattle.machine_meaning.specs.Events.{claim_at, other_claims}
use Rattle.machine_meaning.specs.States.{AreApart}

-- an element that is found passes the test
find-passes : {X : Type 0} (test : X → Bool) (xs : List X) (x : X)
    → find test xs ≡ Some x → test x ≡ true
find-passes test [] x found = absurd (none-some x found)
find-passes {X} test (first ∷ xs) x found =
    either (test first) refl (find-passes test xs x) found
  where
    either : (passes : Bool) → test first ≡ passes
        → (find test xs ≡ Some x → test x ≡ true)
        → cond passes (Some first) (find test xs) ≡ Some x → test x ≡ true
    either true passes rest here =
        subst (λ (x : X). test x ≡ true) (same_Some first x here) passes
    either false passes rest there = rest there

-- what is true of each element is true of one that is found
pub All-find : {X : Type 0} (P : X → Type 0) (test : X → Bool) (xs : List X) (x : X)
    → All P xs → find test xs ≡ Some x → P x
All-find P test [] x all found = absurd (none-some x found)
All-find P test (first ∷ xs) x all found =
    either (test first) (All-find P test xs x (All-tail P first xs all)) found
  where
    either : (passes : Bool) → (find test xs ≡ Some x → P x)
        → cond passes (Some first) (find test xs) ≡ Some x → P x
    either true rest here = subst P (same_Some first x here) (All-head P first xs all)
    either false rest there = rest there

-- the claim that an id finds has it
pub claim_at-id : (id : ℕ) (claims : List Claim) (claim : Claim)
    → claim_at id claims ≡ Some claim → claim.id ≡ id
claim_at-id id claims claim found =
    eqb-true claim.id id (find-passes (λ (claim : Claim). claim.id == id) claims claim found)

-- and that id finds the claim
pub claim_at-own : (id : ℕ) (claims : List Claim) (claim : Claim)
    → claim_at id claims ≡ Some claim → claim_at claim.id claims ≡ Some claim
claim_at-own id claims claim found =
    ap (λ (id : ℕ). claim_at id claims) (claim_at-id id claims claim found) ∙ found

-- keys that differ the test tells apart
pub is_key-apart : (key other : Key) → other ≢ key → is_key key other ≡ false
is_key-apart key other apart =
    false_from_ne_true (is_key key other) (λ same. apart (is_key-same key other same))

-- the other claims have other ids
pub other_claims-ids : (id : ℕ) (claims : List Claim)
    → All (λ (claim : Claim). claim.id ≢ id) (other_claims id claims)
other_claims-ids id claims =
    All-weaker (λ (claim : Claim). not (claim.id == id) ≡ true) (λ (claim : Claim). claim.id ≢ id)
    (λ claim passes. eqb-false claim.id id (not-true (claim.id == id) passes))
    (other_claims id claims) (filter_passes (λ (claim : Claim). not (claim.id == id)) claims)

-- they are on other partitions than the claim with the id: with a claim in front, if it is so of
-- those behind it
other_claims-first : (id : ℕ) (first : Claim) (later : List Claim) (claim : Claim)
    → All (AreApart first) later
    → (claim_at id later ≡ Some claim
    → All (λ (other : Claim). other.key ≢ claim.key) (other_claims id later))
    → (here : Bool) → cond here (Some first) (claim_at id later) ≡ Some claim
    → All (λ (other : Claim). other.key ≢ claim.key)
    (cond (not here) (first ∷ other_claims id later) (other_claims id later))
other_claims-first id first later claim apart rest true found =
    let is : first ≡ claim = same_Some first claim found in
    All-filter (λ (claim : Claim). not (claim.id == id))
    (λ (other : Claim). other.key ≢ claim.key) later
    (All-weaker (AreApart first) (λ (other : Claim). other.key ≢ claim.key)
    (λ other two same. two.keys (ap (λ (claim : Claim). claim.key) is ∙ sym same)) later apart)
other_claims-first id first later claim apart rest false found =
    let two : AreApart first claim =
    All-find (AreApart first) (λ (claim : Claim). claim.id == id) later claim apart found in
    All-cons (λ (other : Claim). other.key ≢ claim.key) first (other_claims id later) two.keys
    (rest found)

-- the other claims are on other partitions than the claim with the id
pub other_claims-keys : (id : ℕ) (claims : List Claim) (claim : Claim)
    → AllPairs AreApart claims → claim_at id claims ≡ Some claim
    → All (λ (other : Claim). other.key ≢ claim.key) (other_claims id claims)
other_claims-keys id [] claim apart found = absurd (none-some claim found)
other_claims-keys id (first ∷ later) claim apart found =
    other_claims-first id first later claim (AllPairs-head AreApart first later apart)
    (other_claims-keys id later claim (AllPairs-tail AreApart first later apart))
    (first.id == id) found

-- claims with the id of one are of its partition: with a claim in front, if it is so of those
-- behind it
same_key-first : (id : ℕ) (first : Claim) (later : List Claim) (claim : Claim)
    → All (AreApart first) later
    → (claim_at id later ≡ Some claim
    → All (λ (other : Claim). other.id ≡ id → other.key ≡ claim.key) later)
    → (here : Bool) → (first.id == id) ≡ here
    → cond here (Some first) (claim_at id later) ≡ Some claim
    → All (λ (other : Claim). other.id ≡ id → other.key ≡ claim.key) (first ∷ later)
same_key-first id first later claim apart rest true same found =
    All-cons (λ (other : Claim). other.id ≡ id → other.key ≡ claim.key) first later
    (λ _. ap (λ (claim : Claim). claim.key) (same_Some first claim found))
    (λ index default within is. absurd ((apart index default within).ids
    (eqb-true first.id id same ∙ sym is)))
same_key-first id first later claim apart rest false other found =
    All-cons (λ (other : Claim). other.id ≡ id → other.key ≡ claim.key) first later
    (λ is. absurd (eqb-false first.id id other is)) (rest found)

-- claims with the id of one are of its partition
pub same_key : (id : ℕ) (claims : List Claim) (claim : Claim) → AllPairs AreApart claims
    → claim_at id claims ≡ Some claim
    → All (λ (other : Claim). other.id ≡ id → other.key ≡ claim.key) claims
same_key id [] claim apart found = absurd (none-some claim found)
same_key id (first ∷ later) claim apart found =
    same_key-first id first later claim (AllPairs-head AreApart first later apart)
    (same_key id later claim (AllPairs-tail AreApart first later apart)) (first.id == id) refl found
