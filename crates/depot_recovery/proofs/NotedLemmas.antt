-- How the notes on claims begin, go on, and stay while the journal grows.
use Rattle.std.proofs.Common.{◌≡◌, ◌∙◌, ℕ, ◌+◌, ◌<◌, ◌≤◌, List, [], ◌∷◌, ◌++◌, length, get_or, ap}
use Rattle.std.proofs.Common.{arith, drop, inl, inr, map, refl, subst, sym, take}
use Rattle.std.specs.Prelude.{All, Bool, false, ◌-◌}
use Rattle.std.proofs.lemmas.Bool.{cases_lt}
use Rattle.std.proofs.lemmas.List.{drop_more, get_or-drop, get_or_read, length-drop}
use Rattle.std.proofs.lemmas.List.{get_or-map, get_or-take, length-take-le, length_push, map_more}
use Rattle.std.proofs.lemmas.List.{take-append-le, take_all}
use Rattle.std.proofs.lemmas.List.Elements.{All-head, All-more, All-rest, All-same, All-weaker}
use Rattle.desc_types.specs.Descriptions.{DescOf}
use Rattle.view_meaning.specs.declared.journal.Entry.{Entry}
use Rattle.view_meaning.proofs.ListLemmas.{map-agree}
use Rattle.depot_recovery.specs.declared.claims.Claimed.{Claimed}
use Rattle.depot_recovery.specs.Claims.{may_claim}
use Rattle.depot_recovery.specs.Noted.{AreNoted, AreUpToDate, ClaimsOf, was_right}
use Rattle.depot_recovery.proofs.ClaimedOrderLemmas.{places-rise}

-- claims, of which so many were looked at
abbrev pub noted_of : List Claimed → List Bool → ClaimsOf
noted_of claims ready = record { claims = claims; ready = ready }

-- a claim at a place that was reached is at that very place
reached-at : (journal : List Entry) (claims : List Claimed) (place : ℕ) (claim : Claimed)
    → place < length claims → claim ≡ get_or claims place claim
    → All (λ (claim : Claimed). length journal ≤ claim.at) (drop place claims)
    → length journal ≤ claim.at
reached-at journal claims place claim within read rest =
    let first = All-head (λ (claim : Claimed). length journal ≤ claim.at)
    (get_or claims place claim) (drop (place + 1) claims)
    (All-same (λ (claim : Claimed). length journal ≤ claim.at)
    (get_or claims place claim ∷ drop (place + 1) claims) (drop place claims)
    (sym (drop_more claims place claim within)) rest) in
    subst (λ (it : Claimed). length journal ≤ it.at) (sym read) first

-- what is noted of the next claim, if its place was reached
was_right-reached : (desc : DescOf) (journal : List Entry) (claim : Claimed) (told : Bool)
    → length journal ≤ claim.at → told ≡ may_claim desc journal claim.key
    → told ≡ was_right desc journal claim
was_right-reached desc journal claim told there tells =
    tells ∙ ap (λ (front : List Entry). may_claim desc front claim.key)
    (sym (take_all claim.at journal there))

-- one claim more was looked at
pub AreNoted-more : (desc : DescOf) (journal : List Entry) (claims : List Claimed)
    (ready : List Bool) (claim : Claimed) (told : Bool)
    → AreNoted desc journal (noted_of claims ready) → length ready < length claims
    → claim ≡ get_or claims (length ready) claim → claim.at ≤ length journal
    → told ≡ may_claim desc journal claim.key
    → AreNoted desc journal (noted_of claims (ready ++ told ∷ []))
AreNoted-more desc journal claims ready claim told noted within read past tells =
    let count = length ready in
    let next = get_or claims count claim in
    let grown = length_push ready told in
    let told_next : told ≡ was_right desc journal next =
    subst (λ (it : Claimed). told ≡ was_right desc journal it) read
    (was_right-reached desc journal claim told
    (reached-at journal claims count claim within read noted.rest) tells) in
    record {
      ordered = noted.ordered;
      within = omega arith;
      past = rw grown (All-more (λ (claim : Claimed). claim.at ≤ length journal) claims count claim
          within noted.past (subst (λ (it : Claimed). it.at ≤ length journal) read past));
      rest = rw grown (All-rest (λ (claim : Claimed). length journal ≤ claim.at) next
          (drop (count + 1) claims) (drop count claims) (drop_more claims count claim within)
          noted.rest);
      noted = rw (
        grown,
        map_more (was_right desc journal) claims count claim within,
        ← noted.noted,
        ← told_next,
      ) refl;
    }

-- the next one is at a place to come, and so are those behind it
pub AreUpToDate-rest : (desc : DescOf) (journal : List Entry) (of : ClaimsOf) (claim : Claimed)
    → AreNoted desc journal of → length of.ready < length of.claims
    → claim ≡ get_or of.claims (length of.ready) claim → length journal < claim.at
    → AreUpToDate desc journal of
AreUpToDate-rest desc journal of claim noted within read ahead = record {
  noted = noted;
  rest = λ place default there.
      let count = length of.ready in
      let size = length-drop count of.claims in
      let own = get_or_read of.claims count claim within read default in
      let rises = places-rise of.claims count (count + place) default noted.ordered (omega arith)
      (omega arith) in
      rw (get_or-drop count of.claims place default)
      (omega (arith, ap (λ (it : Claimed). it.at) own));
}

-- the notes stay while one entry more is added
pub AreNoted-grown : (desc : DescOf) (journal : List Entry) (next : Entry) (of : ClaimsOf)
    → AreUpToDate desc journal of → AreNoted desc (journal ++ next ∷ []) of
AreNoted-grown desc journal next of is =
    let grown = length_push journal next in
    let looked = take (length of.ready) of.claims in
    let same : map (was_right desc (journal ++ next ∷ [])) looked
    ≡ map (was_right desc journal) looked =
    map-agree (was_right desc (journal ++ next ∷ [])) (was_right desc journal) looked
    (All-weaker (λ (claim : Claimed). claim.at ≤ length journal)
    (λ (claim : Claimed). was_right desc (journal ++ next ∷ []) claim
    ≡ was_right desc journal claim)
    (λ claim past. ap (λ (front : List Entry). may_claim desc front claim.key)
    (take-append-le claim.at journal (next ∷ []) past)) looked is.noted.past) in
    record {
      ordered = is.noted.ordered;
      within = is.noted.within;
      past = All-weaker (λ (claim : Claimed). claim.at ≤ length journal)
          (λ (claim : Claimed). claim.at ≤ length (journal ++ next ∷ []))
          (λ claim past. omega arith) looked is.noted.past;
      rest = All-weaker (λ (claim : Claimed). length journal < claim.at)
          (λ (claim : Claimed). length (journal ++ next ∷ []) ≤ claim.at)
          (λ claim ahead. omega arith) (drop (length of.ready) of.claims) is.rest;
      noted = is.noted.noted ∙ sym same;
    }

-- a claim whose place was reached is not among those to come
before-rest : (desc : DescOf) (journal : List Entry) (of : ClaimsOf) (claim : Claimed)
    (index : ℕ) → AreUpToDate desc journal of → index < length of.claims
    → get_or of.claims index claim ≡ claim → claim.at ≤ length journal
    → index < length of.ready
before-rest desc journal of claim index is within read past =
    let count = length of.ready in
    elim (cases_lt index count) [
      | inl before ↦ before
      | inr behind ↦
          let size = length-drop count of.claims in
          let ahead : length journal < (get_or (drop count of.claims) (index - count) claim).at =
          is.rest (index - count) claim (omega arith) in
          let place : count + (index - count) ≡ index = omega arith in
          let own : get_or (drop count of.claims) (index - count) claim ≡ claim =
          get_or-drop count of.claims (index - count) claim
          ∙ ap (λ (place : ℕ). get_or of.claims place claim) place ∙ read in
          absurd (omega (arith, ap (λ (it : Claimed). it.at) own))
    ]

-- what is noted of a claim that is listed, if its place was reached
pub noted_at : (desc : DescOf) (journal : List Entry) (of : ClaimsOf) (claim : Claimed)
    (index : ℕ) → AreUpToDate desc journal of → index < length of.claims
    → get_or of.claims index claim ≡ claim → claim.at ≤ length journal
    → get_or of.ready index false ≡ was_right desc journal claim
noted_at desc journal of claim index is within read past =
    let count = length of.ready in
    let looked : index < count = before-rest desc journal of claim index is within read past in
    let front = take count of.claims in
    let size = length-take-le count of.claims is.noted.within in
    let same = get_or-map (was_right desc journal) front index claim false (omega arith) in
    ap (λ (ready : List Bool). get_or ready index false) is.noted.noted ∙ same
    ∙ ap (was_right desc journal) (get_or-take count of.claims index claim looked ∙ read)
