-- What was made is the caller's own: a claim (`IsClaimOf-made`), or a pin that is no claim's
-- (`IsPinOf-made`).
use Rattle.std.proofs.Common.{◌≡◌, ◌≢◌, ◌∙◌, ◌++◌, ◌∷◌, ℕ, List, None, Some, [], ap, refl, sym}
use Rattle.std.specs.Prelude.{All, Bool, cond}
use Rattle.std.proofs.lemmas.Bool.{eq-eqb, ne_eqb}
use Rattle.std.proofs.lemmas.List.Elements.{All-head, All-tail, All-weaker}
use Rattle.std.proofs.lemmas.Option.{none-some}
use Rattle.desc_types.specs.Descriptions.{DescOf}
use Rattle.query_pin.specs.declared.input.Input.{Input}
use Rattle.query_pin.specs.Pins.{IsLeastFree, PinOf, pin_at, with_pin}
use Rattle.query_pin.proofs.PinLemmas.{pin_at-with_pin}
use Rattle.machine_meaning.specs.declared.claim.Claim.{Claim}
use Rattle.machine_meaning.specs.Events.{IsClaimOf, IsPinOf, claim_at, claim_of}
use Rattle.machine_meaning.specs.States.{IsGood, IsGoodClaim, State, pin_of}
use Rattle.claim_core.proofs.ClaimingLemmas.{IsClaimMade}
use Rattle.claim_core.proofs.PinningLemmas.{IsSomeAnd-who}

-- no claim has an id that is free
All-unclaimed : (desc : DescOf) (state : State) (id : ℕ) → IsGood desc state
    → pin_at state.pins id ≡ None → All (λ (claim : Claim). claim.id ≢ id) state.claims
All-unclaimed desc state id good free =
    All-weaker (IsGoodClaim desc state) (λ (claim : Claim). claim.id ≢ id)
    (λ claim is same. none-some (pin_of desc state.journal claim)
    (sym free ∙ ap (pin_at state.pins) (sym same) ∙ is.pinned))
    state.claims good.claims

-- after claims with other ids a claim is found by its own
claim_at-push : (claims : List Claim) (claim : Claim)
    → All (λ (other : Claim). other.id ≢ claim.id) claims
    → claim_at claim.id (claims ++ claim ∷ []) ≡ Some claim
claim_at-push [] claim others =
    ap (λ (own : Bool). cond own (Some claim) None) (eq-eqb claim.id claim.id refl)
claim_at-push (first ∷ later) claim others =
    let P = λ (other : Claim). other.id ≢ claim.id in
    ap (λ (own : Bool). cond own (Some first) (claim_at claim.id (later ++ claim ∷ [])))
    (ne_eqb first.id claim.id (All-head P first later others))
    ∙ claim_at-push later claim (All-tail P first later others)

-- a claim that was made is found by its id
pub IsClaimOf-made : (desc : DescOf) (old new : State) (claim : Claim) (versions : List Input)
    → IsGood desc old → IsClaimMade desc old new claim versions
    → IsClaimOf new claim.who claim.id (claim_of old claim.who claim.id claim.key)
IsClaimOf-made desc old new claim versions good is =
    let told : claim ≡ claim_of old claim.who claim.id claim.key = λ i. record {
      who = claim.who;
      id = claim.id;
      key = claim.key;
      at = is.place i;
    } in
    record {
      found = ap (claim_at claim.id) is.claims
          ∙ claim_at-push old.claims claim (All-unclaimed desc old claim.id good is.least.free)
          ∙ ap (λ (claim : Claim). Some claim) told;
      own = refl;
    }

-- a pin that was made is found by its id, and no claim has that
pub IsPinOf-made : (desc : DescOf) (old : State) (who id : ℕ) (versions : List Input)
    (pins : List (ℕ × PinOf)) → IsGood desc old → IsLeastFree old.pins id
    → pins ≡ with_pin id (record { who = who; versions = versions }) old.pins
    → IsPinOf (record old { pins = pins }) who id
IsPinOf-made desc old who id versions pins good free is =
    let pin : PinOf = record { who = who; versions = versions } in
    record {
      found = IsSomeAnd-who (pin_at pins id) pin (
          ap (λ (pins : List (ℕ × PinOf)). pin_at pins id) is
          ∙ pin_at-with_pin id pin old.pins id
          ∙ ap (λ (own : Bool). cond own (Some pin) (pin_at old.pins id)) (eq-eqb id id refl)
          );
      unclaimed = All-unclaimed desc old id good free.free;
    }
