-- The end of a claim: what it reads is pinned until then, and without it the core is sound.
use Rattle.std.proofs.Common.{◌≡◌, ◌∙◌, List, None, Some, ap, refl, subst, sym, ℕ}
use Rattle.std.specs.Prelude.{IsSome, Option, ◌==◌}
use Rattle.std.proofs.lemmas.Bool.{false≢true}
use Rattle.desc_types.specs.Descriptions.{DescOf}
use Rattle.query_pin.specs.Pins.{PinOf, pin_at}
use Rattle.machine_meaning.specs.declared.claim.Claim.{Claim}
use Rattle.machine_meaning.specs.Events.{Abandons, Step, claim_at, ended}
use Rattle.machine_meaning.specs.States.{IsGood, IsGoodClaim, State}
use Rattle.machine_meaning.proofs.ClaimLemmas.{All-find, claim_at-id}
use Rattle.claim_core.specs.Cores.{CoreOf, IsSound}
use Rattle.claim_core.specs.declared.step.Step.{Step as StepOf}
use Rattle.claim_core.proofs.SoundLemmas.{IsSound-event, SameBooks}

-- the claim that an id finds may still be installed, and what it reads is pinned under that id
pub IsGoodClaim-at : (desc : DescOf) (state : State) (id : ℕ) (claim : Claim)
    → IsGood desc state → claim_at id state.claims ≡ Some claim → IsGoodClaim desc state claim
IsGoodClaim-at desc state id claim good found =
    All-find (IsGoodClaim desc state) (λ (claim : Claim). claim.id == id) state.claims claim
    good.claims found

-- the id of a claim has a pin
pub IsSome-claimed : (desc : DescOf) (state : State) (id : ℕ) → IsGood desc state
    → IsSome (claim_at id state.claims) → IsSome (pin_at state.pins id)
IsSome-claimed desc state id good there = at_claim (claim_at id state.claims) refl there
  where
    at_claim : (found : Option Claim) → claim_at id state.claims ≡ found → IsSome found
        → IsSome (pin_at state.pins id)
    at_claim None is some = absurd (false≢true some)
    at_claim (Some claim) is some =
        subst (λ (pin : Option PinOf). IsSome pin)
        (sym (ap (pin_at state.pins) (sym (claim_at-id id state.claims claim is))
        ∙ (IsGoodClaim-at desc state id claim good is).pinned)) refl

-- the end of a claim is an event
pub Step-Abandons : (desc : DescOf) (old new : State) (id : ℕ) (claim : Claim)
    → claim_at id old.claims ≡ Some claim → new ≡ ended old id
    → Step desc old (Abandons claim.who id) new
Step-Abandons desc old new id claim found is =
    (claim, record { found = found; own = refl }, is)

-- without a claim that there was, a core is sound
pub IsSound-ended : (old new : CoreOf) (steps : List StepOf) (id : ℕ) → SameBooks old new
    → IsSome (claim_at id old.state.claims) → new.state ≡ ended old.state id
    → IsSound old steps → IsSound new steps
IsSound-ended old new steps id same there is sound =
    at_claim (claim_at id old.state.claims) refl there
  where
    at_claim : (found : Option Claim) → claim_at id old.state.claims ≡ found → IsSome found
        → IsSound new steps
    at_claim None is_found some = absurd (false≢true some)
    at_claim (Some claim) is_found some =
        IsSound-event old new steps (Abandons claim.who id) sound same
        (Step-Abandons old.desc old.state new.state id claim is_found is)
