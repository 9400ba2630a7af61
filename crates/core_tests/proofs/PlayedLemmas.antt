-- What the end of a claim or a pin leaves of the entries and the last pin. For the other events
-- `search` finds it.
use Rattle.std.proofs.Common.{◌≡◌, ◌∙◌, ℕ, List, None, Some, ap, refl, subst, sym}
use Rattle.std.proofs.Common.{◌++◌, ◌∷◌, [], Bool, cond, false, true}
use Rattle.std.proofs.lemmas.Bool.{eqb-true, false_from_ne_true, false≢true}
use Rattle.std.proofs.lemmas.List.Elements.{All-filter, All-push}
use Rattle.std.proofs.lemmas.Option.{same_Some}
use Rattle.std.specs.Prelude.{◌≢◌, ◌==◌, IfSome, IsSome, Ok, Option, nat_eq, not}
use Rattle.desc_types.specs.declared.table.Key.{Key}
use Rattle.desc_types.specs.Descriptions.{DescOf}
use Rattle.view_meaning.specs.declared.journal.Entry.{Entry}
use Rattle.view_meaning.specs.declared.journal.Entry.TheVariants as entry
use Rattle.query_pin.specs.Pins.{AreInOrder, IsLeastFree, PinOf, pin_at, with_pin, without_pin}
use Rattle.query_pin.proofs.PinLemmas.{pin_at-with_pin, pin_at-without_pin}
use Rattle.machine_meaning.specs.declared.claim.Claim.{Claim}
use Rattle.machine_meaning.specs.Events.{Abandons, Claims, Event, Installs, Unpins, claim_at}
use Rattle.machine_meaning.specs.Events.{claim_of, claimed, ended, installed, other_claims}
use Rattle.machine_meaning.specs.States.{State, pin_of}
use Rattle.machine_meaning.proofs.ClaimLemmas.{All-find, claim_at-id, claim_at-own}
use Rattle.claim_core.specs.Cores.{CoreOf, SameCore, Steps}
use Rattle.table_desc.specs.Described.{described}
use Rattle.core_tests.specs.Played.{IsOpenPin, IsPlayed}

-- the last pin of a state is open
abbrev HasPin : Option ℕ → State → Type 0
HasPin pin state = IfSome pin (IsOpenPin state.pins state.claims)

-- after an event the state is good, so its entries and its last pin are all that is asked
IsPlayed-next : (old new : CoreOf) (event : Event) (lines : List ℕ) (entries : List Entry)
    (pin : Option ℕ) → Steps old event new → described lines ≡ Ok old.desc
    → new.state.journal ≡ entries → HasPin pin new.state → IsPlayed new lines entries pin
IsPlayed-next old new event lines entries pin steps served journal has = record {
  served = served ∙ ap (λ (desc : DescOf). Ok desc) (sym steps.desc);
  journal = journal;
  last = has;
  ordered = steps.good.ordered;
  fits = steps.good.fits;
  legal = steps.good.legal;
}

-- what leaves each open pin open leaves the last one open
HasPin-next : (pin : Option ℕ) (old new : State)
    → ((last : ℕ) → IsOpenPin old.pins old.claims last → IsOpenPin new.pins new.claims last)
    → HasPin pin old → HasPin pin new
HasPin-next None old new keeps has = tt
HasPin-next (Some last) old new keeps has = keeps last has

-- a claim under a free id leaves an open pin open
IsOpenPin-claim : (id : ℕ) (more : PinOf) (claim : Claim) (pins : List (ℕ × PinOf))
    (claims : List Claim) (last : ℕ) → claim.id ≡ id → IsLeastFree pins id
    → IsOpenPin pins claims last → IsOpenPin (with_pin id more pins) (claims ++ claim ∷ []) last
IsOpenPin-claim id more claim pins claims last own free is = record {
  found = subst (λ (found : Option PinOf). IsSome found)
      (sym (pin_at-with_pin id more pins last)) (by_same (nat_eq last id));
  unclaimed = All-push (λ (claim : Claim). claim.id ≢ last) claims claim is.unclaimed
      (λ same. false≢true (subst (λ (found : Option PinOf). IsSome found)
      (ap (pin_at pins) (sym same ∙ own) ∙ free.free) is.found));
}
  where
    by_same : (same : Bool) → IsSome (cond same (Some more) (pin_at pins last))
    by_same true = refl
    by_same false = is.found

-- after a claim
pub IsPlayed-claim : (old new : CoreOf) (who : ℕ) (key : Key) (lines : List ℕ)
    (entries : List Entry) (pin : Option ℕ) → Steps old (Claims who key) new
    → IsPlayed old lines entries pin → IsPlayed new lines entries pin
IsPlayed-claim old new who key lines entries pin steps played =
    let id = steps.step.1.0 in
    let is = steps.step.1.2 in
    let claim = claim_of old.state who id key in
    IsPlayed-next old new (Claims who key) lines entries pin steps played.served
    (ap (λ (state : State). state.journal) is ∙ played.journal)
    (subst (HasPin pin) (sym is)
    (HasPin-next pin old.state (claimed old.desc old.state claim)
    (λ last here. IsOpenPin-claim id (pin_of old.desc old.state.journal claim) claim old.state.pins
    old.state.claims last refl steps.step.1.1 here) played.last))

-- the end of a claim leaves an open pin open
IsOpenPin-end : (id : ℕ) (claim : Claim) (pins : List (ℕ × PinOf)) (claims : List Claim)
    (last : ℕ) → AreInOrder pins → claim_at id claims ≡ Some claim → IsOpenPin pins claims last
    → IsOpenPin (without_pin id pins) (other_claims id claims) last
IsOpenPin-end id claim pins claims last ordered there is =
    let other = All-find (λ (claim : Claim). claim.id ≢ last) (λ (claim : Claim). claim.id == id)
    claims claim is.unclaimed there in
    let apart = false_from_ne_true (id == last)
    (λ same. other (claim_at-id id claims claim there ∙ eqb-true id last same)) in
    record {
      found = subst (λ (found : Option PinOf). IsSome found)
          (sym (pin_at-without_pin id pins last ordered
          ∙ ap (λ (here : Bool). cond here None (pin_at pins last)) apart)) is.found;
      unclaimed = All-filter (λ (claim : Claim). not (claim.id == id))
          (λ (claim : Claim). claim.id ≢ last) claims is.unclaimed;
    }

-- so it leaves the last one open
HasPin-end : (pin : Option ℕ) (old : State) (claim : Claim) (id : ℕ) → AreInOrder old.pins
    → claim_at id old.claims ≡ Some claim → HasPin pin old → HasPin pin (ended old id)
HasPin-end pin old claim id ordered there has = HasPin-next pin old (ended old id)
    (λ last here. IsOpenPin-end id claim old.pins old.claims last ordered there here) has

-- after a claim was given up
pub IsPlayed-abandon : (old new : CoreOf) (who id : ℕ) (lines : List ℕ) (entries : List Entry)
    (pin : Option ℕ) → Steps old (Abandons who id) new → IsPlayed old lines entries pin
    → IsPlayed new lines entries pin
IsPlayed-abandon old new who id lines entries pin steps played =
    IsPlayed-next old new (Abandons who id) lines entries pin steps played.served
    (ap (λ (state : State). state.journal) steps.step.2 ∙ played.journal)
    (subst (HasPin pin) (sym steps.step.2) (HasPin-end pin old.state steps.step.0 id
    played.ordered steps.step.1.found played.last))

-- an install is that of the claim of its id
install_is : (old new : CoreOf) (who id : ℕ) (claim : Claim)
    → claim_at id old.state.claims ≡ Some claim → Steps old (Installs who id) new
    → new.state ≡ installed old.state claim new.state.held
install_is old new who id claim there steps =
    subst (λ (claim : Claim). new.state ≡ installed old.state claim new.state.held)
    (same_Some steps.step.0 claim (sym steps.step.1.found ∙ there)) steps.step.3

-- after an install there is one entry more
pub IsPlayed-install : (old new : CoreOf) (who id : ℕ) (claim : Claim) (lines : List ℕ)
    (entries : List Entry) (pin : Option ℕ) → claim_at id old.state.claims ≡ Some claim
    → Steps old (Installs who id) new → IsPlayed old lines entries pin
    → IsPlayed new lines (entries ++ entry.Install claim.key claim.at ∷ []) pin
IsPlayed-install old new who id claim lines entries pin there steps played =
    let is = install_is old new who id claim there steps in
    let more = entry.Install claim.key claim.at ∷ [] in
    IsPlayed-next old new (Installs who id) lines (entries ++ more) pin steps played.served
    (ap (λ (state : State). state.journal) is
    ∙ ap (λ (journal : List Entry). journal ++ more) played.journal)
    (subst (HasPin pin) (sym is) (HasPin-end pin old.state claim claim.id played.ordered
    (claim_at-own id old.state.claims claim there) played.last))

-- where room was made all is as before
pub IsPlayed-same : (old new : CoreOf) (lines : List ℕ) (entries : List Entry) (pin : Option ℕ)
    → SameCore old new → IsPlayed old lines entries pin → IsPlayed new lines entries pin
IsPlayed-same old new lines entries pin same played = record {
  served = rw same.desc played.served;
  journal = rw same.state.journal played.journal;
  last = rw (same.state.pins, same.state.claims) played.last;
  ordered = rw same.state.pins played.ordered;
  fits = rw (same.desc, same.state.journal) played.fits;
  legal = rw (same.desc, same.state.journal) played.legal;
}

-- after a pin has ended there is no last one
pub IsPlayed-unpin : (old new : CoreOf) (id : ℕ) (lines : List ℕ) (entries : List Entry)
    (pin : Option ℕ) → IsSome (pin_at old.state.pins id)
    → ((pin : PinOf) → pin_at old.state.pins id ≡ Some pin → Steps old (Unpins pin.who id) new)
    → IsPlayed old lines entries pin → IsPlayed new lines entries None
IsPlayed-unpin old new id lines entries pin there steps played =
    at_pin (pin_at old.state.pins id) refl there
  where
    at_pin : (found : Option PinOf) → pin_at old.state.pins id ≡ found → IsSome found
        → IsPlayed new lines entries None
    at_pin None is some = absurd (false≢true some)
    at_pin (Some pin) is some = IsPlayed-next old new (Unpins pin.who id) lines entries None
        (steps pin is) played.served
        (ap (λ (state : State). state.journal) (steps pin is).step.1 ∙ played.journal) tt
