-- When a partition is ready, and what the claim of it makes of a state.
use Rattle.std.proofs.Common.{◌≡◌, ◌≢◌, ◌∙◌, ◌++◌, ◌∷◌, List, [], ap, arith, length, sym, take}
use Rattle.std.proofs.Common.{true, ℕ}
use Rattle.std.specs.Prelude.{All, Bool, false, not}
use Rattle.std.specs.List.{list_all, list_any}
use Rattle.std.proofs.lemmas.Bool.{both_ways, false_from_ne_true}
use Rattle.std.proofs.lemmas.List.{take_all}
use Rattle.std.proofs.lemmas.List.Elements.{All-weaker}
use Rattle.std.proofs.lemmas.List.Folds.{list_any_none}
use Rattle.desc_types.specs.Descriptions.{DescOf}
use Rattle.desc_types.specs.declared.table.Key.{Key}
use Rattle.desc_types.proofs.ListLemmas.{list_any-none}
use Rattle.view_meaning.specs.declared.journal.Entry.{Entry}
use Rattle.view_meaning.specs.Partitions.{is_key, is_part, sources_of}
use Rattle.view_meaning.specs.Staleness.{is_settled, is_stale}
use Rattle.view_meaning.proofs.AmongLemmas.{is_key-itself, is_key-same}
use Rattle.query_pin.specs.declared.input.Input.{Input}
use Rattle.query_pin.specs.Pins.{IsLeastFree, with_pin}
use Rattle.machine_meaning.specs.declared.claim.Claim.{Claim}
use Rattle.machine_meaning.specs.Events.{Claims, Step, claim_of, claimed}
use Rattle.machine_meaning.specs.States.{IsReady, State, inputs}
use Rattle.claim_core.specs.Cores.{TellsReady}

-- a partition is free exactly if no claim passes the test of its key
IsFree-unclaimed : (key : Key) (claims : List Claim)
    → list_any (λ (claim : Claim). is_key key claim.key) claims ≡ false
    → All (λ (claim : Claim). claim.key ≢ key) claims
IsFree-unclaimed key claims none =
    All-weaker (λ (claim : Claim). is_key key claim.key ≡ false)
    (λ (claim : Claim). claim.key ≢ key)
    (λ claim apart same. both_ways (is_key key claim.key) apart
    (ap (is_key key) same ∙ is_key-itself key))
    claims (list_any-none (λ (claim : Claim). is_key key claim.key) claims none)

list_any-free : (key : Key) (claims : List Claim)
    → All (λ (claim : Claim). claim.key ≢ key) claims
    → list_any (λ (claim : Claim). is_key key claim.key) claims ≡ false
list_any-free key claims free =
    list_any_none (λ (claim : Claim). is_key key claim.key) claims
    (All-weaker (λ (claim : Claim). claim.key ≢ key)
    (λ (claim : Claim). is_key key claim.key ≡ false)
    (λ claim apart. false_from_ne_true (is_key key claim.key)
    (λ same. apart (is_key-same key claim.key same))) claims free)

-- if all else is told, a partition is ready exactly if it is not claimed
pub TellsReady-claimed : (desc : DescOf) (state : State) (key : Key) (taken : Bool)
    → is_part desc key ≡ true → is_stale desc state.journal key ≡ true
    → list_all (is_settled desc state.journal) (sources_of desc key) ≡ true
    → taken ≡ list_any (λ (claim : Claim). is_key key claim.key) state.claims
    → TellsReady desc state key (not taken)
TellsReady-claimed desc state key false part stale ready told = record {
  part = part;
  stale = stale;
  ready = ready;
  free = IsFree-unclaimed key state.claims (sym told);
}
TellsReady-claimed desc state key true part stale ready told = λ is.
    both_ways (list_any (λ (claim : Claim). is_key key claim.key) state.claims)
    (list_any-free key state.claims is.free) (sym told)

-- what a claim made of a state: the claim stands with its place, and what it reads is pinned
pub record IsClaimMade (desc : DescOf) (old new : State) (claim : Claim)
    (versions : List Input) : Type 0 where
  pub ready : IsReady desc old claim.key
  pub least : IsLeastFree old.pins claim.id
  pub place : claim.at ≡ length old.journal
  pub reads : versions ≡ inputs desc old.journal claim.key
  pub journal : new.journal ≡ old.journal
  pub claims : new.claims ≡ old.claims ++ claim ∷ []
  pub pins : new.pins
      ≡ with_pin claim.id (record { who = claim.who; versions = versions }) old.pins
  pub held : new.held ≡ old.held

-- it reads the versions after the whole journal
state-claimed : (desc : DescOf) (old new : State) (claim : Claim) (versions : List Input)
    → IsClaimMade desc old new claim versions
    → new ≡ claimed desc old (claim_of old claim.who claim.id claim.key)
state-claimed desc old new claim versions is =
    let whole : versions ≡ inputs desc (take (length old.journal) old.journal) claim.key =
    is.reads ∙ ap (λ (front : List Entry). inputs desc front claim.key)
    (sym (take_all (length old.journal) old.journal (omega arith))) in
    λ i. record {
      journal = is.journal i;
      claims = (is.claims ∙ ap (λ (at : ℕ). old.claims ++ record {
        who = claim.who;
        id = claim.id;
        key = claim.key;
        at = at;
      } ∷ []) is.place) i;
      pins = (is.pins ∙ ap (λ (versions : List Input).
          with_pin claim.id (record { who = claim.who; versions = versions }) old.pins) whole) i;
      held = is.held i;
    }

-- so the claim is an event
pub Step-Claims : (desc : DescOf) (old new : State) (claim : Claim) (versions : List Input)
    → IsClaimMade desc old new claim versions → Step desc old (Claims claim.who claim.key) new
Step-Claims desc old new claim versions is =
    (is.ready, (claim.id, is.least, state-claimed desc old new claim versions is))
