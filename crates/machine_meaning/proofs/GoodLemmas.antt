-- Good states: what is found after a legal journal is one, and each event leaves one. There is one
-- lemma for each event.
use Rattle.std.proofs.Common.{List, Some, [], ap, arith, get_or, length, map, refl, subst, sym}
use Rattle.std.proofs.Common.{take, ℕ, ◌++◌, ◌+◌, ◌∙◌, ◌∷◌, ◌≡◌, ◌≢◌, ◌≤◌}
use Rattle.std.specs.List.{AllPairs}
use Rattle.std.specs.List.Sorted.{IsStrictlySortedBy}
use Rattle.std.specs.Prelude.{All, Bool, IsSome, None, false, flat_map, if◌then◌else◌, not}
use Rattle.std.specs.Prelude.{slice_get, ◌==◌}
use Rattle.std.proofs.lemmas.Bool.{eq-eqb, ne_eqb}
use Rattle.std.proofs.lemmas.List.{take-append-le, take_all}
use Rattle.std.proofs.lemmas.List.Elements.{All-filter, All-map, All-nil, All-push}
use Rattle.std.proofs.lemmas.List.Kept.{AllPairs-filter}
use Rattle.std.proofs.lemmas.List.Quantifiers.{all_pairs_push}
use Rattle.std.proofs.lemmas.Option.{none-some}
use Rattle.desc_types.specs.declared.table.Key.{Key}
use Rattle.desc_types.specs.Deliveries.{DeliveryOf}
use Rattle.desc_types.specs.Descriptions.{DescOf}
use Rattle.view_meaning.specs.declared.journal.Entry.{Entry}
use Rattle.view_meaning.specs.declared.request.Item.{Item}
use Rattle.view_meaning.specs.Journal.{FitsEntry}
use Rattle.view_meaning.specs.LegalJournals.{MayFollow, MayInstall}
use Rattle.view_meaning.specs.Partitions.{sources_of}
use Rattle.view_meaning.specs.Shown.{keys_shown}
use Rattle.view_meaning.specs.Versions.{installs, is_raw}
use Rattle.view_meaning.proofs.FitLemmas.{FitsEntry-Install, FitsJournal-push}
use Rattle.view_meaning.proofs.LegalLemmas.{IsLegal-push, MayInstall-last, is_raw-stale}
use Rattle.query_pin.specs.declared.input.Input.{Input}
use Rattle.query_pin.specs.Kept.{KeptListOf, entry_in}
use Rattle.query_pin.specs.Pins.{AreInOrder, PinOf, pin_at, with_pin, without_pin}
use Rattle.query_pin.proofs.PinLemmas.{AreInOrder-with_pin, AreInOrder-without_pin, pin_at-with_pin}
use Rattle.query_pin.proofs.PinLemmas.{pin_at-without_pin}
use Rattle.machine_meaning.specs.declared.claim.Claim.{Claim}
use Rattle.machine_meaning.specs.Events.{HasGoodStarts, HoldsAlso, HoldsBut, IsDead, MayLoad, asked}
use Rattle.machine_meaning.specs.Events.{claim_at, claim_of, claimed, ended, found, installed, made}
use Rattle.machine_meaning.specs.Events.{other_claims, with_entry}
use Rattle.machine_meaning.specs.States.{AreApart, HoldsRight, IsAtHand, IsGood, IsGoodClaim}
use Rattle.machine_meaning.specs.States.{IsReady, State, inputs, is_some_version, latest, pin_of}
use Rattle.machine_meaning.specs.States.{reads}
use Rattle.machine_meaning.proofs.ClaimLemmas.{All-find, is_key-apart, other_claims-ids}
use Rattle.machine_meaning.proofs.ClaimLemmas.{other_claims-keys}
use Rattle.machine_meaning.proofs.EntryLemmas.{MayInstall-push}
use Rattle.machine_meaning.proofs.HeldLemmas.{HoldsRight-install, HoldsRight-latest}
use Rattle.machine_meaning.proofs.HeldLemmas.{HoldsRight-load, HoldsRight-reclaim, HoldsRight-same}
use Rattle.machine_meaning.proofs.HeldLemmas.{IsSome-also}
use Rattle.machine_meaning.proofs.PinnedLemmas.{ArePinned, ArePinned-but, ArePinned-push}
use Rattle.machine_meaning.proofs.PinnedLemmas.{ArePinned-with_pin, ArePinned-without_pin}
use Rattle.view_meaning.specs.declared.journal.Entry.TheVariants as entry

-- no pins are in order
AreInOrder-empty : AreInOrder []
unfolding IsStrictlySortedBy
AreInOrder-empty = tt

-- the state that is found after a legal journal is good
pub good_starts : HasGoodStarts
good_starts desc journal held fits legal holds = record {
  fits = fits;
  legal = legal;
  apart = λ first second default before within. absurd (omega arith);
  claims = All-nil (IsGoodClaim desc (found journal held));
  held = HoldsRight-latest desc journal held holds;
  ordered = AreInOrder-empty;
  pinned = λ id. tt;
}

-- what a claim reads stays as it is with an entry more
pin_of-push : (desc : DescOf) (journal : List Entry) (next : Entry) (claim : Claim)
    → claim.at ≤ length journal
    → pin_of desc (with_entry journal next) claim ≡ pin_of desc journal claim
pin_of-push desc journal next claim past =
    ap (λ (front : List Entry). record { who = claim.who; versions = inputs desc front claim.key })
    (take-append-le claim.at journal (next ∷ []) past)

-- a claim of a partition that an entry does not install is as good as before it
IsGoodClaim-push : (desc : DescOf) (old : State) (next : Entry) (held : KeptListOf) (claim : Claim)
    → installs claim.key next ≡ false → IsGoodClaim desc old claim
    → IsGoodClaim desc (record old { journal = with_entry old.journal next; held = held }) claim
IsGoodClaim-push desc old next held claim other is = record {
  may = MayInstall-push desc old.journal next claim.key claim.at is.may other;
  pinned = is.pinned ∙ ap Some (sym (pin_of-push desc old.journal next claim is.may.past));
}

-- an entry more that may follow leaves a good state, if it installs no partition that is claimed,
-- what was held is held, and what is held is right
IsGood-push : (desc : DescOf) (old : State) (next : Entry) (held : KeptListOf)
    → IsGood desc old → FitsEntry desc next → MayFollow desc old.journal next
    → All (λ (claim : Claim). installs claim.key next ≡ false) old.claims
    → ((read : Input) → IsSome (entry_in old.held read) → IsSome (entry_in held read))
    → HoldsRight desc (record old { journal = with_entry old.journal next; held = held })
    → IsGood desc (record old { journal = with_entry old.journal next; held = held })
IsGood-push desc old next held good fits follows others stays right = record {
  fits = FitsJournal-push desc old.journal next good.fits fits;
  legal = IsLegal-push desc old.journal next good.legal follows;
  apart = good.apart;
  claims = λ index default within.
      IsGoodClaim-push desc old next held (get_or old.claims index default)
      (others index default within) (good.claims index default within);
  held = right;
  ordered = good.ordered;
  pinned = ArePinned-push desc old.journal next old.pins old.held held stays good.pinned;
}

-- a load leaves a good state
pub load-good : (desc : DescOf) (old : State) (delivery : DeliveryOf) → IsGood desc old
    → MayLoad desc old.journal delivery
    → IsGood desc (record old { journal = with_entry old.journal (entry.Load delivery) })
load-good desc old delivery good may =
    IsGood-push desc old (entry.Load delivery) old.held good may.fits may.fresh
    (λ index default within. refl) (λ read there. there)
    (HoldsRight-load desc old delivery good.held)

-- an install of a partition that may be installed and is not claimed leaves a good state
install-good : (desc : DescOf) (old : State) (key : Key) (at : ℕ) (held : KeptListOf)
    → IsGood desc old → MayInstall desc old.journal key at
    → All (λ (claim : Claim). claim.key ≢ key) old.claims
    → HoldsAlso old.held held (made desc old.journal key) (length old.journal + 1)
    → IsGood desc (record old {
      journal = with_entry old.journal (entry.Install key at);
      held = held;
    })
install-good desc old key at held good may others also =
    let view : is_raw (slice_get desc.tables key.table) ≡ false =
    is_raw-stale desc (take at old.journal) key may.stale in
    IsGood-push desc old (entry.Install key at) held good
    (FitsEntry-Install desc key at may.part view) may
    (λ index default within. is_key-apart (get_or old.claims index default).key key
    (λ same. others index default within (sym same)))
    (IsSome-also old.held held (made desc old.journal key) (length old.journal + 1) also)
    (HoldsRight-install desc old key at held view good.held also)

-- a claim is good as before if the journal is the same, and its id has the same pin
IsGoodClaim-pins : (desc : DescOf) (old : State) (claims : List Claim) (pins : List (ℕ × PinOf))
    (held : KeptListOf) (claim : Claim) → pin_at pins claim.id ≡ pin_at old.pins claim.id
    → IsGoodClaim desc old claim
    → IsGoodClaim desc (record old { claims = claims; pins = pins; held = held }) claim
IsGoodClaim-pins desc old claims pins held claim same is =
    record { may = is.may; pinned = same ∙ is.pinned }

-- other pins leave a good state, if claims have theirs and what the pins keep is at hand
IsGood-pins : (desc : DescOf) (old : State) (pins : List (ℕ × PinOf)) → IsGood desc old
    → All (λ (claim : Claim). pin_at pins claim.id ≡ pin_at old.pins claim.id) old.claims
    → AreInOrder pins → ArePinned desc old.journal pins old.held
    → IsGood desc (record old { pins = pins })
IsGood-pins desc old pins good same ordered pinned = record {
  fits = good.fits;
  legal = good.legal;
  apart = good.apart;
  claims = λ index default within.
      IsGoodClaim-pins desc old old.claims pins old.held (get_or old.claims index default)
      (same index default within) (good.claims index default within);
  held = HoldsRight-same desc old old.claims pins good.held;
  ordered = ordered;
  pinned = pinned;
}

-- an id that is free is no claim's
id-free : (desc : DescOf) (old : State) (id : ℕ) (claim : Claim) → pin_at old.pins id ≡ None
    → IsGoodClaim desc old claim → claim.id ≢ id
id-free desc old id claim free is same =
    none-some (pin_of desc old.journal claim) (sym free ∙ ap (pin_at old.pins) (sym same) ∙ is.pinned)

-- a pin under a free id leaves a good state, if what it keeps is at hand
pub pin-good : (desc : DescOf) (old : State) (id : ℕ) (pin : PinOf) → IsGood desc old
    → pin_at old.pins id ≡ None → All (IsAtHand desc old.journal old.held) pin.versions
    → IsGood desc (record old { pins = with_pin id pin old.pins })
pin-good desc old id pin good free hand =
    IsGood-pins desc old (with_pin id pin old.pins) good
    (λ index default within.
    let claim = get_or old.claims index default in
    pin_at-with_pin id pin old.pins claim.id
    ∙ ap (λ (same : Bool). if same then Some pin else pin_at old.pins claim.id)
    (ne_eqb claim.id id (id-free desc old id claim free (good.claims index default within))))
    (AreInOrder-with_pin id pin old.pins good.ordered)
    (ArePinned-with_pin desc old.journal old.pins old.held id pin good.pinned hand)

-- the end of a pin that is no claim's leaves a good state
pub unpin-good : (desc : DescOf) (old : State) (id : ℕ) → IsGood desc old
    → All (λ (claim : Claim). claim.id ≢ id) old.claims
    → IsGood desc (record old { pins = without_pin id old.pins })
unpin-good desc old id good others =
    IsGood-pins desc old (without_pin id old.pins) good
    (λ index default within.
    let claim = get_or old.claims index default in
    pin_at-without_pin id old.pins claim.id good.ordered
    ∙ ap (λ (same : Bool). if same then None else pin_at old.pins claim.id)
    (ne_eqb id claim.id (λ same. others index default within (sym same))))
    (AreInOrder-without_pin id old.pins good.ordered)
    (ArePinned-without_pin desc old.journal old.pins old.held id good.ordered good.pinned)

-- other claims leave a good state, if they are apart and each of them is good
IsGood-claims : (desc : DescOf) (old : State) (claims : List Claim) → IsGood desc old
    → AllPairs AreApart claims → All (IsGoodClaim desc old) claims
    → IsGood desc (record old { claims = claims })
IsGood-claims desc old claims good apart each = record {
  fits = good.fits;
  legal = good.legal;
  apart = apart;
  claims = λ index default within.
      IsGoodClaim-pins desc old claims old.pins old.held (get_or claims index default) refl
      (each index default within);
  held = HoldsRight-same desc old claims old.pins good.held;
  ordered = good.ordered;
  pinned = good.pinned;
}

-- the end of a claim leaves a good state
pub end-good : (desc : DescOf) (old : State) (id : ℕ) → IsGood desc old
    → IsGood desc (ended old id)
end-good desc old id good =
    let others = other_claims id old.claims in
    let keep : Claim → Bool = λ (claim : Claim). not (claim.id == id) in
    unpin-good desc (record old { claims = others }) id
    (IsGood-claims desc old others good (AllPairs-filter AreApart keep old.claims good.apart)
    (All-filter keep (IsGoodClaim desc old) old.claims good.claims))
    (other_claims-ids id old.claims)

-- so does the end of a claim with the install of its partition
pub installed-good : (desc : DescOf) (old : State) (claim : Claim) (held : KeptListOf)
    → IsGood desc old → claim_at claim.id old.claims ≡ Some claim
    → HoldsAlso old.held held (made desc old.journal claim.key) (length old.journal + 1)
    → IsGood desc (installed old claim held)
installed-good desc old claim held good there also =
    let is : IsGoodClaim desc old claim =
    All-find (IsGoodClaim desc old) (λ (other : Claim). other.id == claim.id) old.claims claim
    good.claims there in
    install-good desc (ended old claim.id) claim.key claim.at held
    (end-good desc old claim.id good) is.may
    (other_claims-keys claim.id old.claims claim good.apart there) also

-- what a claim reads as it is made is at hand
reads-at_hand : (desc : DescOf) (old : State) (who id : ℕ) (key : Key) → IsGood desc old
    → All (IsAtHand desc old.journal old.held)
    (reads desc old.journal (claim_of old who id key))
reads-at_hand desc old who id key good =
    subst (λ (front : List Entry). All (IsAtHand desc old.journal old.held) (inputs desc front key))
    (sym (take_all (length old.journal) old.journal (omega arith)))
    (All-filter is_some_version (IsAtHand desc old.journal old.held)
    (map (latest desc old.journal) (sources_of desc key))
    (All-map (IsAtHand desc old.journal old.held) (latest desc old.journal) (sources_of desc key)
    (λ index default within. good.held.current (get_or (sources_of desc key) index default))))

-- a claim of a ready partition is good, if its id has the pin of what it reads
IsGoodClaim-ready : (desc : DescOf) (old : State) (who id : ℕ) (key : Key)
    (pins : List (ℕ × PinOf)) → IsReady desc old key
    → pin_at pins id ≡ Some (pin_of desc old.journal (claim_of old who id key))
    → IsGoodClaim desc (record old { pins = pins }) (claim_of old who id key)
IsGoodClaim-ready desc old who id key pins ready pinned = record {
  may = MayInstall-last desc old.journal key ready.part ready.stale ready.ready;
  pinned = pinned;
}

-- a claim of a ready partition under a free id leaves a good state
pub claim-good : (desc : DescOf) (old : State) (who id : ℕ) (key : Key) → IsGood desc old
    → IsReady desc old key → pin_at old.pins id ≡ None
    → IsGood desc (claimed desc old (claim_of old who id key))
claim-good desc old who id key good ready free =
    let claim : Claim = claim_of old who id key in
    let pin : PinOf = pin_of desc old.journal claim in
    let mid : State = record old { pins = with_pin id pin old.pins } in
    let is : IsGood desc mid =
    pin-good desc old id pin good free (reads-at_hand desc old who id key good) in
    IsGood-claims desc mid (old.claims ++ claim ∷ []) is
    (all_pairs_push AreApart old.claims claim good.apart (λ index default within. record {
      ids = id-free desc old id (get_or old.claims index default) free
          (good.claims index default within);
      keys = ready.free index default within;
    }))
    (All-push (IsGoodClaim desc mid) old.claims claim is.claims
    (IsGoodClaim-ready desc old who id key mid.pins ready
    (pin_at-with_pin id pin old.pins id
    ∙ ap (λ (same : Bool). if same then Some pin else pin_at old.pins id) (eq-eqb id id refl))))

-- what a request is shown is at hand
pub asked-at_hand : (desc : DescOf) (old : State) (items : List Item) → IsGood desc old
    → All (IsAtHand desc old.journal old.held) (asked desc old.journal items)
asked-at_hand desc old items good =
    let keys = flat_map (keys_shown desc old.journal) items in
    All-map (IsAtHand desc old.journal old.held) (latest desc old.journal) keys
    (λ index default within. good.held.current (get_or keys index default))

-- dropping a dead version leaves a good state
pub reclaim-good : (desc : DescOf) (old : State) (dead : Input) (held : KeptListOf)
    → IsGood desc old → IsDead desc old dead → HoldsBut old.held held dead
    → IsGood desc (record old { held = held })
reclaim-good desc old dead held good is but = record {
  fits = good.fits;
  legal = good.legal;
  apart = good.apart;
  claims = λ index default within.
      IsGoodClaim-pins desc old old.claims old.pins held (get_or old.claims index default) refl
      (good.claims index default within);
  held = HoldsRight-reclaim desc old dead held is.replaced good.held but;
  ordered = good.ordered;
  pinned = ArePinned-but desc old.journal old.pins old.held held dead is.unread but good.pinned;
}
