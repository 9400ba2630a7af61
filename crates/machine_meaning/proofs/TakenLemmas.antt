-- A partition is claimed once between two loads, unless a claim of it is given up, or ended by a
-- stop: `one_claim`. From its claim on it is taken: claimed still, or installed with the place of the
-- claim.
use Rattle.std.proofs.Common.{List, Some, [], ap, arith, cond, get_or, inl, inr, length, refl}
use Rattle.std.proofs.Common.{subst, suc, sym, take, true, ℕ, ◌∙◌, ◌∷◌, ◌≡◌, ◌≢◌, ◌≤◌}
use Rattle.std.specs.List.{AllPairs, list_all, list_any}
use Rattle.std.specs.Prelude.{All, Bool, IsSomeAnd, None, Option, false, filter, not, slice_get}
use Rattle.std.specs.Prelude.{◌==◌, ◌||◌, ◌⊎◌}
use Rattle.std.proofs.lemmas.Bool.{both_ways, cases_Bool, eqb-true, false_from_ne_true, false≢true}
use Rattle.std.proofs.lemmas.Bool.{not_from_false, or_left, or_right}
use Rattle.std.proofs.lemmas.List.{append-nil, length_push, take-append-le, take_all}
use Rattle.std.proofs.lemmas.List.Elements.{All-filter, All-head, All-nil, All-push, All-tail}
use Rattle.std.proofs.lemmas.List.Folds.{list_any-append, list_any_none}
use Rattle.desc_types.specs.declared.table.Key.{Key}
use Rattle.desc_types.specs.Deliveries.{DeliveryOf}
use Rattle.desc_types.specs.Descriptions.{DescOf}
use Rattle.desc_types.specs.Sources.{HasEarlierSources}
use Rattle.view_meaning.specs.declared.journal.Entry.{Entry}
use Rattle.view_meaning.specs.Journal.{accepted}
use Rattle.view_meaning.specs.LegalJournals.{IsLegal}
use Rattle.view_meaning.specs.Partitions.{is_key, sources_of}
use Rattle.view_meaning.specs.RawBelow.{raw_below}
use Rattle.view_meaning.specs.Staleness.{is_settled, is_stale}
use Rattle.view_meaning.specs.Versions.{is_raw, last_place, raw_version}
use Rattle.view_meaning.proofs.AmongLemmas.{is_key-itself, is_key-same}
use Rattle.view_meaning.proofs.BelowLemmas.{raw_below_within-is_raw}
use Rattle.view_meaning.proofs.JournalLemmas.{accepted-append}
use Rattle.view_meaning.proofs.LegalLemmas.{is_raw-stale}
use Rattle.view_meaning.proofs.RawLemmas.{version-raw}
use Rattle.view_meaning.proofs.VersionLemmas.{last_place-Install, last_place-same}
use Rattle.query_pin.specs.Kept.{KeptListOf}
use Rattle.query_pin.specs.Pins.{PinOf, with_pin, without_pin}
use Rattle.machine_meaning.specs.declared.claim.Claim.{Claim}
use Rattle.machine_meaning.specs.Claims.{HasOneClaim, IsQuiet, QuietRun}
use Rattle.machine_meaning.specs.Events.{Abandons, Claims, Event, Installs, IsLeft, Loads, Pins}
use Rattle.machine_meaning.specs.Events.{Reclaims, Step, Stops, Unpins, asked, claim_at, claim_of}
use Rattle.machine_meaning.specs.Events.{claimed, ended, found, installed, other_claims, with_entry}
use Rattle.machine_meaning.specs.States.{AreApart, IsGood, IsReady, State}
use Rattle.machine_meaning.proofs.ClaimLemmas.{All-find, claim_at-own, is_key-apart, same_key}
use Rattle.machine_meaning.proofs.FreshLemmas.{HasKept, is_stale-quiet}
use Rattle.machine_meaning.proofs.StepLemmas.{good_steps}
use Rattle.view_meaning.specs.declared.journal.Entry.TheVariants as entry

-- whether a partition is claimed
abbrev is_claimed : List Claim → Key → Bool
is_claimed claims key = list_any (λ (claim : Claim). is_key key claim.key) claims

-- after the first so many entries the sources of a view's partition were settled, and nothing was
-- loaded since
record IsSettledSince (desc : DescOf) (key : Key) (at : ℕ) (journal : List Entry) : Type 0 where
  pub view : is_raw (slice_get desc.tables key.table) ≡ false
  pub past : at ≤ length journal
  pub ready : list_all (is_settled desc (take at journal)) (sources_of desc key) ≡ true
  pub quiet : accepted journal ≡ accepted (take at journal)

-- a partition is taken: each claim of it has this place, and there is one, or its last install has
record IsTaken (desc : DescOf) (key : Key) (at : ℕ) (state : State) : Type 0 where
  pub since : IsSettledSince desc key at state.journal
  pub placed : All (λ (claim : Claim). claim.key ≡ key → claim.at ≡ at) state.claims
  pub stands : (is_claimed state.claims key ≡ true) ⊎ (last_place state.journal key ≡ at)

-- an install more loads nothing
IsSettledSince-Install : (desc : DescOf) (key : Key) (at : ℕ) (journal : List Entry)
    (installed : Key) (place : ℕ) → IsSettledSince desc key at journal
    → IsSettledSince desc key at (with_entry journal (entry.Install installed place))
IsSettledSince-Install desc key at journal installed place since =
    let next = entry.Install installed place in
    let front : take at (with_entry journal next) ≡ take at journal =
    take-append-le at journal (next ∷ []) since.past in
    record {
      view = since.view;
      past = omega (arith, since.past, length_push journal next);
      ready = ap (λ (before : List Entry). list_all (is_settled desc before) (sources_of desc key))
          front
          ∙ since.ready;
      quiet = accepted-append journal (next ∷ [])
          ∙ append-nil (accepted journal)
          ∙ since.quiet
          ∙ ap accepted (sym front);
    }

-- as long as nothing is loaded each raw partition keeps its version
HasKept-quiet : (desc : DescOf) (journal : List Entry) (at : ℕ) (raw : Key)
    → is_raw (slice_get desc.tables raw.table) ≡ true
    → accepted journal ≡ accepted (take at journal) → HasKept desc journal at raw
HasKept-quiet desc journal at raw is quiet =
    version-raw desc journal raw is
    ∙ ap (λ (all : List DeliveryOf). raw_version desc all raw) quiet
    ∙ sym (version-raw desc (take at journal) raw is)

-- so a partition that was installed with this place is not stale
is_stale-since : (desc : DescOf) (key : Key) (at : ℕ) (journal : List Entry)
    → HasEarlierSources desc → IsLegal desc journal → IsSettledSince desc key at journal
    → last_place journal key ≡ at → is_stale desc journal key ≡ false
is_stale-since desc key at journal earlier legal since last =
    is_stale-quiet desc journal key earlier legal since.view
    (ap (λ (at : ℕ). list_all (is_settled desc (take at journal)) (sources_of desc key)) last
    ∙ since.ready)
    (λ index default within.
    let raw = get_or (raw_below desc key) index default in
    subst (λ (at : ℕ). HasKept desc journal at raw) (sym last)
    (HasKept-quiet desc journal at raw
    (raw_below_within-is_raw (suc key.table) desc key index default within) since.quiet))

-- a partition of which there is no claim is not claimed
is_claimed-none : (claims : List Claim) (key : Key)
    → All (λ (claim : Claim). claim.key ≢ key) claims → is_claimed claims key ≡ false
is_claimed-none claims key none =
    list_any_none (λ (claim : Claim). is_key key claim.key) claims (λ index default within.
    is_key-apart key (get_or claims index default).key (none index default within))

-- if it is taken then, it was installed
last_place-none : (desc : DescOf) (key : Key) (at : ℕ) (state : State)
    → IsTaken desc key at state → All (λ (claim : Claim). claim.key ≢ key) state.claims
    → last_place state.journal key ≡ at
last_place-none desc key at state taken none = elim taken.stands [
  | inl claimed ↦ absurd (both_ways (is_claimed state.claims key)
      (is_claimed-none state.claims key none) claimed)
  | inr last ↦ last
]

-- what is taken is not ready
not_ready : (desc : DescOf) (key : Key) (at : ℕ) (state : State) → HasEarlierSources desc
    → IsLegal desc state.journal → IsTaken desc key at state → IsReady desc state key → ⊥
not_ready desc key at state earlier legal taken ready =
    both_ways (is_stale desc state.journal key)
    (is_stale-since desc key at state.journal earlier legal taken.since
    (last_place-none desc key at state taken ready.free))
    ready.stale

-- a test finds as much among those that are kept, if it finds only what is kept
list_any-filter : {X : Type 0} (test keep : X → Bool) (xs : List X)
    → All (λ x. test x ≡ true → keep x ≡ true) xs
    → list_any test (filter keep xs) ≡ list_any test xs
list_any-filter test keep [] kept = refl
list_any-filter {X} test keep (x ∷ xs) kept =
    either (keep x) (test x) (All-head (λ x. test x ≡ true → keep x ≡ true) x xs kept)
    (list_any-filter test keep xs (All-tail (λ x. test x ≡ true → keep x ≡ true) x xs kept)) refl
  where
    either : (keeps passes : Bool) → (passes ≡ true → keeps ≡ true)
        → list_any test (filter keep xs) ≡ list_any test xs → test x ≡ passes
        → list_any test (cond keeps (x ∷ filter keep xs) (filter keep xs))
        ≡ (passes || list_any test xs)
    either true passes only rest is = rw is (ap (λ (more : Bool). passes || more) rest)
    either false true only rest is = absurd (false≢true (only refl))
    either false false only rest is = rest

-- a partition stays claimed as a claim of another one ends
is_claimed-other : (id : ℕ) (claims : List Claim) (claim : Claim) (key : Key)
    → AllPairs AreApart claims → claim_at id claims ≡ Some claim → claim.key ≢ key
    → is_claimed (other_claims id claims) key ≡ is_claimed claims key
is_claimed-other id claims claim key apart found other =
    list_any-filter (λ (claim : Claim). is_key key claim.key)
    (λ (claim : Claim). not (claim.id == id)) claims (λ index default within same.
    let next = get_or claims index default in
    not_from_false (next.id == id) (false_from_ne_true (next.id == id) (λ is.
    other (sym (same_key id claims claim apart found index default within
    (eqb-true next.id id is))
    ∙ is_key-same key next.key same))))

-- what is taken stays so as another partition's claim ends
IsTaken-ended : (desc : DescOf) (key : Key) (at : ℕ) (old : State) (id : ℕ) (claim : Claim)
    → IsGood desc old → IsTaken desc key at old → claim_at id old.claims ≡ Some claim
    → claim.key ≢ key → IsTaken desc key at (ended old id)
IsTaken-ended desc key at old id claim good taken found other = record {
  since = taken.since;
  placed = All-filter (λ (claim : Claim). not (claim.id == id))
      (λ (claim : Claim). claim.key ≡ key → claim.at ≡ at) old.claims taken.placed;
  stands = elim taken.stands [
    | inl claimed ↦ inl (is_claimed-other id old.claims claim key good.apart found other ∙ claimed)
    | inr last ↦ inr last
  ];
}

-- it stays so as the claim of another one is made
IsTaken-claimed : (desc : DescOf) (key : Key) (at : ℕ) (old : State) (claim : Claim)
    → IsTaken desc key at old → claim.key ≢ key → IsTaken desc key at (claimed desc old claim)
IsTaken-claimed desc key at old claim taken other = record {
  since = taken.since;
  placed = All-push (λ (claim : Claim). claim.key ≡ key → claim.at ≡ at) old.claims claim
      taken.placed (λ same. absurd (other same));
  stands = elim taken.stands [
    | inl stands ↦ inl (list_any-append (λ (claim : Claim). is_key key claim.key) old.claims
        (claim ∷ [])
        ∙ or_left (is_claimed old.claims key) (is_claimed (claim ∷ []) key) stands)
    | inr last ↦ inr last
  ];
}

-- the last place stays as another partition is installed
last_place-other : (journal : List Entry) (key installed : Key) (place : ℕ) → installed ≢ key
    → last_place (with_entry journal (entry.Install installed place)) key ≡ last_place journal key
last_place-other journal key installed place other =
    last_place-same journal (entry.Install installed place ∷ []) key
    (rw (is_key-apart key installed other) refl)

-- what is taken stays so as another one is installed
IsTaken-Install : (desc : DescOf) (key : Key) (at : ℕ) (old : State) (installed : Key) (place : ℕ)
    (held : KeptListOf) → IsTaken desc key at old → installed ≢ key
    → IsTaken desc key at (record old {
      journal = with_entry old.journal (entry.Install installed place);
      held = held;
    })
IsTaken-Install desc key at old installed place held taken other = record {
  since = IsSettledSince-Install desc key at old.journal installed place taken.since;
  placed = taken.placed;
  stands = elim taken.stands [
    | inl claimed ↦ inl claimed
    | inr last ↦ inr (last_place-other old.journal key installed place other ∙ last)
  ];
}

-- it stays so as its own claim is used
IsTaken-own : (desc : DescOf) (key : Key) (at : ℕ) (old : State) (claim : Claim)
    (held : KeptListOf) → IsTaken desc key at old → claim.key ≡ key → claim.at ≡ at
    → IsTaken desc key at (installed old claim held)
IsTaken-own desc key at old claim held taken own placed = record {
  since = IsSettledSince-Install desc key at old.journal claim.key claim.at taken.since;
  placed = All-filter (λ (other : Claim). not (other.id == claim.id))
      (λ (claim : Claim). claim.key ≡ key → claim.at ≡ at) old.claims taken.placed;
  stands = inr (last_place-Install old.journal key claim.key claim.at
      (subst (λ (installed : Key). is_key key installed ≡ true) (sym own) (is_key-itself key))
      ∙ placed);
}

-- it stays so as any claim is used
IsTaken-installed : (desc : DescOf) (key : Key) (at : ℕ) (old : State) (claim : Claim)
    (held : KeptListOf) → IsGood desc old → IsTaken desc key at old
    → claim_at claim.id old.claims ≡ Some claim → IsTaken desc key at (installed old claim held)
IsTaken-installed desc key at old claim held good taken found =
    elim (cases_Bool (is_key key claim.key)) [
      | inl same ↦
          let own : claim.key ≡ key = is_key-same key claim.key same in
          IsTaken-own desc key at old claim held taken own
          (All-find (λ (claim : Claim). claim.key ≡ key → claim.at ≡ at)
          (λ (other : Claim). other.id == claim.id) old.claims claim taken.placed found own)
      | inr apart ↦
          let other : claim.key ≢ key = λ same. both_ways (is_key key claim.key) apart
          (subst (λ (installed : Key). is_key key installed ≡ true) (sym same)
          (is_key-itself key)) in
          IsTaken-Install desc key at (ended old claim.id) claim.key claim.at held
          (IsTaken-ended desc key at old claim.id claim good taken found other) other
    ]

-- it stays so by a stop, if it was installed
IsTaken-found : (desc : DescOf) (key : Key) (at : ℕ) (old : State) (held : KeptListOf)
    → IsTaken desc key at old → All (λ (claim : Claim). claim.key ≢ key) old.claims
    → IsTaken desc key at (found old.journal held)
IsTaken-found desc key at old held taken none = record {
  since = taken.since;
  placed = All-nil (λ (claim : Claim). claim.key ≡ key → claim.at ≡ at);
  stands = inr (last_place-none desc key at old taken none);
}

-- whatever the stop leaves, if that is no load
IsTaken-stop : (desc : DescOf) (key : Key) (at : ℕ) (old : State) (last : Option Entry)
    (journal : List Entry) (held : KeptListOf) → IsTaken desc key at old
    → IsLeft desc old last journal → IsQuiet key old (Stops last)
    → IsTaken desc key at (found journal held)
IsTaken-stop desc key at old None journal held taken left quiet =
    subst (λ (journal : List Entry). IsTaken desc key at (found journal held)) (sym left)
    (IsTaken-found desc key at old held taken quiet)
IsTaken-stop desc key at old (Some (entry.Load delivery)) journal held taken left quiet =
    absurd quiet
IsTaken-stop desc key at old (Some (entry.Install installed place)) journal held taken left quiet =
    let claim = get_or old.claims left.0.0 left.0.1 in
    let same : claim.key ≡ installed =
    ap (λ (claim : Claim). claim.key) left.0.3 ∙ left.0.4.0 in
    subst (λ (journal : List Entry). IsTaken desc key at (found journal held)) (sym left.1)
    (IsTaken-Install desc key at (found old.journal held) installed place held
    (IsTaken-found desc key at old held taken quiet)
    (λ is. quiet left.0.0 left.0.1 left.0.2 (same ∙ is)))

-- it stays so if the journal and the claims are the same
IsTaken-same : (desc : DescOf) (key : Key) (at : ℕ) (old : State) (pins : List (ℕ × PinOf))
    (held : KeptListOf) → IsTaken desc key at old
    → IsTaken desc key at (record old { pins = pins; held = held })
IsTaken-same desc key at old pins held taken =
    record { since = taken.since; placed = taken.placed; stands = taken.stands }

-- the partition of a claim that is given up quietly is another one
quiet-key : (key : Key) (claims : List Claim) (id : ℕ) (claim : Claim)
    → IsSomeAnd (claim_at id claims) (λ claim. claim.key ≢ key) → claim_at id claims ≡ Some claim
    → claim.key ≢ key
quiet-key key claims id claim quiet there =
    subst (λ (found : Option Claim). IsSomeAnd found (λ claim. claim.key ≢ key)) there quiet

-- what is taken stays so by each quiet event
IsTaken-step : (desc : DescOf) (key : Key) (at : ℕ) (old new : State) (event : Event)
    → HasEarlierSources desc → IsGood desc old → IsTaken desc key at old
    → Step desc old event new → IsQuiet key old event → IsTaken desc key at new
IsTaken-step desc key at old new (Loads delivery) earlier good taken step quiet = absurd quiet
IsTaken-step desc key at old new (Claims who other) earlier good taken step quiet =
    subst (IsTaken desc key at) (sym step.1.2)
    (IsTaken-claimed desc key at old (claim_of old who step.1.0 other) taken
    (λ same. not_ready desc key at old earlier good.legal taken
    (subst (IsReady desc old) same step.0)))
IsTaken-step desc key at old new (Installs who id) earlier good taken step quiet =
    subst (IsTaken desc key at) (sym step.3)
    (IsTaken-installed desc key at old step.0 new.held good taken
    (claim_at-own id old.claims step.0 step.1.found))
IsTaken-step desc key at old new (Abandons who id) earlier good taken step quiet =
    subst (IsTaken desc key at) (sym step.2)
    (IsTaken-ended desc key at old id step.0 good taken step.1.found
    (quiet-key key old.claims id step.0 quiet step.1.found))
IsTaken-step desc key at old new (Pins who items) earlier good taken step quiet =
    subst (IsTaken desc key at) (sym step.2)
    (IsTaken-same desc key at old
    (with_pin step.0 (record { who = who; versions = asked desc old.journal items }) old.pins)
    old.held taken)
IsTaken-step desc key at old new (Unpins who id) earlier good taken step quiet =
    subst (IsTaken desc key at) (sym step.1)
    (IsTaken-same desc key at old (without_pin id old.pins) old.held taken)
IsTaken-step desc key at old new (Reclaims dead) earlier good taken step quiet =
    subst (IsTaken desc key at) (sym step.2)
    (IsTaken-same desc key at old old.pins new.held taken)
IsTaken-step desc key at old new (Stops last) earlier good taken step quiet =
    subst (IsTaken desc key at) (sym step.2)
    (IsTaken-stop desc key at old last new.journal new.held taken step.0 quiet)

-- what is taken is not ready after quiet events
not_ready-run : (desc : DescOf) (key : Key) (at : ℕ) (old new : State) (events : List Event)
    → HasEarlierSources desc → IsGood desc old → IsTaken desc key at old
    → QuietRun desc key old events new → IsReady desc new key → ⊥
not_ready-run desc key at old new [] earlier good taken run ready =
    not_ready desc key at old earlier good.legal taken
    (subst (λ (state : State). IsReady desc state key) run ready)
not_ready-run desc key at old new (event ∷ later) earlier good taken run ready =
    not_ready-run desc key at run.0 new later earlier
    (good_steps desc old run.0 event good run.1)
    (IsTaken-step desc key at old run.0 event earlier good taken run.1 run.2) run.3 ready

-- the sources of what is ready are settled, and nothing was loaded since
IsSettledSince-ready : (desc : DescOf) (state : State) (key : Key) → IsReady desc state key
    → IsSettledSince desc key (length state.journal) state.journal
IsSettledSince-ready desc state key ready =
    let all : take (length state.journal) state.journal ≡ state.journal =
    take_all (length state.journal) state.journal (omega arith) in
    record {
      view = is_raw-stale desc state.journal key ready.stale;
      past = omega arith;
      ready = ap (λ (before : List Entry). list_all (is_settled desc before) (sources_of desc key))
          all
          ∙ ready.ready;
      quiet = ap accepted (sym all);
    }

-- what is ready is taken as it is claimed
IsTaken-ready : (desc : DescOf) (old : State) (who id : ℕ) (key : Key) → IsReady desc old key
    → IsTaken desc key (length old.journal) (claimed desc old (claim_of old who id key))
IsTaken-ready desc old who id key ready =
    let claim : Claim = claim_of old who id key in
    record {
      since = IsSettledSince-ready desc old key ready;
      placed = All-push (λ (claim : Claim). claim.key ≡ key → claim.at ≡ length old.journal)
          old.claims claim
          (λ index default within same. absurd (ready.free index default within same))
          (λ same. refl);
      stands = inl (list_any-append (λ (claim : Claim). is_key key claim.key) old.claims (claim ∷ [])
          ∙ or_right (is_claimed old.claims key) (is_claimed (claim ∷ []) key)
          (or_left (is_key key key) false (is_key-itself key)));
    }

-- what was claimed is not ready again before a load, unless a claim of it was given up, or ended by
-- a stop
pub one_claim : HasOneClaim
one_claim desc old mid new who key events earlier good step run ready =
    not_ready-run desc key (length old.journal) mid new events earlier
    (good_steps desc old mid (Claims who key) good step)
    (subst (IsTaken desc key (length old.journal)) (sym step.1.2)
    (IsTaken-ready desc old who step.1.0 key step.0))
    run ready
