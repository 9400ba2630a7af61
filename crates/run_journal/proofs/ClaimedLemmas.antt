-- A partition that is claimed, and nothing else: how that came about (`IsOneClaim-claimed`), and what
-- its install makes of the journal (`IsInstalledIn-filled`).
use Rattle.std.proofs.Common.{◌≡◌, ◌∙◌, ◌+◌, ◌<◌, ◌∷◌, ◌++◌, ℕ, suc, List, [], Some, ap, arith}
use Rattle.std.proofs.Common.{length, refl, subst, sym, ◌≤◌}
use Rattle.std.specs.Prelude.{Bool, None, Option, if◌then◌else◌, not, slice_get}
use Rattle.std.proofs.lemmas.Bool.{eq-eqb}
use Rattle.std.proofs.lemmas.Option.{same_Some}
use Rattle.depot_cell.specs.declared.cell.Cell.{Cell}
use Rattle.desc_types.specs.declared.table.Key.{Key}
use Rattle.desc_types.specs.Descriptions.{DescOf}
use Rattle.view_meaning.specs.declared.journal.Entry.{Entry}
use Rattle.view_meaning.specs.declared.journal.Entry.TheVariants as entry
use Rattle.view_meaning.specs.Drains.{unsettled, with_install}
use Rattle.view_meaning.specs.Contents.{latest_content}
use Rattle.view_meaning.specs.Journal.{accepted}
use Rattle.view_meaning.specs.Partitions.{is_key}
use Rattle.view_meaning.specs.Values.{value_over}
use Rattle.view_meaning.proofs.LatestLemmas.{values_of_latest}
use Rattle.view_meaning.proofs.LegalLemmas.{is_raw-stale}
use Rattle.query_pin.specs.declared.input.Input.{Input}
use Rattle.query_pin.specs.Inputs.{is_version}
use Rattle.query_pin.specs.Kept.{KeptListOf, SameKept}
use Rattle.query_pin.specs.Pins.{IsLeastFree, with_pin, without_pin}
use Rattle.machine_meaning.specs.declared.claim.Claim.{Claim}
use Rattle.machine_meaning.specs.Events.{Claims, HoldsAlso, Installs, IsClaimOf, claim_at, claim_of}
use Rattle.machine_meaning.specs.Events.{claimed, installed, made, other_claims, with_entry}
use Rattle.machine_meaning.specs.Progress.{Settles}
use Rattle.machine_meaning.specs.VersionCounts.{versions_made}
use Rattle.machine_meaning.proofs.ProgressLemmas.{progress}
use Rattle.machine_meaning.specs.States.{IsGood, IsReady, State, pin_of}
use Rattle.claim_core.specs.Cores.{CoreOf, IsTicketOf, SameCore, Steps, TicketOf}
use Rattle.run_journal.specs.Changes.{IsFilled, WORKER}
use Rattle.run_journal.specs.KeptJournals.{IsKept, JournalOf, content_in, entries_of, is_entry}
use Rattle.run_journal.specs.KeptJournals.{reclaimed_of, KeepsContents}
use Rattle.run_journal.proofs.ContentsLemmas.{KeepsContents-install, content_in-next}
use Rattle.run_journal.proofs.PinningLemmas.{IsLeastFree-one, SameKept-state, without_pin-first}
use Rattle.run_journal.proofs.VersionCountLemmas.{reclaimed_of-install, versions_made-install}

-- the claim of a ticket that was made of a state
abbrev pub claim_made : State → TicketOf → Claim
claim_made state ticket = claim_of state WORKER ticket.id ticket.key

-- just the partition of a ticket is claimed, and only what it reads is pinned
pub record IsOneClaim (old new : CoreOf) (ticket : TicketOf) : Type 0 where
  pub desc : new.desc ≡ old.desc
  pub journal : new.state.journal ≡ old.state.journal
  pub claims : new.state.claims ≡ claim_made old.state ticket ∷ []
  pub pins : new.state.pins ≡ with_pin ticket.id
      (pin_of old.desc old.state.journal (claim_made old.state ticket)) []
  pub held : SameKept old.state.held new.state.held

-- a claim is made under the id of its ticket
state-claimed : (old new : CoreOf) (key : Key) (ticket : TicketOf)
    → Steps old (Claims WORKER key) new → IsTicketOf old.desc old.state key ticket
    → new.state ≡ claimed old.desc old.state (claim_made old.state ticket)
state-claimed old new key ticket steps is =
    steps.step.1.2
    ∙ ap (λ (id : ℕ). claimed old.desc old.state (claim_of old.state WORKER id key))
    (IsLeastFree-one old.state.pins steps.step.1.0 ticket.id steps.step.1.1 is.id)
    ∙ ap (λ (key : Key). claimed old.desc old.state (claim_of old.state WORKER ticket.id key))
    (sym is.key)

-- after a claim just that partition is claimed
pub IsOneClaim-claimed : (old new : CoreOf) (key : Key) (ticket : TicketOf)
    → old.state.claims ≡ [] → old.state.pins ≡ [] → Steps old (Claims WORKER key) new
    → IsTicketOf old.desc old.state key ticket → IsOneClaim old new ticket
IsOneClaim-claimed old new key ticket claims pins steps is =
    let state = state-claimed old new key ticket steps is in
    let claim = claim_made old.state ticket in
    record {
      desc = steps.desc;
      journal = ap (λ (state : State). state.journal) state;
      claims = ap (λ (state : State). state.claims) state
          ∙ ap (λ (claims : List Claim). claims ++ claim ∷ []) claims;
      pins = ap (λ (state : State). state.pins) state
          ∙ ap (with_pin ticket.id (pin_of old.desc old.state.journal claim)) pins;
      held = SameKept-state old.state.held new.state.held
          (ap (λ (state : State). state.held) state);
    }

-- a core that is as it was has that claim
pub IsOneClaim-same : (old mid new : CoreOf) (ticket : TicketOf) → IsOneClaim old mid ticket
    → SameCore mid new → IsOneClaim old new ticket
IsOneClaim-same old mid new ticket is same = record {
  desc = same.desc ∙ is.desc;
  journal = same.state.journal ∙ is.journal;
  claims = same.state.claims ∙ is.claims;
  pins = same.state.pins ∙ is.pins;
  held = record {
    entry = λ read. same.state.held.entry read ∙ is.held.entry read;
    newest = λ key. same.state.held.newest key ∙ is.held.newest key;
  };
}

-- the claim is found by its id
pub claim_at-own : (claim : Claim) → claim_at claim.id (claim ∷ []) ≡ Some claim
claim_at-own claim =
    ap (λ (same : Bool). if same then Some claim else None) (eq-eqb claim.id claim.id refl)

-- and no other claim is left without it
other_claims-own : (claim : Claim) → other_claims claim.id (claim ∷ []) ≡ []
other_claims-own claim =
    ap (λ (same : Bool). if not same then claim ∷ [] else []) (eq-eqb claim.id claim.id refl)

-- one version more is held than in a list that tells the same
HoldsAlso-same : (old mid new : KeptListOf) (more : Input) (entry : ℕ) → SameKept old mid
    → HoldsAlso mid new more entry → HoldsAlso old new more entry
HoldsAlso-same old mid new more entry same also = record {
  entries = λ read. also.entries read
      ∙ ap (λ (held : Option ℕ). if is_version more read then Some entry else held)
      (same.entry read);
  newest = λ key. also.newest key
      ∙ ap (λ (held : ℕ). if is_key more.key key then more.version else held) (same.newest key);
}

-- what a partition is made of the latest versions of its sources
abbrev pub rows_made : JournalOf → Key → List (List Cell)
rows_made journal key = value_over journal.core.desc (accepted (entries_of journal))
    (latest_content journal.core.desc (entries_of journal)) key
    (slice_get journal.core.desc.tables key.table)

-- what an install makes of a journal
pub record IsInstalledIn (old new : JournalOf) (key : Key) : Type 0 where
  pub entries : entries_of new ≡ with_install (entries_of old) key
  pub settles : Settles old.core.desc old.core.state new.core.state key
  pub reclaimed : reclaimed_of new ≡ reclaimed_of old
  pub kept : IsKept old.core.desc new

-- a journal with one claim, whose partition is installed
module _ (old mid new : JournalOf) (ticket : TicketOf) (kept : IsKept old.core.desc old)
    (ready : IsReady old.core.desc old.core.state ticket.key)
    (is : IsOneClaim old.core mid.core ticket)
    (steps : Steps mid.core (Installs WORKER ticket.id) new.core)
    (contents : (entry : ℕ) → content_in new.contents entry
    ≡ (if is_entry (length (entries_of old) + 1) entry
    then Some (rows_made old ticket.key) else content_in old.contents entry))
    (more : content_in old.contents (length (entries_of old) + 1) ≡ None
    → length new.contents ≡ suc (length old.contents)) where
  abbrev rows : List (List Cell)
  rows = rows_made old ticket.key

  -- the claim
  abbrev claim : Claim
  claim = claim_made old.core.state ticket

  -- it is the one that is installed
  claim-found : steps.step.0 ≡ claim
  claim-found = same_Some steps.step.0 claim
      (sym steps.step.1.found ∙ ap (claim_at ticket.id) is.claims ∙ claim_at-own claim)

  -- the journal gains its install
  entries_of-installed : entries_of new ≡ with_install (entries_of old) ticket.key
  entries_of-installed =
      ap (λ (state : State). state.journal) steps.step.3
      ∙ ap (λ (claim : Claim). with_entry (entries_of mid) (entry.Install claim.key claim.at))
      claim-found
      ∙ ap (λ (journal : List Entry). with_entry journal (entry.Install claim.key claim.at))
      is.journal

  -- no claim is left, and no pin
  claims-none : new.core.state.claims ≡ []
  claims-none = ap (λ (state : State). state.claims) steps.step.3
      ∙ ap (λ (claim : Claim). other_claims claim.id mid.core.state.claims) claim-found
      ∙ ap (other_claims ticket.id) is.claims ∙ other_claims-own claim

  pins-none : new.core.state.pins ≡ []
  pins-none = ap (λ (state : State). state.pins) steps.step.3
      ∙ ap (λ (claim : Claim). without_pin claim.id mid.core.state.pins) claim-found
      ∙ ap (without_pin ticket.id) is.pins ∙ without_pin-first ticket.id _ []

  -- the next version of the partition is held
  also : HoldsAlso old.core.state.held new.core.state.held
      (made old.core.desc (entries_of old) ticket.key) (length (entries_of old) + 1)
  also = HoldsAlso-same old.core.state.held mid.core.state.held new.core.state.held
      (made old.core.desc (entries_of old) ticket.key) (length (entries_of old) + 1) is.held
      (subst (λ (journal : List Entry). HoldsAlso mid.core.state.held new.core.state.held
      (made old.core.desc journal ticket.key) (length journal + 1)) is.journal
      (subst (λ (desc : DescOf). HoldsAlso mid.core.state.held new.core.state.held
      (made desc (entries_of mid) ticket.key) (length (entries_of mid) + 1)) is.desc
      (subst (λ (claim : Claim). HoldsAlso mid.core.state.held new.core.state.held
      (made mid.core.desc (entries_of mid) claim.key) (length (entries_of mid) + 1)) claim-found
      steps.step.2)))

  -- of one version more rows are kept
  count : length new.contents ≡ suc (length old.contents)
  count = more (content_in-next old.core.desc old.core.state old.contents kept.good kept.contents)

  reclaimed_of-installed : reclaimed_of new ≡ reclaimed_of old
  reclaimed_of-installed = reclaimed_of-install old new ticket.key entries_of-installed count

  made-installed : length new.contents ≤ versions_made (entries_of new)
  made-installed = rw (
    count,
    entries_of-installed,
    versions_made-install (entries_of old) ticket.key (length (entries_of old)),
  ) (omega (arith, kept.made))

  good-installed : IsGood old.core.desc new.core.state
  good-installed =
      subst (λ (desc : DescOf). IsGood desc new.core.state) (steps.desc ∙ is.desc) steps.good

  -- those that stand under the entry are the rows of the partition's value
  contents-installed : KeepsContents old.core.desc new.core.state new.contents
  contents-installed = KeepsContents-install old.core.desc old.core.state new.core.state ticket.key
      old.contents new.contents rows kept.earlier kept.good good-installed
      (is_raw-stale old.core.desc (entries_of old) ticket.key ready.stale)
      entries_of-installed also contents
      (values_of_latest old.core.desc (entries_of old) ticket.key kept.earlier ready.ready)
      kept.contents

  IsKept-installed : IsKept old.core.desc new
  IsKept-installed = record {
    served = steps.desc ∙ is.desc;
    earlier = kept.earlier;
    good = good-installed;
    claims = claims-none;
    pins = pins-none;
    contents = contents-installed;
    made = made-installed;
  }

  -- the state after the partition is claimed and installed at once
  abbrev at_once : Claim → State
  at_once first =
      installed (claimed old.core.desc old.core.state first) first new.core.state.held

  -- no id is taken
  least_free : IsLeastFree old.core.state.pins 0
  least_free = rw kept.pins
      record { free = refl; least = λ lower below. absurd (omega (arith, below)) }

  -- the claim is found
  is_claim : (first : Claim)
      → IsClaimOf (claimed old.core.desc old.core.state first) first.who first.id first
  is_claim first = record {
    found = ap (λ (claims : List Claim). claim_at first.id (claims ++ first ∷ [])) kept.claims
        ∙ claim_at-own first;
    own = refl;
  }

  -- what is unsettled after the install
  Settles-installed : Settles old.core.desc old.core.state new.core.state ticket.key
  Settles-installed =
      let first : Claim = claim_of old.core.state WORKER 0 ticket.key in
      let settles : Settles old.core.desc old.core.state (at_once first) ticket.key =
      progress old.core.desc old.core.state (claimed old.core.desc old.core.state first)
      (at_once first) WORKER 0 first kept.earlier kept.good
      (ready, (0, least_free, refl)) (is_claim first) (first, is_claim first, also, refl) in
      record {
        others = ap (unsettled old.core.desc) entries_of-installed ∙ settles.others;
        fewer = subst (λ (journal : List Entry). length (unsettled old.core.desc journal)
            < length (unsettled old.core.desc (entries_of old))) (sym entries_of-installed)
            settles.fewer;
      }

  pub IsInstalledIn-ticket : IsInstalledIn old new ticket.key
  IsInstalledIn-ticket = record {
    entries = entries_of-installed;
    settles = Settles-installed;
    reclaimed = reclaimed_of-installed;
    kept = IsKept-installed;
  }

-- a partition is claimed, its rows are made, and it is installed
pub IsInstalledIn-filled : (old start filled new : JournalOf) (key : Key) (ticket : TicketOf)
    → IsKept old.core.desc old → IsReady old.core.desc old.core.state key
    → Steps old.core (Claims WORKER key) start.core
    → IsTicketOf old.core.desc old.core.state key ticket → start.contents ≡ old.contents
    → IsFilled start filled ticket
    → ((claim : Claim) → claim_at ticket.id filled.core.state.claims ≡ Some claim
    → Steps filled.core (Installs claim.who ticket.id) new.core)
    → new.contents ≡ filled.contents → IsInstalledIn old new key
IsInstalledIn-filled old start filled new key ticket kept ready claims told same fills installs
    stays =
    let one = IsOneClaim-claimed old.core start.core key ticket kept.claims kept.pins claims told in
    let own = IsOneClaim-same old.core start.core filled.core ticket one fills.core in
    let claim = claim_made old.core.state ticket in
    subst (IsInstalledIn old new) told.key (IsInstalledIn-ticket old filled new ticket kept
    (rw told.key ready) own
    (installs claim (ap (claim_at ticket.id) own.claims ∙ claim_at-own claim))
    (λ entry. rw stays (rw (one.desc, one.journal, same) at (fills.contents entry)))
    (rw stays (rw (one.journal, same) at fills.more)))
