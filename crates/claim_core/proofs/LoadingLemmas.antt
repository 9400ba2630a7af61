-- Loading: what was prepared fits the core (`touched-parts`, `IsLoadCause-raw`), and a load is an
-- event that leaves a sound core (`Steps-load`, `IsSound-load`).
use Rattle.std.proofs.Common.{◌≡◌, ◌∙◌, ◌<◌, ◌+◌, ◌++◌, ◌∷◌, ℕ, List, [], ap, get_or, length, refl}
use Rattle.std.proofs.Common.{subst, sym, true}
use Rattle.std.specs.Prelude.{All, Bool, Err, Ok, Result, false, if◌then◌else◌, is_some, nat_lt}
use Rattle.std.specs.List.{list_any}
use Rattle.desc_types.specs.declared.table.Key.{Key}
use Rattle.desc_types.specs.Deliveries.{DeliveryOf}
use Rattle.desc_types.specs.Descriptions.{DescOf}
use Rattle.view_meaning.specs.declared.journal.Entry.{Entry}
use Rattle.view_meaning.specs.declared.journal.Entry.TheVariants as entry
use Rattle.view_meaning.specs.declared.journal.Loaded.{Loaded}
use Rattle.view_meaning.specs.Journal.{accepted, is_repeat, is_same}
use Rattle.view_meaning.specs.Loading.{loaded}
use Rattle.view_meaning.specs.Partitions.{is_among, is_part}
use Rattle.view_meaning.specs.SetAside.{asides_of}
use Rattle.view_meaning.specs.Versions.{touches}
use Rattle.view_meaning.proofs.BringsLemmas.{brings-part}
use Rattle.view_meaning.proofs.JournalLemmas.{accepted-append}
use Rattle.depot_marks.specs.MarkBooks.{MarkBookOf, TellsMarks}
use Rattle.depot_marks.proofs.KeyLemmas.{is_among-each}
use Rattle.raw_load.specs.declared.prepared.Counts.{Counts}
use Rattle.raw_load.specs.declared.prepared.LoadFault.{LoadFault}
use Rattle.raw_load.specs.declared.prepared.LoadFault.TheVariants.{Repeat, Memory}
use Rattle.raw_load.specs.Books.{LoadOf, TellsRaw, deliveries_of, place_in}
use Rattle.raw_load.specs.Preparing.{IsLoadCause as IsRawLoadCause, PreparedOf, TellsOf, counts_of}
use Rattle.raw_load.specs.Ready.{IsPrepared, RawStateOf}
use Rattle.stale_test.specs.Books.{IsReadyFor, StaleBookOf, TellsStale}
use Rattle.machine_meaning.specs.Events.{Loads, MayLoad, with_entry}
use Rattle.machine_meaning.specs.States.{State}
use Rattle.claim_core.specs.Cores.{CoreOf, IsLoadCause, IsReadyToLoad, IsSound, Steps}
use Rattle.claim_core.specs.JournalView.{AreSteps, entries_of, loads_in, places_of}
use Rattle.claim_core.specs.declared.step.Step.{Step as StepOf}
use Rattle.claim_core.specs.declared.step.Step.TheVariants.{Load}
use Rattle.claim_core.proofs.JournalViewLemmas.{AreSteps-load, deliveries_of-load}
use Rattle.claim_core.proofs.JournalViewLemmas.{is_some-place_in}
use Rattle.claim_core.proofs.PlaceLemmas.{RepeatsAt-told, deliveries_told, placed-load, places_told}
use Rattle.claim_core.proofs.SoundLemmas.{Steps-from, deliveries_of-accepted}

-- a prepared delivery keeps rows in partitions only
pub touched-parts : (desc : DescOf) (before : List DeliveryOf) (prepared : PreparedOf)
    → TellsOf desc before prepared → All (λ key. is_part desc key ≡ true) prepared.touched
touched-parts desc before prepared tells index default within =
    let key = get_or prepared.touched index default in
    brings-part desc before (prepared.delivery ∷ []) key
    (ap (λ (own : Bool). nat_lt 0 ((if own then 1 else 0) + 0))
    (sym (tells.touched key) ∙ is_among-each prepared.touched index default within))

-- the feed of a delivery has accepted its number exactly if the book has its place
is_repeat-place_in : (journal : List Entry) (loads : List LoadOf) (delivery : DeliveryOf)
    → deliveries_told loads ≡ accepted journal
    → is_repeat journal delivery ≡ is_some (place_in loads delivery.feed delivery.number)
is_repeat-place_in journal loads delivery told =
    ap (λ (all : List DeliveryOf). list_any (is_same delivery) all) (sym told)
    ∙ sym (is_some-place_in loads delivery)

-- a delivery is refused by the core as by its book of raw rows
IsLoadCause-raw : {T : Type 0} → (journal : List Entry) (steps : List StepOf)
    (loads : List LoadOf) (delivery : DeliveryOf) (result : Result T LoadFault)
    → journal ≡ entries_of steps (deliveries_told loads)
    → loads_in steps ≡ length (deliveries_told loads) → places_told loads ≡ places_of steps
    → deliveries_told loads ≡ accepted journal
    → IsRawLoadCause loads delivery result → IsLoadCause journal delivery result
IsLoadCause-raw journal steps loads delivery (Ok value) are all placed told cause =
    is_repeat-place_in journal loads delivery told ∙ ap is_some cause
IsLoadCause-raw journal steps loads delivery (Err (Repeat place)) are all placed told cause =
    RepeatsAt-told journal steps loads delivery place are all placed cause
    (is_repeat-place_in journal loads delivery told ∙ ap is_some cause)
IsLoadCause-raw journal steps loads delivery (Err Memory) are all placed told cause =
    is_repeat-place_in journal loads delivery told ∙ ap is_some cause

-- and so of `self`, which is such a core inside
pub IsLoadCause-core : {T : Type 0} → (core self : CoreOf) (steps : List StepOf)
    (delivery : DeliveryOf) (result : Result T LoadFault) → core ≡ self
    → IsSound core steps → core.state.journal ≡ entries_of steps (deliveries_of core.raw.told)
    → IsRawLoadCause core.raw.told.loads delivery result
    → IsLoadCause self.state.journal delivery result
IsLoadCause-core core self steps delivery result view sound journal cause =
    subst (λ (self : CoreOf). IsLoadCause self.state.journal delivery result) view
    (IsLoadCause-raw core.state.journal steps core.raw.told.loads delivery result journal
    sound.loads.loads sound.placed
    (deliveries_of-accepted core core steps refl sound.loads journal) cause)

-- what was prepared for a core has the counts of its delivery
pub counts_of-core : (core self : CoreOf) (steps : List StepOf) (raw : RawStateOf)
    (prepared : PreparedOf) (delivery : DeliveryOf) → core ≡ self
    → AreSteps steps (deliveries_of core.raw.told)
    → core.state.journal ≡ entries_of steps (deliveries_of core.raw.told)
    → raw.told ≡ core.raw.told → IsPrepared core.desc raw prepared
    → prepared.delivery ≡ delivery
    → prepared.counts ≡ counts_of self.desc (accepted self.state.journal) delivery
counts_of-core core self steps raw prepared delivery view are journal kept is exact =
    subst (λ (self : CoreOf). prepared.counts
    ≡ counts_of self.desc (accepted self.state.journal) delivery) view
    (is.tells.counts
    ∙ ap (counts_of core.desc (deliveries_of raw.told)) exact
    ∙ ap (λ (before : List DeliveryOf). counts_of core.desc before delivery)
    (ap deliveries_of kept ∙ deliveries_of-accepted core core steps refl are journal))

-- a book of marks that told the marks after deliveries tells those after one more, which was prepared
-- and is new
abbrev pub NotesLoad : PreparedOf → (old new : MarkBookOf) → Type 0
NotesLoad prepared old new = (desc : DescOf) (accepted : List DeliveryOf)
    → TellsMarks desc accepted old
    → prepared.delivery.feed < length desc.feeds
    → list_any (is_same prepared.delivery) accepted ≡ false
    → prepared.asides ≡ asides_of desc accepted prepared.delivery
    → TellsMarks desc (accepted ++ prepared.delivery ∷ []) new

-- so does a book of stale partitions that a walk made ready for it
abbrev pub NotesTouched : PreparedOf → (old new : StaleBookOf) → Type 0
NotesTouched prepared old new = (desc : DescOf) (journal : List Entry) (delivery : DeliveryOf)
    → IsReadyFor desc prepared.touched old → TellsStale desc journal old
    → ((key : Key) → is_among prepared.touched key ≡ touches desc key (accepted journal) delivery)
    → TellsStale desc (journal ++ entry.Load delivery ∷ []) new

-- what a load changes: a prepared delivery is added, with the place of its entry
pub record AddsLoad (old new : CoreOf) (prepared : PreparedOf) (place : ℕ) : Type 0 where
  pub desc : new.desc ≡ old.desc
  pub state : new.state
      ≡ record old.state { journal = with_entry old.state.journal (entry.Load prepared.delivery) }
  pub loads : new.raw.told.loads
      ≡ old.raw.told.loads ++ record { place = place; delivery = prepared.delivery } ∷ []
  pub raw : (desc : DescOf) → TellsRaw desc old.raw.told → IsPrepared desc old.raw prepared
      → TellsRaw desc new.raw.told
  pub marks : NotesLoad prepared old.marks new.marks
  pub stale : NotesTouched prepared old.stale new.stale

-- a delivery that was prepared may be loaded
MayLoad-prepared : (core : CoreOf) (prepared : PreparedOf)
    → deliveries_of core.raw.told ≡ accepted core.state.journal → IsReadyToLoad core prepared
    → MayLoad core.desc core.state.journal prepared.delivery
MayLoad-prepared core prepared told ready = record {
  fits = ready.fits;
  fresh = is_repeat-place_in core.state.journal core.raw.told.loads prepared.delivery told
      ∙ ap is_some ready.raw.new;
}

-- so a load is an event
pub Steps-load : (old new : CoreOf) (steps : List StepOf) (prepared : PreparedOf) (place : ℕ)
    → deliveries_of old.raw.told ≡ accepted old.state.journal → IsSound old steps
    → IsReadyToLoad old prepared → AddsLoad old new prepared place
    → Steps old (Loads prepared.delivery) new
Steps-load old new steps prepared place told sound ready adds =
    Steps-from old new (Loads prepared.delivery) adds.desc sound.good
    (MayLoad-prepared old prepared told ready, adds.state)

-- after a load the book of marks tells what the journal says
TellsMarks-load : (old new : CoreOf) (prepared : PreparedOf) (place : ℕ)
    → deliveries_of old.raw.told ≡ accepted old.state.journal
    → TellsMarks old.desc (accepted old.state.journal) old.marks
    → IsReadyToLoad old prepared → AddsLoad old new prepared place
    → TellsMarks old.desc (accepted (with_entry old.state.journal (entry.Load prepared.delivery)))
    new.marks
TellsMarks-load old new prepared place told tells ready adds =
    let delivery : DeliveryOf = prepared.delivery in
    let all : List DeliveryOf = accepted old.state.journal in
    rw (accepted-append old.state.journal (entry.Load delivery ∷ [])) (adds.marks old.desc all tells
    ready.fits.of_feed (MayLoad-prepared old prepared told ready).fresh
    (ready.raw.tells.asides
    ∙ ap (λ (before : List DeliveryOf). asides_of old.desc before delivery) told))

-- and so does the book of stale partitions
TellsStale-load : (old new : CoreOf) (prepared : PreparedOf) (place : ℕ)
    → deliveries_of old.raw.told ≡ accepted old.state.journal
    → TellsStale old.desc old.state.journal old.stale
    → IsReadyToLoad old prepared → AddsLoad old new prepared place
    → TellsStale old.desc (with_entry old.state.journal (entry.Load prepared.delivery)) new.stale
TellsStale-load old new prepared place told tells ready adds =
    adds.stale old.desc old.state.journal prepared.delivery ready.beside.walked tells (λ key.
    ready.raw.tells.touched key
    ∙ ap (λ (before : List DeliveryOf). touches old.desc key before prepared.delivery) told)

-- a load leaves a sound core
pub IsSound-load : (old new : CoreOf) (steps : List StepOf) (prepared : PreparedOf) (place : ℕ)
    → deliveries_of old.raw.told ≡ accepted old.state.journal → IsSound old steps
    → IsReadyToLoad old prepared → AddsLoad old new prepared place → place ≡ length steps + 1
    → IsSound new (steps ++ Load ∷ [])
IsSound-load old new steps prepared place told sound ready adds is =
    let journal = ap (λ (state : State). state.journal) adds.state in
    record {
      loads = rw (deliveries_of-load old.raw.told new.raw.told place prepared.delivery adds.loads)
          (AreSteps-load steps (deliveries_of old.raw.told) prepared.delivery sound.loads);
      placed = placed-load steps old.raw.told.loads new.raw.told.loads place prepared.delivery
          adds.loads is sound.placed;
      good = (Steps-load old new steps prepared place told sound ready adds).good;
      raw = rw adds.desc (adds.raw old.desc sound.raw ready.raw);
      marks = rw (adds.desc, journal)
          (TellsMarks-load old new prepared place told sound.marks ready adds);
      stale = rw (adds.desc, journal)
          (TellsStale-load old new prepared place told sound.stale ready adds);
    }

-- what is told of a load is what it does
pub loaded-prepared : (desc : DescOf) (journal : List Entry) (before : List DeliveryOf)
    (prepared : PreparedOf) (told : Loaded)
    → before ≡ accepted journal → TellsOf desc before prepared
    → told.entry ≡ length journal + 1 → told.kept ≡ prepared.counts.kept
    → told.aside ≡ prepared.counts.aside
    → told ≡ loaded desc journal prepared.delivery
loaded-prepared desc journal before prepared told all tells entry kept aside =
    let counts : prepared.counts ≡ counts_of desc (accepted journal) prepared.delivery =
    tells.counts
    ∙ ap (λ (before : List DeliveryOf). counts_of desc before prepared.delivery) all in
    λ i. record {
      entry = entry i;
      kept = (kept ∙ ap (λ (counts : Counts). counts.kept) counts) i;
      aside = (aside ∙ ap (λ (counts : Counts). counts.aside) counts) i;
    }
