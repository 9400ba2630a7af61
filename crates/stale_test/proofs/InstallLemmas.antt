-- A book after an install: `TellsStale-Install`.
use Rattle.std.proofs.Common.{◌≡◌, ◌∙◌, ℕ, ◌+◌, ◌<◌, ◌≤◌, List, [], ◌∷◌, ◌++◌, length, take, get_or}
use Rattle.std.proofs.Common.{refl, sym, ap, inl, inr, arith}
use Rattle.std.specs.Prelude.{All, Bool, true, false, not, ◌&&◌, ◌||◌, nat_eq, nat_le}
use Rattle.std.specs.Prelude.{if◌then◌else◌, slice_get}
use Rattle.std.specs.BTreeMap.{is_at}
use Rattle.std.specs.List.{list_all, list_any}
use Rattle.std.proofs.lemmas.Bool.{cases_Bool}
use Rattle.std.proofs.lemmas.List.{length-append, take-append-le}
use Rattle.std.proofs.Math.Bool.{and-true, not-not, or-false}
use Rattle.desc_types.specs.declared.table.Key.{Key}
use Rattle.desc_types.specs.Descriptions.{DescOf}
use Rattle.desc_types.specs.Keys.{key_cmp}
use Rattle.view_meaning.specs.declared.journal.Entry.{Entry}
use Rattle.view_meaning.specs.declared.journal.Entry.TheVariants as entry
use Rattle.view_meaning.specs.Drains.{all_view_keys, unsettled}
use Rattle.view_meaning.specs.Partitions.{is_among, is_key, is_part, sources_of}
use Rattle.view_meaning.specs.Staleness.{is_settled, is_stale}
use Rattle.view_meaning.specs.Versions.{is_raw, last_place, version}
use Rattle.view_meaning.proofs.AmongLemmas.{is_key-itself, is_key-same}
use Rattle.view_meaning.proofs.BoolLemmas.{not-or}
use Rattle.view_meaning.proofs.KeyLemmas.{sources_of-parts}
use Rattle.view_meaning.proofs.ListLemmas.{list_all-agree, list_all-and, list_all-not}
use Rattle.view_meaning.proofs.SettledLemmas.{is_settled-step}
use Rattle.view_meaning.proofs.SourceLemmas.{sources_of-earlier}
use Rattle.view_meaning.proofs.VersionLemmas.{last_place-Install, last_place-same}
use Rattle.stale_test.specs.declared.history.History.{History}
use Rattle.stale_test.specs.declared.standing.Standing.{Standing}
use Rattle.stale_test.specs.Books.{IsReadyFor, StaleBookOf, TellsStale, is_unsettled_in, place_in}
use Rattle.stale_test.specs.Histories.{AreBefore, history_in, installed, no_history}
use Rattle.stale_test.specs.Keeping.{woken}
use Rattle.stale_test.specs.Places.{ChangesEach}
use Rattle.stale_test.specs.Standings.{IsWorst, has_changed, is_bad, standing_in, tells_stale}
use Rattle.stale_test.specs.Standings.{tells_unsettled}
use Rattle.stale_test.proofs.EntryLemmas.{ChangesVersions-Install, is_among-other}
use Rattle.stale_test.proofs.EntryLemmas.{is_reached-source, is_settled-push, is_stale-versions}
use Rattle.stale_test.proofs.EntryLemmas.{version-stays}
use Rattle.stale_test.proofs.HistoryLemmas.{Counts-installed}
use Rattle.stale_test.proofs.NoteLemmas.{NotesVersions, changed_in-push, version_in-push}
use Rattle.stale_test.proofs.NoteLemmas.{woken_stale, woken_unsettled}
use Rattle.stale_test.proofs.OrderLemmas.{is_at-is_key}
use Rattle.stale_test.proofs.TellsLemmas.{is_among-unsettled, is_unsettled_in-part}
use Rattle.stale_test.proofs.ViewKeyLemmas.{is_among-all_view_keys}

-- a partition of a view is installed after a journal of which a book tells, with the place of one
-- of its entries, or 0
pub record MayNote (desc : DescOf) (journal : List Entry) (key : Key) (at : ℕ)
    (old : StaleBookOf) : Type 0 where
  pub tells : TellsStale desc journal old
  pub ready : IsReadyFor desc (key ∷ []) old
  pub part : is_part desc key ≡ true
  pub view : is_raw (slice_get desc.tables key.table) ≡ false
  pub past : at ≤ length journal

-- the install was noted: the partition stands as its sources let it, and all above it was woken
pub record NotesInstall (desc : DescOf) (key : Key) (at : ℕ) (old new : StaleBookOf)
    : Type 0 where
  pub entries : new.entries ≡ old.entries + 1
  pub parts : ChangesEach (installed (old.entries + 1) at) no_history (key ∷ [])
      old.parts new.parts
  pub standing : Standing
  pub worst : IsWorst old.parts old.unsettled at (sources_of desc key) standing
  pub unsettled : (other : Key) → standing_in new.unsettled other
      ≡ (if is_at (key_cmp key) other then standing
      else woken old.ready other (standing_in old.unsettled other))

-- a source has the version that it had at the place exactly if it did not change after it
version-source : (desc : DescOf) (journal : List Entry) (key source : Key) (at : ℕ)
    (old : StaleBookOf) → MayNote desc journal key at old → source.table < key.table
    → nat_eq (version desc (take at journal) source)
    (version desc (journal ++ entry.Install key at ∷ []) source)
    ≡ not (has_changed old.parts at source)
version-source desc journal key source at old may before =
    ap (λ (now : ℕ). nat_eq (version desc (take at journal) source) now)
    (version-stays desc (is_among (key ∷ [])) journal (entry.Install key at) source
    (ChangesVersions-Install desc journal key at may.view) (is_among-other key source before))
    ∙ sym (may.tells.changed source at may.past)
    ∙ sym (not-not (nat_le (history_in old.parts source).changed at))

-- after its install a partition is stale exactly if a source changed after the place
installed-stale : (desc : DescOf) (journal : List Entry) (key : Key) (at : ℕ) (old : StaleBookOf)
    → MayNote desc journal key at old
    → is_stale desc (journal ++ entry.Install key at ∷ []) key
    ≡ list_any (has_changed old.parts at) (sources_of desc key)
installed-stale desc journal key at old may =
    let after = journal ++ entry.Install key at ∷ [] in
    let sources = sources_of desc key in
    let changed = has_changed old.parts at in
    is_stale-versions desc after (take at journal) key
    (ap (λ (place : ℕ). take place after)
    (last_place-Install journal key key at (is_key-itself key))
    ∙ take-append-le at journal (entry.Install key at ∷ []) may.past)
    ∙ ap not (list_all-agree
    (λ source. nat_eq (version desc (take at journal) source) (version desc after source))
    (λ source. not (changed source)) sources
    (λ index default within. version-source desc journal key (get_or sources index default) at old
    may (sources_of-earlier desc key may.ready.earlier index default within))
    ∙ list_all-not changed sources)
    ∙ not-not (list_any changed sources)

-- the install leaves the sources as settled as they were
installed-source : (desc : DescOf) (journal : List Entry) (key source : Key) (at : ℕ)
    (old : StaleBookOf) → MayNote desc journal key at old → source.table < key.table
    → is_part desc source ≡ true
    → is_settled desc (journal ++ entry.Install key at ∷ []) source
    ≡ not (is_unsettled_in old source)
installed-source desc journal key source at old may before part =
    is_settled-push desc (is_among (key ∷ [])) journal (entry.Install key at) source
    may.ready.earlier (ChangesVersions-Install desc journal key at may.view) may.tells.past
    (is_among-other key source before)
    ∙ ap (λ (reached : Bool). is_settled desc journal source && not reached)
    (is_reached-source desc key source may.ready.earlier before)
    ∙ and-true (is_settled desc journal source)
    ∙ sym (not-not (is_settled desc journal source))
    ∙ ap not (sym (is_unsettled_in-part desc journal old source may.tells part))

-- no source is bad exactly if each did not change after the place and is settled
installed-sources : (desc : DescOf) (journal : List Entry) (key : Key) (at : ℕ)
    (old : StaleBookOf) → MayNote desc journal key at old
    → All (λ source. (not (has_changed old.parts at source)
    && is_settled desc (journal ++ entry.Install key at ∷ []) source)
    ≡ not (is_bad old.parts old.unsettled at source)) (sources_of desc key)
installed-sources desc journal key at old may index default within =
    let source : Key = get_or (sources_of desc key) index default in
    let changed = has_changed old.parts at source in
    ap (λ (own : Bool). not changed && own)
    (installed-source desc journal key source at old may
    (sources_of-earlier desc key may.ready.earlier index default within)
    (sources_of-parts desc key index default within))
    ∙ not-or changed (is_unsettled_in old source)

-- after its install a partition is unsettled exactly if a source changed after the place, or is
-- not settled
installed-unsettled : (desc : DescOf) (journal : List Entry) (key : Key) (at : ℕ)
    (old : StaleBookOf) → MayNote desc journal key at old
    → not (is_settled desc (journal ++ entry.Install key at ∷ []) key)
    ≡ list_any (is_bad old.parts old.unsettled at) (sources_of desc key)
installed-unsettled desc journal key at old may =
    let after = journal ++ entry.Install key at ∷ [] in
    let sources = sources_of desc key in
    let fresh = λ (source : Key). not (has_changed old.parts at source) in
    let bad = is_bad old.parts old.unsettled at in
    let settled = is_settled desc after in
    ap not (is_settled-step desc after key may.ready.earlier
    ∙ ap (λ (own : Bool). own && list_all settled sources)
    (ap not (installed-stale desc journal key at old may)
    ∙ sym (list_all-not (has_changed old.parts at) sources))
    ∙ list_all-and fresh settled sources
    ∙ list_all-agree (λ source. fresh source && settled source) (λ source. not (bad source)) sources
    (installed-sources desc journal key at old may)
    ∙ list_all-not bad sources)
    ∙ not-not (list_any bad sources)

-- how the installed partition stands is told, and how all others do
installed-standing : (desc : DescOf) (key other : Key) (at : ℕ) (old new : StaleBookOf)
    (notes : NotesInstall desc key at old new) (same : Bool) → is_key other key ≡ same
    → standing_in new.unsettled other
    ≡ (if same then notes.standing else woken old.ready other (standing_in old.unsettled other))
installed-standing desc key other at old new notes same is =
    notes.unsettled other
    ∙ ap (λ (here : Bool). if here then notes.standing
    else woken old.ready other (standing_in old.unsettled other)) (is_at-is_key key other ∙ is)

-- the book tells what is stale
is_stale_in-install : (desc : DescOf) (journal : List Entry) (key other : Key) (at : ℕ)
    (old new : StaleBookOf) → MayNote desc journal key at old
    → NotesInstall desc key at old new
    → tells_stale (standing_in new.unsettled other)
    ≡ (is_among (all_view_keys desc) other
    && is_stale desc (journal ++ entry.Install key at ∷ []) other)
is_stale_in-install desc journal key other at old new may notes =
    let next = entry.Install key at in
    let changes = ChangesVersions-Install desc journal key at may.view in
    elim (cases_Bool (is_key other key)) [
      | inl same ↦
          ap tells_stale (installed-standing desc key other at old new notes true same)
          ∙ notes.worst.stale
          ∙ sym (installed-stale desc journal key at old may)
          ∙ ap (λ (view : Bool). view && is_stale desc (journal ++ next ∷ []) key)
          (sym (is_among-all_view_keys desc key may.part may.view))
          ∙ ap (λ (other : Key). is_among (all_view_keys desc) other
          && is_stale desc (journal ++ next ∷ []) other) (is_key-same other key same)
      | inr apart ↦
          ap tells_stale (installed-standing desc key other at old new notes false apart)
          ∙ woken_stale desc (key ∷ []) journal next old other may.tells changes may.ready
          (changes.places other (or-false (is_key other key) ∙ apart))
    ]

-- the book tells what is unsettled
is_unsettled_in-install : (desc : DescOf) (journal : List Entry) (key other : Key) (at : ℕ)
    (old new : StaleBookOf) → MayNote desc journal key at old
    → NotesInstall desc key at old new
    → tells_unsettled (standing_in new.unsettled other)
    ≡ is_among (unsettled desc (journal ++ entry.Install key at ∷ [])) other
is_unsettled_in-install desc journal key other at old new may notes =
    let next = entry.Install key at in
    let after = journal ++ next ∷ [] in
    elim (cases_Bool (is_key other key)) [
      | inl same ↦
          ap tells_unsettled (installed-standing desc key other at old new notes true same)
          ∙ notes.worst.unsettled
          ∙ sym (installed-unsettled desc journal key at old may)
          ∙ ap (λ (view : Bool). view && not (is_settled desc after key))
          (sym (is_among-all_view_keys desc key may.part may.view))
          ∙ sym (is_among-unsettled desc after key)
          ∙ ap (λ (other : Key). is_among (unsettled desc after) other)
          (is_key-same other key same)
      | inr apart ↦
          ap tells_unsettled (installed-standing desc key other at old new notes false apart)
          ∙ woken_unsettled desc (key ∷ []) journal next old other may.tells
          (ChangesVersions-Install desc journal key at may.view) may.ready
          (λ view. or-false (is_key other key) ∙ apart)
    ]

-- the last place of each partition after an install
last_place-push : (desc : DescOf) (journal : List Entry) (key other : Key) (at : ℕ)
    → is_raw (slice_get desc.tables key.table) ≡ false
    → last_place (journal ++ entry.Install key at ∷ []) other
    ≡ (if is_among (key ∷ []) other then at else last_place journal other)
last_place-push desc journal key other at view =
    let place = last_place journal other in
    elim (cases_Bool (is_key other key)) [
      | inl same ↦
          last_place-Install journal other key at same
          ∙ ap (λ (here : Bool). if here then at else place)
          (sym (ap (λ (here : Bool). here || false) same))
      | inr apart ↦
          last_place-same journal (entry.Install key at ∷ []) other
          ((ChangesVersions-Install desc journal key at view).places other
          (or-false (is_key other key) ∙ apart))
          ∙ ap (λ (here : Bool). if here then at else place)
          (sym (ap (λ (here : Bool). here || false) apart))
    ]

-- the book tells it
place_in-install : (desc : DescOf) (journal : List Entry) (key other : Key) (at : ℕ)
    (old new : StaleBookOf) → MayNote desc journal key at old
    → NotesInstall desc key at old new
    → place_in new other ≡ last_place (journal ++ entry.Install key at ∷ []) other
place_in-install desc journal key other at old new may notes =
    let was = history_in old.parts other in
    ap (λ (history : History). history.upto) (notes.parts.values other)
    ∙ either (is_among (key ∷ []) other) was
    ∙ ap (λ (place : ℕ). if is_among (key ∷ []) other then at else place) (may.tells.places other)
    ∙ sym (last_place-push desc journal key other at may.view)
  where
    either : (here : Bool) (was : History)
        → (if here then installed (old.entries + 1) at was else was).upto
        ≡ (if here then at else was.upto)
    either true was = refl
    either false was = refl

-- no install counts entries after the journal
last_place-install_le : (desc : DescOf) (journal : List Entry) (key other : Key) (at : ℕ)
    (old : StaleBookOf) → MayNote desc journal key at old
    → last_place (journal ++ entry.Install key at ∷ []) other
    ≤ length (journal ++ entry.Install key at ∷ [])
last_place-install_le desc journal key other at old may =
    let least : (here : Bool) → (if here then at else last_place journal other) ≤ length journal =
    λ here. cond_le here in
    omega (
      arith,
      last_place-push desc journal key other at may.view,
      least (is_among (key ∷ []) other),
      length-append journal (entry.Install key at ∷ []),
    )
  where
    cond_le : (here : Bool) → (if here then at else last_place journal other) ≤ length journal
    cond_le true = may.past
    cond_le false = may.tells.past other

-- the book noted what the install changes
NotesVersions-Install : (desc : DescOf) (journal : List Entry) (key : Key) (at : ℕ)
    (old new : StaleBookOf) → MayNote desc journal key at old
    → AreBefore (old.entries + 1) old.parts → NotesInstall desc key at old new
    → NotesVersions desc (key ∷ []) (installed (length journal + 1) at) journal
    (entry.Install key at) old new
NotesVersions-Install desc journal key at old new may before notes = record {
  tells = may.tells;
  versions = ChangesVersions-Install desc journal key at may.view;
  counts = Counts-installed (length journal + 1) at;
  before = rw may.tells.entries at before;
  parts = rw may.tells.entries at notes.parts;
}

-- the book tells of the journal with the install
pub TellsStale-Install : (desc : DescOf) (journal : List Entry) (key : Key) (at : ℕ)
    (old new : StaleBookOf) → MayNote desc journal key at old
    → AreBefore (old.entries + 1) old.parts → NotesInstall desc key at old new
    → TellsStale desc (journal ++ entry.Install key at ∷ []) new
TellsStale-Install desc journal key at old new may before notes =
    let next = entry.Install key at in
    let change = installed (length journal + 1) at in
    let versions = NotesVersions-Install desc journal key at old new may before notes in
    record {
      entries =
          omega (arith, notes.entries, may.tells.entries, length-append journal (next ∷ []));
      versions = λ other.
          version_in-push desc (key ∷ []) change journal next old new other versions;
      places = λ other. place_in-install desc journal key other at old new may notes;
      past = λ other. last_place-install_le desc journal key other at old may;
      changed = λ other place.
          changed_in-push desc (key ∷ []) change journal next old new other place versions;
      stale = λ other. is_stale_in-install desc journal key other at old new may notes;
      unsettled = λ other. is_unsettled_in-install desc journal key other at old new may notes;
    }
