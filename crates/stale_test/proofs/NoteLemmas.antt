-- A book after one entry more: `TellsStale-Load` and `TellsStale-Install`.
use Rattle.std.proofs.Common.{◌≡◌, ◌∙◌, ℕ, ◌+◌, ◌<◌, ◌≤◌, List, [], ◌∷◌, ◌++◌, length, take}
use Rattle.std.proofs.Common.{refl, sym, ap, inl, inr, arith}
use Rattle.std.specs.Prelude.{Bool, true, false, not, ◌&&◌, ◌||◌, ◌==◌, nat_le}
use Rattle.std.specs.Prelude.{if◌then◌else◌}
use Rattle.std.specs.List.{list_any}
use Rattle.std.proofs.lemmas.Bool.{cases_Bool, cases_lt, eq-eqb}
use Rattle.std.proofs.lemmas.Bool.{le-leb, lt-leb, ne_eqb, or_left, or_right}
use Rattle.std.proofs.Math.Bool.{and-false, and-true}
use Rattle.std.proofs.lemmas.List.{length-append, take-append-le, take_all}
use Rattle.std.proofs.lemmas.List.Folds.{Any-from_list_any, list_any_at}
use Rattle.desc_types.specs.declared.table.Key.{Key}
use Rattle.desc_types.specs.Deliveries.{DeliveryOf}
use Rattle.desc_types.specs.Descriptions.{DescOf}
use Rattle.desc_types.specs.Sources.{HasEarlierSources}
use Rattle.view_meaning.specs.declared.journal.Entry.{Entry}
use Rattle.view_meaning.specs.declared.journal.Entry.TheVariants as entry
use Rattle.view_meaning.specs.Drains.{all_view_keys, unsettled}
use Rattle.view_meaning.specs.Journal.{accepted}
use Rattle.view_meaning.specs.Partitions.{is_among, sources_of}
use Rattle.view_meaning.specs.Reached.{is_reached, reached}
use Rattle.view_meaning.specs.Staleness.{is_settled, is_stale}
use Rattle.view_meaning.specs.Versions.{install_places, touches, version}
use Rattle.view_meaning.proofs.ReachedLemmas.{is_reached-step}
use Rattle.view_meaning.proofs.VersionLemmas.{last_place-same, version-take-le}
use Rattle.stale_test.specs.declared.history.History.{History}
use Rattle.stale_test.specs.Books.{IsReadyFor, StaleBookOf, TellsStale, changed_in}
use Rattle.stale_test.specs.Books.{place_in, version_in}
use Rattle.stale_test.specs.Histories.{AreBefore, history_in, no_history, raised}
use Rattle.stale_test.specs.Keeping.{Wakes, woken}
use Rattle.stale_test.specs.Places.{ChangesEach}
use Rattle.stale_test.specs.Readers.{reads}
use Rattle.stale_test.specs.Standings.{standing_in, tells_stale, tells_unsettled}
use Rattle.stale_test.proofs.EntryLemmas.{ChangesVersions, ChangesVersions-Load, is_settled-push}
use Rattle.stale_test.proofs.EntryLemmas.{is_stale-push, touches-view, version-gained}
use Rattle.stale_test.proofs.EntryLemmas.{version-stays}
use Rattle.stale_test.proofs.HistoryLemmas.{Counts, Counts-raised, raised-upto}
use Rattle.stale_test.proofs.PlaceLemmas.{value_in-changed, value_in-kept}
use Rattle.stale_test.proofs.StandingLemmas.{tells_stale-woken, tells_unsettled-woken}
use Rattle.stale_test.proofs.TellsLemmas.{changed_in-le, is_among-unsettled}
use Rattle.stale_test.proofs.ViewKeyLemmas.{is_among-filter, is_raw-all_view_keys}

-- an entry follows a journal of which a book tells, and the book noted which histories it changed
pub record NotesVersions (desc : DescOf) (keys : List Key) (change : History → History)
    (journal : List Entry) (next : Entry) (old new : StaleBookOf) : Type 0 where
  pub tells : TellsStale desc journal old
  pub versions : ChangesVersions desc (is_among keys) journal next
  pub counts : Counts (length journal + 1) change
  pub before : AreBefore (length journal + 1) old.parts
  pub parts : ChangesEach change no_history keys old.parts new.parts

-- it tells of versions
pub version_in-push : (desc : DescOf) (keys : List Key) (change : History → History)
    (journal : List Entry) (next : Entry) (old new : StaleBookOf) (key : Key)
    → NotesVersions desc keys change journal next old new
    → version_in new key ≡ version desc (journal ++ next ∷ []) key
version_in-push desc keys change journal next old new key notes =
    let was = history_in old.parts key in
    elim (cases_Bool (is_among keys key)) [
      | inl gains ↦
          ap (λ (history : History). history.version)
          (value_in-changed change no_history keys key old.parts new.parts notes.parts gains)
          ∙ notes.counts.version was (notes.before key)
          ∙ ap (λ (version : ℕ). version + 1) (notes.tells.versions key)
          ∙ sym (version-gained desc (is_among keys) journal next key notes.versions gains)
      | inr stays ↦
          ap (λ (history : History). history.version)
          (value_in-kept change no_history keys key old.parts new.parts notes.parts stays)
          ∙ notes.tells.versions key
          ∙ sym (version-stays desc (is_among keys) journal next key notes.versions stays)
    ]

-- what the first entries of a longer journal are
take-push : (journal : List Entry) (next : Entry) (at : ℕ) → at ≤ length (journal ++ next ∷ [])
    → length journal < at → take at (journal ++ next ∷ []) ≡ journal ++ next ∷ []
take-push journal next at within past =
    take_all at (journal ++ next ∷ []) (omega (arith, length-append journal (next ∷ []), past))

-- a partition that the entry changes changed with it
changed_in-gained : (desc : DescOf) (keys : List Key) (change : History → History)
    (journal : List Entry) (next : Entry) (old new : StaleBookOf) (key : Key)
    → NotesVersions desc keys change journal next old new → is_among keys key ≡ true
    → changed_in new key ≡ length journal + 1
changed_in-gained desc keys change journal next old new key notes gains =
    ap (λ (history : History). history.changed)
    (value_in-changed change no_history keys key old.parts new.parts notes.parts gains)
    ∙ notes.counts.changed (history_in old.parts key) (notes.before key)

-- another one changed when it did
changed_in-kept : (desc : DescOf) (keys : List Key) (change : History → History)
    (journal : List Entry) (next : Entry) (old new : StaleBookOf) (key : Key)
    → NotesVersions desc keys change journal next old new → is_among keys key ≡ false
    → changed_in new key ≡ changed_in old key
changed_in-kept desc keys change journal next old new key notes stays =
    ap (λ (history : History). history.changed)
    (value_in-kept change no_history keys key old.parts new.parts notes.parts stays)

-- a version that is one more is not one that was there before
version-before : (desc : DescOf) (keys : List Key) (journal : List Entry) (next : Entry)
    (key : Key) (at : ℕ) → ChangesVersions desc (is_among keys) journal next
    → is_among keys key ≡ true
    → (version desc (take at journal) key == version desc (journal ++ next ∷ []) key) ≡ false
version-before desc keys journal next key at changes gains =
    ne_eqb (version desc (take at journal) key) (version desc (journal ++ next ∷ []) key)
    (λ same. omega (
      arith,
      same,
      version-gained desc (is_among keys) journal next key changes gains,
      version-take-le desc at journal key,
    ))

-- a partition changed up to a place before the entry exactly if it had its version there
changed_in-before : (desc : DescOf) (keys : List Key) (change : History → History)
    (journal : List Entry) (next : Entry) (old new : StaleBookOf) (key : Key) (at : ℕ)
    → NotesVersions desc keys change journal next old new → at ≤ length journal
    → nat_le (changed_in new key) at
    ≡ (version desc (take at journal) key == version desc (journal ++ next ∷ []) key)
changed_in-before desc keys change journal next old new key at notes within =
    elim (cases_Bool (is_among keys key)) [
      | inl gains ↦
          lt-leb (changed_in new key) at (omega (
            arith,
            changed_in-gained desc keys change journal next old new key notes gains,
          ))
          ∙ sym (version-before desc keys journal next key at notes.versions gains)
      | inr stays ↦
          ap (λ (changed : ℕ). nat_le changed at)
          (changed_in-kept desc keys change journal next old new key notes stays)
          ∙ notes.tells.changed key at within
          ∙ ap (λ (now : ℕ). version desc (take at journal) key == now)
          (sym (version-stays desc (is_among keys) journal next key notes.versions stays))
    ]

-- no partition changed after the entry
changed_in-last : (desc : DescOf) (keys : List Key) (change : History → History)
    (journal : List Entry) (next : Entry) (old new : StaleBookOf) (key : Key) (at : ℕ)
    → NotesVersions desc keys change journal next old new → length journal < at
    → nat_le (changed_in new key) at ≡ true
changed_in-last desc keys change journal next old new key at notes past =
    le-leb (changed_in new key) at
    (elim (cases_Bool (is_among keys key)) [
      | inl gains ↦
          let changed = changed_in-gained desc keys change journal next old new key notes gains in
          omega (arith, changed, past)
      | inr stays ↦
          let kept = changed_in-kept desc keys change journal next old new key notes stays in
          omega (arith, kept, changed_in-le desc journal old key notes.tells, past)
    ])

-- it tells when each partition changed
pub changed_in-push : (desc : DescOf) (keys : List Key) (change : History → History)
    (journal : List Entry) (next : Entry) (old new : StaleBookOf) (key : Key) (at : ℕ)
    → NotesVersions desc keys change journal next old new → at ≤ length (journal ++ next ∷ [])
    → nat_le (changed_in new key) at
    ≡ (version desc (take at (journal ++ next ∷ [])) key
    == version desc (journal ++ next ∷ []) key)
changed_in-push desc keys change journal next old new key at notes within =
    let after = journal ++ next ∷ [] in
    elim (cases_lt (length journal) at) [
      | inl past ↦
          changed_in-last desc keys change journal next old new key at notes past
          ∙ sym (eq-eqb (version desc (take at after) key) (version desc after key)
          (ap (λ (all : List Entry). version desc all key)
          (take-push journal next at within past)))
      | inr early ↦
          changed_in-before desc keys change journal next old new key at notes early
          ∙ ap (λ (all : List Entry). version desc all key == version desc after key)
          (sym (take-append-le at journal (next ∷ []) early))
    ]

-- a partition that reads one of some keys rests on one of them
reads-reached : (desc : DescOf) (keys : List Key) (key : Key) → HasEarlierSources desc
    → reads desc keys key ≡ true → is_reached desc (is_among keys) key ≡ true
reads-reached desc keys key earlier some =
    let gained = is_among keys in
    let sources = sources_of desc key in
    let one = Any-from_list_any gained sources some in
    is_reached-step desc gained key earlier
    ∙ or_right (gained key) (list_any (is_reached desc gained) sources)
    (list_any_at (is_reached desc gained) sources one.0 one.1 one.2
    (ap (λ (source : Key). is_reached desc gained source) one.3
    ∙ is_reached-step desc gained one.1 earlier
    ∙ or_left (gained one.1) (list_any (is_reached desc gained) (sources_of desc one.1)) one.4))

-- what was woken is stale: among all views, what reads or was stale
woken-stale : (view reads stale : Bool)
    → ((view && reads) || (view && stale)) ≡ (view && (stale || reads))
woken-stale true true true = refl
woken-stale true true false = refl
woken-stale true false true = refl
woken-stale true false false = refl
woken-stale false reads stale = refl

-- it tells what is stale, of a partition that was not installed
pub woken_stale : (desc : DescOf) (keys : List Key) (journal : List Entry) (next : Entry)
    (old : StaleBookOf) (key : Key) → TellsStale desc journal old
    → ChangesVersions desc (is_among keys) journal next → IsReadyFor desc keys old
    → install_places (next ∷ []) key ≡ []
    → tells_stale (woken old.ready key (standing_in old.unsettled key))
    ≡ (is_among (all_view_keys desc) key && is_stale desc (journal ++ next ∷ []) key)
woken_stale desc keys journal next old key tells changes ready none =
    let view = is_among (all_view_keys desc) key in
    tells_stale-woken old.ready key (standing_in old.unsettled key)
    ∙ (λ i. ready.readers key i || tells.stale key i)
    ∙ woken-stale view (reads desc keys key) (is_stale desc journal key)
    ∙ ap (λ (stale : Bool). view && stale)
    (sym (is_stale-push desc (is_among keys) journal next key changes (tells.past key) none))

-- what was woken is unsettled: among all views, what reads, rests on what changed or was unsettled
woken-unsettled : (view reads reached was now : Bool) → (view ≡ true → now ≡ (was && not reached))
    → (reads ≡ true → reached ≡ true)
    → ((view && reads) || ((view && reached) || (view && not was))) ≡ (view && not now)
woken-unsettled false reads reached was now is rests = refl
woken-unsettled true true reached was now is rests =
    rw (is refl, rests refl, and-false was) refl
woken-unsettled true false true was now is rests = rw (is refl, and-false was) refl
woken-unsettled true false false was now is rests = rw (is refl, and-true was) refl

-- it tells what is unsettled, of a partition that did not change, if it is one of a view
pub woken_unsettled : (desc : DescOf) (keys : List Key) (journal : List Entry) (next : Entry)
    (old : StaleBookOf) (key : Key) → TellsStale desc journal old
    → ChangesVersions desc (is_among keys) journal next → IsReadyFor desc keys old
    → (is_among (all_view_keys desc) key ≡ true → is_among keys key ≡ false)
    → tells_unsettled (woken old.ready key (standing_in old.unsettled key))
    ≡ is_among (unsettled desc (journal ++ next ∷ [])) key
woken_unsettled desc keys journal next old key tells changes ready stays =
    let gained = is_among keys in
    let view = is_among (all_view_keys desc) key in
    tells_unsettled-woken old.ready key (standing_in old.unsettled key)
    ∙ (λ i. ready.readers key i || ((ready.above key
    ∙ is_among-filter (is_reached desc gained) (all_view_keys desc) key) i
    || (tells.unsettled key ∙ is_among-unsettled desc journal key) i))
    ∙ woken-unsettled view (reads desc keys key) (is_reached desc gained key)
    (is_settled desc journal key) (is_settled desc (journal ++ next ∷ []) key)
    (λ is. is_settled-push desc gained journal next key ready.earlier changes tells.past (stays is))
    (reads-reached desc keys key ready.earlier)
    ∙ sym (is_among-unsettled desc (journal ++ next ∷ []) key)

-- a load was noted: it raised the histories of what it touched, and woke all above that
pub record NotesLoad (keys : List Key) (old new : StaleBookOf) : Type 0 where
  pub entries : new.entries ≡ old.entries + 1
  pub parts : ChangesEach (raised (old.entries + 1)) no_history keys old.parts new.parts
  pub unsettled : Wakes old.ready old.unsettled new.unsettled

-- it leaves the places of installs
place_in-load : (entry : ℕ) (keys : List Key) (old new : StaleBookOf) (key : Key)
    → ChangesEach (raised entry) no_history keys old.parts new.parts
    → place_in new key ≡ place_in old key
place_in-load entry keys old new key changes =
    ap (λ (history : History). history.upto) (changes.values key)
    ∙ at (is_among keys key)
  where
    at : (among : Bool) → (if among then raised entry (history_in old.parts key)
        else history_in old.parts key).upto ≡ place_in old key
    at true = raised-upto entry (history_in old.parts key)
    at false = refl

-- no partition of a view is touched
touched-view : (desc : DescOf) (journal : List Entry) (delivery : DeliveryOf) (keys : List Key)
    (key : Key)
    → ((key : Key) → is_among keys key ≡ touches desc key (accepted journal) delivery)
    → is_among (all_view_keys desc) key ≡ true → is_among keys key ≡ false
touched-view desc journal delivery keys key touched view =
    touched key
    ∙ touches-view desc key (accepted journal) delivery (is_raw-all_view_keys desc key view)

-- a load follows a journal of which a book tells, and touches these partitions
pub record MayNoteLoad (desc : DescOf) (journal : List Entry) (delivery : DeliveryOf)
    (keys : List Key) (old : StaleBookOf) : Type 0 where
  pub touched : (key : Key) → is_among keys key ≡ touches desc key (accepted journal) delivery
  pub tells : TellsStale desc journal old
  pub ready : IsReadyFor desc keys old
  pub before : AreBefore (old.entries + 1) old.parts

-- so the book noted what the load changes
NotesVersions-Load : (desc : DescOf) (journal : List Entry) (delivery : DeliveryOf)
    (keys : List Key) (old new : StaleBookOf) → MayNoteLoad desc journal delivery keys old
    → NotesLoad keys old new
    → NotesVersions desc keys (raised (length journal + 1)) journal (entry.Load delivery) old new
NotesVersions-Load desc journal delivery keys old new may notes = record {
  tells = may.tells;
  versions = ChangesVersions-Load desc (is_among keys) journal delivery may.touched;
  counts = Counts-raised (length journal + 1);
  before = rw may.tells.entries at may.before;
  parts = rw may.tells.entries at notes.parts;
}

-- the book tells of the journal with the load
pub TellsStale-Load : (desc : DescOf) (journal : List Entry) (delivery : DeliveryOf)
    (keys : List Key) (old new : StaleBookOf) → MayNoteLoad desc journal delivery keys old
    → NotesLoad keys old new → TellsStale desc (journal ++ entry.Load delivery ∷ []) new
TellsStale-Load desc journal delivery keys old new may notes =
    let next = entry.Load delivery in
    let change = raised (length journal + 1) in
    let count : length (journal ++ next ∷ []) ≡ length journal + 1 =
    length-append journal (next ∷ []) in
    let versions = NotesVersions-Load desc journal delivery keys old new may notes in
    record {
      entries = omega (arith, notes.entries, may.tells.entries, count);
      versions = λ key. version_in-push desc keys change journal next old new key versions;
      places = λ key. place_in-load (old.entries + 1) keys old new key notes.parts
          ∙ may.tells.places key
          ∙ sym (last_place-same journal (next ∷ []) key refl);
      past = λ key.
          omega (arith, count, last_place-same journal (next ∷ []) key refl, may.tells.past key);
      changed = λ key at. changed_in-push desc keys change journal next old new key at versions;
      stale = λ key. ap tells_stale (notes.unsettled.values key)
          ∙ woken_stale desc keys journal next old key may.tells versions.versions may.ready refl;
      unsettled = λ key. ap tells_unsettled (notes.unsettled.values key)
          ∙ woken_unsettled desc keys journal next old key may.tells versions.versions may.ready
          (touched-view desc journal delivery keys key may.touched);
    }
