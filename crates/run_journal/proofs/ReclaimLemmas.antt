-- What is kept after a dead version is dropped with its rows (`IsKept-reclaim`), and how many rows
-- are kept once no version is dead (`length-contents`).
use Rattle.std.proofs.Common.{◌≡◌, ◌∙◌, ◌+◌, ◌-◌, ◌<◌, ◌≤◌, ◌∷◌, ℕ, zero, suc, List, [], Some, ap}
use Rattle.std.proofs.Common.{arith, length, get_or, refl, subst, sym, take, true}
use Rattle.std.specs.BTreeMap.{is_at}
use Rattle.std.specs.List.{AllPairs}
use Rattle.std.specs.List.Sorted.{IsStrictlySortedBy}
use Rattle.std.specs.Map.{keys_of}
use Rattle.std.specs.Ordering.{nat_cmp}
use Rattle.std.specs.Prelude.{Bool, IfSome, IsSome, None, Option, false, if◌then◌else◌, is_some}
use Rattle.std.specs.Prelude.{nat_eq, slice_get, ◌==◌}
use Rattle.std.proofs.lemmas.Bool.{and_from, both_ways, eq-eqb, false_from_ne_true, false≢true}
use Rattle.std.proofs.lemmas.Bool.Decides.{nat_tests}
use Rattle.std.proofs.lemmas.List.Kept.{AllPairs-cons}
use Rattle.std.proofs.lemmas.Map.Entries.{length-keys_of}
use Rattle.std.proofs.lemmas.Map.Keys.{sorted_tail}
use Rattle.std.proofs.lemmas.Map.Made.{is_some-lookup}
use Rattle.std.proofs.lemmas.Map.Views.{All-after_first}
use Rattle.std.proofs.lemmas.Option.{same_Some, slice_get-get_or}
use Rattle.depot_cell.specs.declared.cell.Cell.{Cell}
use Rattle.partition_map.specs.Partitions.{has}
use Rattle.partition_map.proofs.BoolLemmas.{same-answer}
use Rattle.desc_types.specs.declared.table.Key.{Key}
use Rattle.desc_types.specs.Descriptions.{DescOf}
use Rattle.view_meaning.specs.declared.journal.Entry.{Entry}
use Rattle.view_meaning.specs.declared.journal.Entry.TheVariants as entry
use Rattle.view_meaning.specs.Partitions.{is_key}
use Rattle.view_meaning.specs.Versions.{install_places, installs, is_raw, version}
use Rattle.view_meaning.proofs.AmongLemmas.{is_key-itself, is_key-same}
use Rattle.view_meaning.proofs.LegalLemmas.{install_places-saw}
use Rattle.view_meaning.proofs.ListLemmas.{list_any-agree}
use Rattle.view_meaning.proofs.VersionLemmas.{version-view}
use Rattle.stale_test.proofs.NumberLemmas.{rising-same}
use Rattle.query_pin.specs.declared.dead.Dead.{Dead}
use Rattle.query_pin.specs.declared.input.Input.{Input}
use Rattle.query_pin.specs.Held.{version_of}
use Rattle.query_pin.specs.Inputs.{is_version}
use Rattle.query_pin.specs.Kept.{entry_in}
use Rattle.query_pin.specs.Pins.{PinOf, is_pinned}
use Rattle.query_pin.proofs.OrderLemmas.{is_version-same}
use Rattle.machine_meaning.specs.Events.{HoldsBut, IsDead, Reclaims}
use Rattle.machine_meaning.specs.States.{IsGood, IsMadeBy, State, latest}
use Rattle.machine_meaning.specs.VersionCounts.{versions_made, versions_replaced}
use Rattle.claim_core.specs.Cores.{IsNextDead, Steps}
use Rattle.run_journal.specs.KeptJournals.{HasVersionOf, IsKept, JournalOf, KeepsContents}
use Rattle.run_journal.specs.KeptJournals.{content_in, content_read, entries_of, is_entry}
use Rattle.run_journal.specs.KeptJournals.{reclaimed_of}
use Rattle.run_journal.proofs.ContentsLemmas.{Contents, is_entry-itself, is_entry-same, known-held}
use Rattle.run_journal.proofs.ContentsLemmas.{made-held}
use Rattle.run_journal.proofs.DrainingLemmas.{from-least, least_key}
use Rattle.run_journal.proofs.LastInstallLemmas.{AllPairs-last_installs, IsLastOf, IsLastOf-made}
use Rattle.run_journal.proofs.LastInstallLemmas.{IsLastOf-one, IsLastOf-test, has-last_installs}
use Rattle.run_journal.proofs.LastInstallLemmas.{has-last_installs_below, install_places-some}
use Rattle.run_journal.proofs.LastInstallLemmas.{is_last_install, is_last_install-of, last_installs}
use Rattle.run_journal.proofs.LastInstallLemmas.{length-last_installs}

-- an entry installs one partition
is_key-installed : (last : Entry) (key other : Key) → installs key last ≡ true
    → installs other last ≡ true → is_key key other ≡ true
is_key-installed (entry.Load _) key other here there = absurd (false≢true here)
is_key-installed (entry.Install installed _) key other here there =
    subst (λ (key : Key). is_key key other ≡ true) (is_key-same key installed here)
    (subst (λ (other : Key). is_key installed other ≡ true) (is_key-same other installed there)
    (is_key-itself installed))

-- so it made one version
is_version-made : (journal : List Entry) (read other : Input) (place : ℕ)
    → IsMadeBy journal read place → IsMadeBy journal other place → is_version read other ≡ true
is_version-made journal read other place made also =
    let default = entry.Install read.key 0 in
    let found : slice_get journal (place - 1) ≡ Some (get_or journal (place - 1) default) =
    slice_get-get_or journal (place - 1) default (omega (arith, made.some, made.past)) in
    let same : is_key read.key other.key ≡ true =
    is_key-installed (get_or journal (place - 1) default) read.key other.key
    (subst (λ (found : Option Entry). IfSome found (λ last. installs read.key last ≡ true)) found
    made.there)
    (subst (λ (found : Option Entry). IfSome found (λ last. installs other.key last ≡ true)) found
    also.there) in
    and_from (is_key read.key other.key) (other.version == read.version) same
    (eq-eqb other.version read.version
    (sym also.number
    ∙ ap (λ (key : Key). length (install_places (take place journal) key))
    (is_key-same read.key other.key same)
    ∙ made.number))

-- a version is held no more, and its rows are kept no more
module _ (desc : DescOf) (old new : State) (dead : Input) (place : ℕ) (contents fewer : Contents)
    (good : IsGood desc old) (there : entry_in old.held dead ≡ Some place)
    (journal : new.journal ≡ old.journal) (but : HoldsBut old.held new.held dead)
    (kept : (other : ℕ) → content_in fewer other
    ≡ (if is_entry place other then None else content_in contents other)) where
  -- each other version that is held has another entry
  entries-apart : (read : Input) (other : ℕ) → is_version dead read ≡ false
      → entry_in old.held read ≡ Some other → is_entry place other ≡ false
  entries-apart read other apart held =
      false_from_ne_true (is_entry place other) (λ same.
      let one : other ≡ place = sym (is_entry-same place other same) in
      both_ways (is_version dead read) apart
      (is_version-made old.journal dead read place (made-held desc old dead place good there).made
      (made-held desc old read place good (held ∙ ap Some one)).made))

  -- its rows are kept
  kept-other : (read : Input) (found : Option ℕ) → is_version dead read ≡ false
      → entry_in old.held read ≡ found
      → IfSome found
      (λ other. content_in contents other ≡ Some (content_read desc old.journal read))
      → IfSome found
      (λ other. content_in fewer other ≡ Some (content_read desc new.journal read))
  kept-other read None apart is keeps = tt
  kept-other read (Some other) apart is keeps =
      kept other
      ∙ ap (λ (same : Bool). if same then None else content_in contents other)
      (entries-apart read other apart is)
      ∙ keeps
      ∙ ap (λ (journal : List Entry). Some (content_read desc journal read)) (sym journal)

  -- each version that is held is kept
  held-fewer : KeepsContents desc old contents → (read : Input) (same : Bool)
      → is_version dead read ≡ same
      → IfSome (if same then None else entry_in old.held read)
      (λ other. content_in fewer other ≡ Some (content_read desc new.journal read))
  held-fewer keeps read true same = tt
  held-fewer keeps read false apart =
      kept-other read (entry_in old.held read) apart refl (keeps.held read)

  -- a version with another entry is another one
  versions-apart : (read : Input) (other : ℕ) → is_entry place other ≡ false
      → entry_in old.held read ≡ Some other → is_version dead read ≡ false
  versions-apart read other apart held =
      false_from_ne_true (is_version dead read) (λ same.
      let one : Some other ≡ Some place =
      sym held ∙ ap (entry_in old.held) (is_version-same dead read same) ∙ there in
      both_ways (is_entry place other) apart
      (subst (λ (other : ℕ). is_entry place other ≡ true) (sym (same_Some other place one))
      (is_entry-itself place)))

  -- and nothing else is
  others-fewer : KeepsContents desc old contents → (other : ℕ) (same : Bool)
      → is_entry place other ≡ same
      → IsSome (if same then None else content_in contents other) → HasVersionOf new.held other
  others-fewer keeps other true same kept = absurd (false≢true kept)
  others-fewer keeps other false apart kept =
      let version = keeps.others other kept in
      record {
        read = version.read;
        made = but.entries version.read
            ∙ ap (λ (same : Bool). if same then None else entry_in old.held version.read)
            (versions-apart version.read other apart version.made)
            ∙ version.made;
      }

  KeepsContents-reclaim : KeepsContents desc old contents → KeepsContents desc new fewer
  KeepsContents-reclaim keeps = record {
    held = λ read. rw (but.entries read) (held-fewer keeps read (is_version dead read) refl);
    others = λ other there. others-fewer keeps other (is_entry place other) refl
        (subst (λ (found : Option (List (List Cell))). IsSome found) (kept other) there);
  }

-- the rows of a version that is held are kept
IsSome-content : (desc : DescOf) (state : State) (contents : Contents) (read : Input)
    (place : ℕ) → KeepsContents desc state contents → entry_in state.held read ≡ Some place
    → IsSome (content_in contents place)
IsSome-content desc state contents read place keeps held =
    subst (λ (found : Option (List (List Cell))). IsSome found)
    (sym (subst (λ (found : Option ℕ). IfSome found
    (λ place. content_in contents place ≡ Some (content_read desc state.journal read))) held
    (keeps.held read)))
    refl

-- a dead version was dropped with its rows
module _ (desc : DescOf) (old new : JournalOf) (dead : Dead)
    (there : entry_in old.core.state.held (version_of dead) ≡ Some dead.entry)
    (steps : Steps old.core (Reclaims (version_of dead)) new.core)
    (contents : (other : ℕ) → content_in new.contents other
    ≡ (if is_entry dead.entry other then None else content_in old.contents other))
    (fewer : IsSome (content_in old.contents dead.entry)
    → suc (length new.contents) ≡ length old.contents) where
  -- nothing was accepted or installed
  entries_of-reclaim : entries_of new ≡ entries_of old
  entries_of-reclaim = ap (λ (state : State). state.journal) steps.step.2

  -- what is kept stays true
  pub IsKept-reclaim : IsKept desc old → IsKept desc new
  IsKept-reclaim kept =
      let served : new.core.desc ≡ desc = steps.desc ∙ kept.served in
      record {
        served = served;
        earlier = kept.earlier;
        good = subst (λ (desc : DescOf). IsGood desc new.core.state) served steps.good;
        claims = ap (λ (state : State). state.claims) steps.step.2 ∙ kept.claims;
        pins = ap (λ (state : State). state.pins) steps.step.2 ∙ kept.pins;
        contents = KeepsContents-reclaim desc old.core.state new.core.state (version_of dead)
            dead.entry old.contents new.contents kept.good there entries_of-reclaim
            steps.step.1 contents kept.contents;
        made = omega (
          arith,
          kept.made,
          ap versions_made entries_of-reclaim,
          fewer (IsSome-content desc old.core.state old.contents (version_of dead) dead.entry
              kept.contents there),
        );
      }

-- a place that is there is some place
place-found : (found : Option ℕ) → IsSome found → (place : ℕ) × (found ≡ Some place)
place-found None there = absurd (false≢true there)
place-found (Some place) there = (place, refl)

-- numbers in order rise
AllPairs-sorted : (numbers : List ℕ) → IsStrictlySortedBy nat_cmp numbers
    → AllPairs (λ (number next : ℕ). number < next) numbers
AllPairs-sorted [] sorted = λ first second default before within. absurd (omega arith)
AllPairs-sorted (first ∷ later) sorted =
    AllPairs-cons (λ (number next : ℕ). number < next) first later
    (λ index default within.
    grind (arith, nat_tests, All-after_first nat_cmp first later sorted index default within))
    (AllPairs-sorted later (sorted_tail nat_cmp first later sorted))

-- the entries of kept rows are those at which some are found
has-keys : (contents : Contents) (place : ℕ)
    → has (keys_of contents) place ≡ is_some (content_in contents place)
has-keys contents place =
    list_any-agree (nat_eq place) (is_at (nat_cmp place)) (keys_of contents)
    (λ index default within. grind (arith, nat_tests))
    ∙ sym (is_some-lookup (is_at (nat_cmp place)) contents)

-- a journal of which no version is dead
module _ (desc : DescOf) (journal : JournalOf) (kept : IsKept desc journal)
    (ordered : IsStrictlySortedBy nat_cmp (keys_of journal.contents))
    (none : (read : Input) → IsDead desc journal.core.state read → ⊥) where
  -- all that is held is the latest of its partition
  latest-kept : (read : Input) (place : ℕ) → entry_in journal.core.state.held read ≡ Some place
      → length (install_places (entries_of journal) read.key) ≡ read.version
  latest-kept read place held =
      let may = made-held desc journal.core.state read place kept.good held in
      let at_most : read.version ≤ version desc (entries_of journal) read.key =
      known-held desc (entries_of journal) read place may in
      let not_less : read.version < version desc (entries_of journal) read.key → ⊥ = λ less.
      none read record {
        held = subst (λ (found : Option ℕ). IsSome found) (sym held) refl;
        replaced = less;
        unread = ap (λ (pins : List (ℕ × PinOf)). is_pinned pins read) kept.pins;
      } in
      omega (arith, at_most, not_less, version-view desc (entries_of journal) read.key may.view)

  -- so rows are kept of last installs
  is_last_install-kept : (place : ℕ) → IsSome (content_in journal.contents place)
      → (1 ≤ place) × (is_last_install (entries_of journal) (place - 1) ≡ true)
  is_last_install-kept place there =
      let version = kept.contents.others place there in
      let may = made-held desc journal.core.state version.read place kept.good version.made in (
        may.made.some,
        is_last_install-of (entries_of journal) version.read.key (place - 1)
            (IsLastOf-made (entries_of journal) version.read place may.made
            (latest-kept version.read place version.made)),
      )

  -- the partition of a last install is of a view
  view-last : (key : Key) (index : ℕ) → IsLastOf (entries_of journal) key index
      → is_raw (slice_get desc.tables key.table) ≡ false
  view-last key index last =
      (install_places-saw desc (entries_of journal) key kept.good.legal 0 0
      (omega (arith, install_places-some (entries_of journal) key index last))).view

  -- its latest version is held
  held-last : (key : Key) (index : ℕ) → IsLastOf (entries_of journal) key index
      → IsSome (entry_in journal.core.state.held (latest desc (entries_of journal) key))
  held-last key index last =
      let view = view-last key index last in
      (kept.good.held.current key).there view
      (omega (
        arith,
        version-view desc (entries_of journal) key view,
        install_places-some (entries_of journal) key index last,
      ))

  -- with its rows, under the entry of that install
  kept-latest : (key : Key) (index place : ℕ) → IsLastOf (entries_of journal) key index
      → entry_in journal.core.state.held (latest desc (entries_of journal) key) ≡ Some place
      → IsSome (content_in journal.contents (suc index))
  kept-latest key index place last held =
      let read = latest desc (entries_of journal) key in
      let made = (made-held desc journal.core.state read place kept.good held).made in
      let same : index ≡ place - 1 =
      IsLastOf-one (entries_of journal) key index (place - 1) last
      (IsLastOf-made (entries_of journal) read place made (latest-kept read place held)) in
      subst (λ (place : ℕ). IsSome (content_in journal.contents place))
      (omega (arith, same, made.some))
      (IsSome-content desc journal.core.state journal.contents read place kept.contents held)

  -- so the rows of each last install are kept
  kept-last : (key : Key) (index : ℕ) → IsLastOf (entries_of journal) key index
      → IsSome (content_in journal.contents (suc index))
  kept-last key index last =
      let found = place-found
      (entry_in journal.core.state.held (latest desc (entries_of journal) key))
      (held-last key index last) in
      kept-latest key index found.0 last found.1

  -- rows are kept of just the last installs
  has-kept : (place : ℕ) → has (keys_of journal.contents) place
      ≡ has (last_installs 1 (entries_of journal)) place
  has-kept zero =
      has-keys journal.contents 0
      ∙ false_from_ne_true (is_some (content_in journal.contents 0)) (λ there.
      omega (arith, (is_last_install-kept 0 there).0))
      ∙ sym (has-last_installs_below 1 0 (entries_of journal) (omega arith))
  has-kept (suc index) =
      has-keys journal.contents (suc index)
      ∙ same-answer (is_some (content_in journal.contents (suc index)))
      (is_last_install (entries_of journal) index)
      (λ there. ap (is_last_install (entries_of journal)) (omega arith)
      ∙ (is_last_install-kept (suc index) there).1)
      (λ last. let of = IsLastOf-test (entries_of journal) index last in
      kept-last of.0 index of.1)
      ∙ sym (has-last_installs 1 (suc index) index (entries_of journal) (omega arith))

  -- so with the versions that were replaced they are all that came about
  pub length-contents : length journal.contents + versions_replaced (entries_of journal)
      ≡ versions_made (entries_of journal)
  length-contents =
      let same : keys_of journal.contents ≡ last_installs 1 (entries_of journal) =
      rising-same (keys_of journal.contents) (last_installs 1 (entries_of journal))
      (AllPairs-sorted (keys_of journal.contents) ordered)
      (AllPairs-last_installs 1 (entries_of journal)) has-kept in
      omega (
        arith,
        length-keys_of journal.contents,
        ap length same,
        length-last_installs 1 (entries_of journal),
      )

-- if there is no dead version from the first key on, all that were replaced are not kept any more
pub reclaimed_of-done : (desc : DescOf) (journal : JournalOf) → IsKept desc journal
    → IsStrictlySortedBy nat_cmp (keys_of journal.contents)
    → IsNextDead journal.core.desc journal.core.state least_key None
    → reclaimed_of journal ≡ versions_replaced (entries_of journal)
reclaimed_of-done desc journal kept ordered none =
    omega (
      arith,
      length-contents desc journal kept ordered (λ read dead.
          none read (from-least read.key)
          (subst (λ (desc : DescOf). IsDead desc journal.core.state read) (sym kept.served) dead)),
    )

-- what was dropped now and before are those that are not kept
pub reclaimed_of-before : (old new : JournalOf) (before now : ℕ) → before ≡ length old.contents
    → now ≡ length new.contents → length new.contents ≤ before
    → length old.contents ≤ versions_made (entries_of old) → entries_of new ≡ entries_of old
    → (before - now) + reclaimed_of old ≡ reclaimed_of new
reclaimed_of-before old new before now is_before is_now fewer made entries =
    omega (arith, is_before, is_now, fewer, made, ap versions_made entries)
