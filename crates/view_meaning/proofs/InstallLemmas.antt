-- A journal with installs of some keys at its end, one by one: what they do to versions, and which
-- partitions are not stale after them.
use Rattle.std.proofs.Common.{◌≡◌, ◌∙◌, ℕ, ◌+◌, ◌<◌, ◌≤◌, List, [], ◌∷◌, ◌++◌, length, get_or, take}
use Rattle.std.proofs.Common.{refl, sym, ap, subst, inl, inr, arith}
use Rattle.std.specs.Prelude.{true, false, All, fold, slice_get}
use Rattle.std.specs.List.{AllPairs}
use Rattle.std.proofs.lemmas.Bool.{cases_Bool, or_parts, false≢true, false_from_ne_true}
use Rattle.std.proofs.lemmas.List.{append-nil, append_assoc, length-append, length_push, take_at}
use Rattle.desc_types.specs.declared.table.Key.{Key}
use Rattle.desc_types.specs.Descriptions.{DescOf}
use Rattle.view_meaning.specs.declared.journal.Entry.{Entry}
use Rattle.view_meaning.specs.declared.journal.Entry.TheVariants as entry
use Rattle.view_meaning.specs.Partitions.{sources_of}
use Rattle.view_meaning.specs.Journal.{accepted}
use Rattle.view_meaning.specs.Versions.{install_places, is_raw, version, last_place, current}
use Rattle.view_meaning.specs.Versions.{recorded}
use Rattle.view_meaning.specs.Staleness.{is_stale}
use Rattle.view_meaning.specs.Drains.{with_install}
use Rattle.view_meaning.proofs.ListLemmas.{map-agree, All-map_agree, AllPairs-head, AllPairs-tail}
use Rattle.view_meaning.specs.Partitions.{is_among, is_key}
use Rattle.view_meaning.proofs.AmongLemmas.{IsBefore, is_key-same, is_among-after}
use Rattle.view_meaning.proofs.AmongLemmas.{is_among-earlier}
use Rattle.view_meaning.proofs.VersionLemmas.{install_places-append, version-view, version-le}
use Rattle.view_meaning.proofs.VersionLemmas.{version-take-le, version-same, last_place-Install}
use Rattle.view_meaning.proofs.VersionLemmas.{recorded-same}
use Rattle.view_meaning.proofs.SettledLemmas.{is_stale-current, recorded-current}

-- a journal with installs of these keys, each of which counts all entries before it
abbrev pub with_installs : List Entry → List Key → List Entry
with_installs journal keys = fold with_install journal keys

-- installs of these keys, the first of which counts so many entries
abbrev made_from : ℕ → List Key → List Entry
made_from at [] = []
made_from at (key ∷ later) = entry.Install key at ∷ made_from (at + 1) later

-- the installs stand after the journal
with_installs-made_from : (journal : List Entry) (keys : List Key)
    → with_installs journal keys ≡ journal ++ made_from (length journal) keys
with_installs-made_from journal [] = sym (append-nil journal)
with_installs-made_from journal (key ∷ later) =
    with_installs-made_from (with_install journal key) later
    ∙ ap (λ (at : ℕ). with_install journal key ++ made_from at later)
    (length_push journal (entry.Install key (length journal)))
    ∙ append_assoc journal (entry.Install key (length journal) ∷ [])
    (made_from (length journal + 1) later)

-- installs load nothing
accepted-made_from : (at : ℕ) (keys : List Key) → accepted (made_from at keys) ≡ []
accepted-made_from at [] = refl
accepted-made_from at (key ∷ later) = accepted-made_from (at + 1) later

-- none of them is of a key that is not among theirs
install_places-made_from : (at : ℕ) (keys : List Key) (key : Key) → is_among keys key ≡ false
    → install_places (made_from at keys) key ≡ []
install_places-made_from at [] key none = refl
install_places-made_from at (first ∷ later) key none =
    let parts = or_parts (is_key key first) (is_among later key) none in
    rw parts.0 (install_places-made_from (at + 1) later key parts.1)

-- one of them is of a key that is
install_places-made_from-lt : (at : ℕ) (keys : List Key) (key : Key)
    → is_among keys key ≡ true → 0 < length (install_places (made_from at keys) key)
install_places-made_from-lt at [] key among = absurd (false≢true among)
install_places-made_from-lt at (first ∷ later) key among =
    elim (cases_Bool (is_key key first)) [
      | inl same ↦ rw same (omega arith)
      | inr other ↦ rw other
          (install_places-made_from-lt (at + 1) later key (rw other at among))
    ]

-- a version stays if its partition is not installed
version-with_installs : (desc : DescOf) (journal : List Entry) (keys : List Key) (key : Key)
    → is_among keys key ≡ false
    → version desc (with_installs journal keys) key ≡ version desc journal key
version-with_installs desc journal keys key none =
    ap (λ (all : List Entry). version desc all key) (with_installs-made_from journal keys)
    ∙ version-same desc journal (made_from (length journal) keys) key
    (accepted-made_from (length journal) keys)
    (install_places-made_from (length journal) keys key none)

-- no version falls
pub version-with_installs-le : (desc : DescOf) (journal : List Entry) (keys : List Key)
    (key : Key) → version desc journal key ≤ version desc (with_installs journal keys) key
version-with_installs-le desc journal keys key =
    rw (with_installs-made_from journal keys)
    (version-le desc journal (made_from (length journal) keys) key)

-- the version of a view's partition that is installed rises
pub version-with_installs-lt : (desc : DescOf) (journal : List Entry) (keys : List Key)
    (key : Key) → is_raw (slice_get desc.tables key.table) ≡ false → is_among keys key ≡ true
    → version desc journal key < version desc (with_installs journal keys) key
version-with_installs-lt desc journal keys key view among =
    let made = made_from (length journal) keys in
    rw (with_installs-made_from journal keys)
    (omega (
      arith,
      version-view desc journal key view,
      version-view desc (journal ++ made) key view,
      ap length (install_places-append journal made key),
      length-append (install_places journal key) (install_places made key),
      install_places-made_from-lt (length journal) keys key among,
    ))

-- what the last install recorded stays if the partition is not installed since
pub recorded-with_installs : (desc : DescOf) (journal : List Entry) (keys : List Key) (key : Key)
    → last_place journal key ≤ length journal → is_among keys key ≡ false
    → recorded desc (with_installs journal keys) key ≡ recorded desc journal key
recorded-with_installs desc journal keys key within none =
    ap (λ (all : List Entry). recorded desc all key) (with_installs-made_from journal keys)
    ∙ recorded-same desc journal (made_from (length journal) keys) key within
    (install_places-made_from (length journal) keys key none)

-- the versions of its sources stay if none of them is installed
current-with_installs : (desc : DescOf) (journal : List Entry) (keys : List Key) (key : Key)
    → All (λ source. is_among keys source ≡ false) (sources_of desc key)
    → current desc (with_installs journal keys) key ≡ current desc journal key
current-with_installs desc journal keys key none =
    map-agree (version desc (with_installs journal keys)) (version desc journal)
    (sources_of desc key)
    (λ index default within. version-with_installs desc journal keys
    (get_or (sources_of desc key) index default) (none index default within))

-- a partition does not become stale if neither it nor a source is installed
pub is_stale-with_installs : (desc : DescOf) (journal : List Entry) (keys : List Key) (key : Key)
    → last_place journal key ≤ length journal → is_among keys key ≡ false
    → All (λ source. is_among keys source ≡ false) (sources_of desc key)
    → is_stale desc journal key ≡ false → is_stale desc (with_installs journal keys) key ≡ false
is_stale-with_installs desc journal keys key within none below fresh =
    is_stale-current desc (with_installs journal keys) key
    (recorded-with_installs desc journal keys key within none
    ∙ recorded-current desc journal key fresh
    ∙ sym (current-with_installs desc journal keys key below))

-- an install records the versions that the sources have
recorded-with_install : (desc : DescOf) (journal : List Entry) (installed key : Key)
    → is_key key installed ≡ true
    → recorded desc (with_install journal installed) key ≡ current desc journal key
recorded-with_install desc journal installed key same =
    ap (λ (place : ℕ). current desc (take place (with_install journal installed)) key)
    (last_place-Install journal key installed (length journal) same)
    ∙ ap (λ (before : List Entry). current desc before key)
    (take_at journal (entry.Install installed (length journal) ∷ []) (length journal) refl)

-- a partition that was installed is not stale if neither it nor a source is installed since
pub is_stale-installed : (desc : DescOf) (journal : List Entry) (installed key : Key)
    (later : List Key) → is_key key installed ≡ true → is_among later key ≡ false
    → All (λ source. is_among (installed ∷ later) source ≡ false) (sources_of desc key)
    → is_stale desc (with_installs journal (installed ∷ later)) key ≡ false
is_stale-installed desc journal installed key later same none below =
    let place : last_place (with_install journal installed) key ≡ length journal =
    last_place-Install journal key installed (length journal) same in
    is_stale-current desc (with_installs journal (installed ∷ later)) key
    (recorded-with_installs desc (with_install journal installed) later key
    (omega (arith, length_push journal (entry.Install installed (length journal)))) none
    ∙ recorded-with_install desc journal installed key same
    ∙ sym (current-with_installs desc journal (installed ∷ later) key below))

-- a partition that is among those installed, in order, is not stale if its sources are earlier
pub is_stale-among : (desc : DescOf) (journal : List Entry) (keys : List Key) (key : Key)
    → AllPairs IsBefore keys → is_among keys key ≡ true
    → All (λ (source : Key). source.table < key.table) (sources_of desc key)
    → is_stale desc (with_installs journal keys) key ≡ false
is_stale-among desc journal [] key rises among earlier = absurd (false≢true among)
is_stale-among desc journal (first ∷ later) key rises among earlier =
    elim (cases_Bool (is_key key first)) [
      | inl same ↦
          let behind : All (IsBefore first) later = AllPairs-head IsBefore first later rises in
          let first_is : first ≡ key = is_key-same key first same in
          is_stale-installed desc journal first key later same
          (is_among-after key later
          (subst (λ (key : Key). All (IsBefore key) later) first_is behind))
          (λ index default within.
          is_among-earlier (get_or (sources_of desc key) index default) first later
          (omega (arith, earlier index default within, ap (λ (key : Key). key.table) first_is))
          behind)
      | inr other ↦ is_stale-among desc (with_install journal first) later key
          (AllPairs-tail IsBefore first later rises) (rw other at among) earlier
    ]

-- a partition that is not stale after installs of others recorded the versions that its sources
-- have there
versions-recorded : (desc : DescOf) (journal : List Entry) (keys : List Key) (key : Key)
    → last_place journal key ≤ length journal → is_among keys key ≡ false
    → is_stale desc (with_installs journal keys) key ≡ false
    → All (λ source. version desc (take (last_place journal key) journal) source
    ≡ version desc (with_installs journal keys) source) (sources_of desc key)
versions-recorded desc journal keys key within none fresh =
    All-map_agree (version desc (take (last_place journal key) journal))
    (version desc (with_installs journal keys)) (sources_of desc key)
    (sym (recorded-with_installs desc journal keys key within none)
    ∙ recorded-current desc (with_installs journal keys) key fresh)

-- it was not stale before them
pub is_stale-before : (desc : DescOf) (journal : List Entry) (keys : List Key) (key : Key)
    → last_place journal key ≤ length journal → is_among keys key ≡ false
    → is_stale desc (with_installs journal keys) key ≡ false → is_stale desc journal key ≡ false
is_stale-before desc journal keys key within none fresh =
    is_stale-current desc journal key
    (map-agree (version desc (take (last_place journal key) journal)) (version desc journal)
    (sources_of desc key)
    (λ index default inside.
    let source = get_or (sources_of desc key) index default in
    omega (
      arith,
      versions-recorded desc journal keys key within none fresh index default inside,
      version-take-le desc (last_place journal key) journal source,
      version-with_installs-le desc journal keys source,
    )))

-- and none of its sources is among them
pub is_among-sources : (desc : DescOf) (journal : List Entry) (keys : List Key) (key : Key)
    → last_place journal key ≤ length journal → is_among keys key ≡ false
    → ((other : Key) → is_among keys other ≡ true
    → is_raw (slice_get desc.tables other.table) ≡ false)
    → is_stale desc (with_installs journal keys) key ≡ false
    → All (λ source. is_among keys source ≡ false) (sources_of desc key)
is_among-sources desc journal keys key within none views fresh index default inside =
    let source = get_or (sources_of desc key) index default in
    false_from_ne_true (is_among keys source) (λ among.
    omega (
      arith,
      versions-recorded desc journal keys key within none fresh index default inside,
      version-take-le desc (last_place journal key) journal source,
      version-with_installs-lt desc journal keys source (views source among) among,
    ))
