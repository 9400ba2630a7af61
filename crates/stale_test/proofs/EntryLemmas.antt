-- What one entry more does to a journal, by the partitions whose versions it changes: which
-- partitions it makes stale (`is_stale-push`), and which unsettled (`is_settled-push`).
use Rattle.std.proofs.Common.{◌≡◌, ◌∙◌, ℕ, zero, suc, ◌+◌, ◌<◌, ◌≤◌, List, [], ◌∷◌, ◌++◌, length}
use Rattle.std.proofs.Common.{take, get_or, refl, sym, ap, subst, inl, inr, arith}
use Rattle.std.specs.Prelude.{Bool, true, false, not, ◌&&◌, ◌||◌, ◌==◌, if◌then◌else◌, nat_eq}
use Rattle.std.specs.Prelude.{All, nat_lt, slice_get}
use Rattle.std.specs.List.{list_all, list_any}
use Rattle.std.specs.Cmp.Lexicographic.{pointwise}
use Rattle.std.proofs.lemmas.Bool.{and_left, both_ways, cases_Bool, false_from_ne_true, ne_eqb}
use Rattle.std.proofs.lemmas.Bool.{or_from}
use Rattle.std.proofs.lemmas.Bool.Decides.{nat_tests}
use Rattle.std.proofs.lemmas.List.{append-nil, length-append}
use Rattle.std.proofs.lemmas.List.Folds.{list_any_none}
use Rattle.std.proofs.Math.Bool.{and-false, and-true, or-false}
use Rattle.desc_types.specs.declared.table.Key.{Key}
use Rattle.desc_types.specs.Deliveries.{DeliveryOf}
use Rattle.desc_types.specs.Descriptions.{DescOf}
use Rattle.desc_types.specs.Sources.{HasEarlierSources}
use Rattle.view_meaning.specs.declared.journal.Entry.{Entry}
use Rattle.view_meaning.specs.declared.journal.Entry.TheVariants as entry
use Rattle.view_meaning.specs.Journal.{accepted}
use Rattle.view_meaning.specs.Partitions.{is_among, is_key, sources_of}
use Rattle.view_meaning.specs.Versions.{current, install_places, is_raw, last_place}
use Rattle.view_meaning.specs.Versions.{raw_version, touches, version}
use Rattle.view_meaning.specs.Staleness.{is_settled, is_stale}
use Rattle.view_meaning.specs.Reached.{is_reached, is_reached_within}
use Rattle.view_meaning.proofs.AmongLemmas.{is_key-same}
use Rattle.view_meaning.proofs.BoolLemmas.{not-or}
use Rattle.view_meaning.proofs.BringsLemmas.{brings-not_raw}
use Rattle.view_meaning.proofs.JournalLemmas.{accepted-append}
use Rattle.view_meaning.proofs.ListLemmas.{list_all-agree, list_all-and, list_all-not}
use Rattle.view_meaning.proofs.ListLemmas.{pointwise-map}
use Rattle.view_meaning.proofs.RawLemmas.{loads_after-append, version-raw}
use Rattle.view_meaning.proofs.ReachedLemmas.{is_reached-step}
use Rattle.view_meaning.proofs.SettledLemmas.{is_settled-step}
use Rattle.view_meaning.proofs.SourceLemmas.{sources_of-earlier}
use Rattle.view_meaning.proofs.VersionLemmas.{install_places-append, install_places-same}
use Rattle.view_meaning.proofs.VersionLemmas.{seen-same, version-take-le, version-view}
use Rattle.stale_test.proofs.BoolLemmas.{and-swap}

-- an entry after a journal makes the versions of these partitions one more and leaves all others,
-- and it installs none of the others
pub record ChangesVersions (desc : DescOf) (gained : Key → Bool) (journal : List Entry)
    (next : Entry) : Type 0 where
  pub versions : (key : Key) → version desc (journal ++ next ∷ []) key
      ≡ version desc journal key + (if gained key then 1 else 0)
  pub places : (key : Key) → gained key ≡ false → install_places (next ∷ []) key ≡ []

-- the version of one that changes is one more
pub version-gained : (desc : DescOf) (gained : Key → Bool) (journal : List Entry) (next : Entry)
    (key : Key) → ChangesVersions desc gained journal next → gained key ≡ true
    → version desc (journal ++ next ∷ []) key ≡ version desc journal key + 1
version-gained desc gained journal next key changes gains =
    changes.versions key
    ∙ ap (λ (own : Bool). version desc journal key + (if own then 1 else 0)) gains

-- that of another one stays
pub version-stays : (desc : DescOf) (gained : Key → Bool) (journal : List Entry) (next : Entry)
    (key : Key) → ChangesVersions desc gained journal next → gained key ≡ false
    → version desc (journal ++ next ∷ []) key ≡ version desc journal key
version-stays desc gained journal next key changes stays =
    changes.versions key
    ∙ ap (λ (own : Bool). version desc journal key + (if own then 1 else 0)) stays
    ∙ omega arith

-- a load touches no partition of a view
pub touches-view : (desc : DescOf) (key : Key) (before : List DeliveryOf) (delivery : DeliveryOf)
    → is_raw (slice_get desc.tables key.table) ≡ false
    → touches desc key before delivery ≡ false
touches-view desc key before delivery view =
    at (touches desc key before delivery)
    (brings-not_raw desc before (delivery ∷ []) key view)
  where
    at : (touched : Bool) → nat_lt 0 ((if touched then 1 else 0) + 0) ≡ false → touched ≡ false
    at true none = none
    at false none = refl

-- a load changes the versions of the partitions that it touches
pub ChangesVersions-Load : (desc : DescOf) (gained : Key → Bool) (journal : List Entry)
    (delivery : DeliveryOf)
    → ((key : Key) → gained key ≡ touches desc key (accepted journal) delivery)
    → ChangesVersions desc gained journal (entry.Load delivery)
ChangesVersions-Load desc gained journal delivery touched = record {
  versions = λ key. at key (is_raw (slice_get desc.tables key.table)) refl;
  places = λ key other. refl;
}
  where
    next : List Entry
    next = entry.Load delivery ∷ []

    one : Bool → ℕ
    one gained = if gained then 1 else 0

    at : (key : Key) (raw : Bool) → is_raw (slice_get desc.tables key.table) ≡ raw
        → version desc (journal ++ next) key ≡ version desc journal key + one (gained key)
    at key true raw =
        version-raw desc (journal ++ next) key raw
        ∙ ap (λ (all : List DeliveryOf). raw_version desc all key) (accepted-append journal next)
        ∙ loads_after-append desc key [] (accepted journal) (delivery ∷ [])
        ∙ omega (
          arith,
          version-raw desc journal key raw,
          ap one (touched key),
        )
    at key false view =
        version-view desc (journal ++ next) key view
        ∙ ap (λ (places : List ℕ). length places) (install_places-same journal next key refl)
        ∙ omega (
          arith,
          version-view desc journal key view,
          ap one (touched key ∙ touches-view desc key (accepted journal) delivery view),
        )

-- an install is in the list of those of its own partition
length-Install : (installed key : Key) (at : ℕ)
    → length (install_places (entry.Install installed at ∷ []) key)
    ≡ (if is_among (installed ∷ []) key then 1 else 0)
length-Install installed key at = count (is_key key installed) refl
  where
    count : (same : Bool) → is_key key installed ≡ same
        → length (install_places (entry.Install installed at ∷ []) key)
        ≡ (if is_among (installed ∷ []) key then 1 else 0)
    count true same = rw same refl
    count false same = rw same refl

-- an install changes the version of a partition of a view exactly if it installs it
version-Install-view : (desc : DescOf) (journal : List Entry) (installed key : Key) (at : ℕ)
    → is_raw (slice_get desc.tables key.table) ≡ false
    → version desc (journal ++ entry.Install installed at ∷ []) key
    ≡ version desc journal key + (if is_among (installed ∷ []) key then 1 else 0)
version-Install-view desc journal installed key at view =
    let next = entry.Install installed at ∷ [] in
    version-view desc (journal ++ next) key view
    ∙ ap (λ (places : List ℕ). length places) (install_places-append journal next key)
    ∙ omega (
      arith,
      length-append (install_places journal key) (install_places next key),
      length-Install installed key at,
      version-view desc journal key view,
    )

-- a raw partition is not the one that is installed
is_among-raw : (desc : DescOf) (installed key : Key)
    → is_raw (slice_get desc.tables installed.table) ≡ false
    → is_raw (slice_get desc.tables key.table) ≡ true → is_among (installed ∷ []) key ≡ false
is_among-raw desc installed key view raw =
    or-false (is_key key installed)
    ∙ false_from_ne_true (is_key key installed) (λ same.
    both_ways (is_raw (slice_get desc.tables key.table))
    (subst (λ (key : Key). is_raw (slice_get desc.tables key.table) ≡ false)
    (is_key-same key installed same) view) raw)

-- so an install leaves its version
version-Install-raw : (desc : DescOf) (journal : List Entry) (installed key : Key) (at : ℕ)
    → is_raw (slice_get desc.tables installed.table) ≡ false
    → is_raw (slice_get desc.tables key.table) ≡ true
    → version desc (journal ++ entry.Install installed at ∷ []) key
    ≡ version desc journal key + (if is_among (installed ∷ []) key then 1 else 0)
version-Install-raw desc journal installed key at view raw =
    let next = entry.Install installed at ∷ [] in
    version-raw desc (journal ++ next) key raw
    ∙ ap (λ (all : List DeliveryOf). raw_version desc all key)
    (accepted-append journal next ∙ append-nil (accepted journal))
    ∙ omega (
      arith,
      version-raw desc journal key raw,
      ap {B = ℕ} (λ own. if own then 1 else 0) (is_among-raw desc installed key view raw),
    )

-- an install of a partition of a view changes the version of that one
pub ChangesVersions-Install : (desc : DescOf) (journal : List Entry) (installed : Key) (at : ℕ)
    → is_raw (slice_get desc.tables installed.table) ≡ false
    → ChangesVersions desc (is_among (installed ∷ [])) journal (entry.Install installed at)
ChangesVersions-Install desc journal installed at view = record {
  versions = λ key. elim (cases_Bool (is_raw (slice_get desc.tables key.table))) [
    | inl raw ↦ version-Install-raw desc journal installed key at view raw
    | inr other ↦ version-Install-view desc journal installed key at other
  ];
  places = λ key other. rw (sym (or-false (is_key key installed)) ∙ other) refl;
}

-- a version that was no greater before is the same now exactly if it was the same and is not one
-- more
nat_eq-gained : (before version : ℕ) (gained : Bool) → before ≤ version
    → nat_eq before (version + (if gained then 1 else 0))
    ≡ (nat_eq before version && not gained)
nat_eq-gained before version true least = grind (arith, nat_tests)
nat_eq-gained before version false least = grind (arith, nat_tests)

-- one of two conditions fails exactly if the first does, or the second
not-and_not : (first second : Bool) → not (first && not second) ≡ (not first || second)
not-and_not true true = refl
not-and_not true false = refl
not-and_not false second = refl

-- a partition is stale if a source had another version after the entries that its last install
-- counted
pub is_stale-versions : (desc : DescOf) (journal seen : List Entry) (key : Key)
    → take (last_place journal key) journal ≡ seen
    → is_stale desc journal key
    ≡ not (list_all (λ source. nat_eq (version desc seen source) (version desc journal source))
    (sources_of desc key))
is_stale-versions desc journal seen key is =
    ap (λ (before : List Entry). not (pointwise nat_eq (current desc before key)
    (current desc journal key))) is
    ∙ ap not (pointwise-map (version desc seen) (version desc journal) (sources_of desc key))

-- all sources have the versions that they had after some entries exactly if they had them before
-- the last entry, and none of them changed by it
versions-push : (desc : DescOf) (gained : Key → Bool) (journal : List Entry) (next : Entry)
    (count : ℕ) (sources : List Key) → ChangesVersions desc gained journal next
    → list_all (λ source. nat_eq (version desc (take count journal) source)
    (version desc (journal ++ next ∷ []) source)) sources
    ≡ (list_all (λ source. nat_eq (version desc (take count journal) source)
    (version desc journal source)) sources && not (list_any gained sources))
versions-push desc gained journal next count sources changes =
    let was = version desc (take count journal) in
    let same = λ (source : Key). nat_eq (was source) (version desc journal source) in
    list_all-agree (λ source. nat_eq (was source) (version desc (journal ++ next ∷ []) source))
    (λ source. same source && not (gained source)) sources
    (λ index default _.
    let source : Key = get_or sources index default in
    ap (λ (now : ℕ). nat_eq (was source) now) (changes.versions source)
    ∙ nat_eq-gained (was source) (version desc journal source) (gained source)
    (version-take-le desc count journal source))
    ∙ sym (list_all-and same (λ source. not (gained source)) sources)
    ∙ ap (λ (rest : Bool). list_all same sources && rest) (list_all-not gained sources)

-- a partition that is not installed is stale if it was stale, or a source of it changed
pub is_stale-push : (desc : DescOf) (gained : Key → Bool) (journal : List Entry) (next : Entry)
    (key : Key) → ChangesVersions desc gained journal next
    → last_place journal key ≤ length journal → install_places (next ∷ []) key ≡ []
    → is_stale desc (journal ++ next ∷ []) key
    ≡ (is_stale desc journal key || list_any gained (sources_of desc key))
is_stale-push desc gained journal next key changes past none =
    let sources = sources_of desc key in
    let seen = take (last_place journal key) journal in
    is_stale-versions desc (journal ++ next ∷ []) seen key
    (seen-same journal (next ∷ []) key past none)
    ∙ ap not (versions-push desc gained journal next (last_place journal key) sources changes)
    ∙ not-and_not
    (list_all (λ source. nat_eq (version desc seen source) (version desc journal source)) sources)
    (list_any gained sources)
    ∙ ap (λ (was : Bool). was || list_any gained sources)
    (sym (is_stale-versions desc journal seen key refl))

-- three conditions in another order
and-turn : (first second third : Bool)
    → ((first && second) && third) ≡ (first && (third && second))
and-turn true second third = and-swap second third
and-turn false second third = refl

-- and in the same order
and-assoc : (first second third : Bool)
    → (first && (second && third)) ≡ ((first && second) && third)
and-assoc true second third = refl
and-assoc false second third = refl

-- if each source is settled now and did not change exactly if it was settled and is not reached,
-- then all that it takes for a partition to be settled is what it took, and no source is reached
settled-parts : (stale : Bool) (gained now was reached : Key → Bool) (sources : List Key)
    → All (λ source. (now source && not (gained source)) ≡ (was source && not (reached source)))
    sources
    → (not (stale || list_any gained sources) && list_all now sources)
    ≡ ((not stale && list_all was sources) && not (list_any reached sources))
settled-parts stale gained now was reached sources agree =
    let stays = λ (source : Key). not (gained source) in
    let rests = λ (source : Key). not (reached source) in
    ap (λ (fresh : Bool). fresh && list_all now sources)
    (sym (not-or stale (list_any gained sources))
    ∙ ap (λ (none : Bool). not stale && none) (sym (list_all-not gained sources)))
    ∙ and-turn (not stale) (list_all stays sources) (list_all now sources)
    ∙ ap (λ (rest : Bool). not stale && rest)
    (list_all-and now stays sources
    ∙ list_all-agree (λ source. now source && stays source)
    (λ source. was source && rests source) sources agree
    ∙ sym (list_all-and was rests sources)
    ∙ ap (λ (none : Bool). list_all was sources && none) (list_all-not reached sources))
    ∙ and-assoc (not stale) (list_all was sources) (not (list_any reached sources))

-- whether a partition is settled now and did not change, is whether it was settled and is not
-- reached
abbrev StaysSettled : DescOf → (gained : Key → Bool) → List Entry → Entry → Key → Type 0
StaysSettled desc gained journal next key =
    (is_settled desc (journal ++ next ∷ []) key && not (gained key))
    ≡ (is_settled desc journal key && not (is_reached desc gained key))

-- it is so of one that changed
is_settled-gained : (desc : DescOf) (gained : Key → Bool) (key : Key) (now was : Bool)
    → gained key ≡ true → (now && not (gained key)) ≡ (was && not (is_reached desc gained key))
is_settled-gained desc gained key now was gains =
    rw gains (and-false now ∙ sym (and-false was))

-- it is so of one that did not, if it is so of its sources
is_settled-stays : (desc : DescOf) (gained : Key → Bool) (journal : List Entry) (next : Entry)
    (key : Key) → HasEarlierSources desc → ChangesVersions desc gained journal next
    → last_place journal key ≤ length journal → gained key ≡ false
    → All (StaysSettled desc gained journal next) (sources_of desc key)
    → StaysSettled desc gained journal next key
is_settled-stays desc gained journal next key earlier changes past stays below =
    let sources = sources_of desc key in
    let after = journal ++ next ∷ [] in
    let reached = is_reached desc gained in
    ap (λ (own : Bool). is_settled desc after key && not own) stays
    ∙ and-true (is_settled desc after key)
    ∙ is_settled-step desc after key earlier
    ∙ ap (λ (stale : Bool). not stale && list_all (is_settled desc after) sources)
    (is_stale-push desc gained journal next key changes past (changes.places key stays))
    ∙ settled-parts (is_stale desc journal key) gained (is_settled desc after)
    (is_settled desc journal) reached sources below
    ∙ (λ i. sym (is_settled-step desc journal key earlier) i && not (list_any reached sources))
    ∙ ap (λ (own : Bool). is_settled desc journal key && not (own || list_any reached sources))
    (sym stays)
    ∙ ap (λ (any : Bool). is_settled desc journal key && not any)
    (sym (is_reached-step desc gained key earlier))

-- so it is of all, down through any depth that is enough
is_settled-within : (depth : ℕ) (desc : DescOf) (gained : Key → Bool) (journal : List Entry)
    (next : Entry) (key : Key) → HasEarlierSources desc
    → ChangesVersions desc gained journal next
    → ((key : Key) → last_place journal key ≤ length journal) → key.table < depth
    → StaysSettled desc gained journal next key
is_settled-within zero desc gained journal next key earlier changes past enough =
    absurd (omega (arith, enough))
is_settled-within (suc depth) desc gained journal next key earlier changes past enough =
    elim (cases_Bool (gained key)) [
      | inl gains ↦ is_settled-gained desc gained key (is_settled desc (journal ++ next ∷ []) key)
          (is_settled desc journal key) gains
      | inr stays ↦ is_settled-stays desc gained journal next key earlier changes (past key) stays
          (λ index default within.
          let source : Key = get_or (sources_of desc key) index default in
          let before : source.table < key.table =
          sources_of-earlier desc key earlier index default within in
          is_settled-within depth desc gained journal next source earlier changes past
          (omega (arith, before, enough)))
    ]

-- a partition that did not change is settled exactly if it was and is not reached
pub is_settled-push : (desc : DescOf) (gained : Key → Bool) (journal : List Entry)
    (next : Entry) (key : Key) → HasEarlierSources desc
    → ChangesVersions desc gained journal next
    → ((key : Key) → last_place journal key ≤ length journal) → gained key ≡ false
    → is_settled desc (journal ++ next ∷ []) key
    ≡ (is_settled desc journal key && not (is_reached desc gained key))
is_settled-push desc gained journal next key earlier changes past stays =
    sym (and-true (is_settled desc (journal ++ next ∷ []) key))
    ∙ ap (λ (own : Bool). is_settled desc (journal ++ next ∷ []) key && not own) (sym stays)
    ∙ is_settled-within (suc key.table) desc gained journal next key earlier changes past
    (omega arith)

-- a partition of a table below all that changed is not reached
is_reached_within-below : (depth : ℕ) (desc : DescOf) (gained : Key → Bool) (limit : ℕ)
    (key : Key) → HasEarlierSources desc
    → ((key : Key) → key.table < limit → gained key ≡ false) → key.table < limit
    → is_reached_within depth desc gained key ≡ false
is_reached_within-below zero desc gained limit key earlier none below = refl
is_reached_within-below (suc depth) desc gained limit key earlier none below =
    or_from (gained key) (list_any (is_reached_within depth desc gained) (sources_of desc key))
    (none key below)
    (list_any_none (is_reached_within depth desc gained) (sources_of desc key)
    (λ index default within.
    let source : Key = get_or (sources_of desc key) index default in
    let before : source.table < key.table =
    sources_of-earlier desc key earlier index default within in
    is_reached_within-below depth desc gained limit source earlier none
    (omega (arith, before, below))))

-- a key of an earlier table is not the one that was installed
pub is_among-other : (installed key : Key) → key.table < installed.table
    → is_among (installed ∷ []) key ≡ false
is_among-other installed key below =
    or_from (is_key key installed) false
    (and_left (installed.table == key.table) (installed.part == key.part)
    (ne_eqb installed.table key.table (λ same. omega arith))) refl

-- so no source of a partition that was installed is
pub is_reached-source : (desc : DescOf) (installed source : Key) → HasEarlierSources desc
    → source.table < installed.table
    → is_reached desc (is_among (installed ∷ [])) source ≡ false
is_reached-source desc installed source earlier =
    is_reached_within-below (suc source.table) desc (is_among (installed ∷ [])) installed.table
    source earlier (λ key below. is_among-other installed key below)
