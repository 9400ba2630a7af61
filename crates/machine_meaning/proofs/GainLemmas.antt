-- Between two installs of a partition a raw partition below it gains rows: `loads_between`.
use Rattle.std.proofs.Common.{List, [], ap, arith, drop, get_or, inl, inr, length, map, refl, subst}
use Rattle.std.proofs.Common.{sym, take, true, ℕ, ◌++◌, ◌+◌, ◌-◌, ◌<◌, ◌∙◌, ◌∷◌, ◌≡◌, ◌≤◌}
use Rattle.std.specs.List.{AllPairs, list_all, list_any}
use Rattle.std.specs.Prelude.{All, Any, Bool, false, fold, nat_lt, ◌⊎◌}
use Rattle.std.proofs.lemmas.Bool.{both_ways, cases_Bool, cases_lt, ltb-false, ltb-true}
use Rattle.std.proofs.lemmas.List.{get_or_default, length-take, take-append-drop, take-append-le}
use Rattle.std.proofs.lemmas.List.{take-take}
use Rattle.std.proofs.lemmas.List.Folds.{Any-from_list_any}
use Rattle.std.proofs.lemmas.List.Quantifiers.{all_pairs_push}
use Rattle.desc_types.specs.declared.table.Key.{Key}
use Rattle.desc_types.specs.Descriptions.{DescOf}
use Rattle.desc_types.specs.Sources.{HasEarlierSources}
use Rattle.desc_types.proofs.ListLemmas.{list_any-none}
use Rattle.view_meaning.specs.declared.journal.Entry.{Entry}
use Rattle.view_meaning.specs.LegalJournals.{IsLegal, MayFollow, MayInstall}
use Rattle.view_meaning.specs.Partitions.{is_key, sources_of}
use Rattle.view_meaning.specs.RawBelow.{raw_below}
use Rattle.view_meaning.specs.Staleness.{is_settled, is_stale}
use Rattle.view_meaning.specs.Versions.{install_places, installs, last_place, place_of, version}
use Rattle.view_meaning.proofs.AmongLemmas.{is_key-itself, is_key-same}
use Rattle.view_meaning.proofs.LegalLemmas.{IsLegal-kept, IsLegal-take, SawSettled}
use Rattle.view_meaning.proofs.LegalLemmas.{install_places-le, install_places-saw, is_raw-stale}
use Rattle.view_meaning.proofs.LegalLemmas.{last_place-le}
use Rattle.view_meaning.proofs.ListLemmas.{filter-empty, get_or-last}
use Rattle.view_meaning.proofs.VersionLemmas.{install_places-append, install_places-same}
use Rattle.view_meaning.proofs.VersionLemmas.{version-take-le}
use Rattle.machine_meaning.specs.Contents.{HasLoadsBetween}
use Rattle.machine_meaning.proofs.FreshLemmas.{HasKept, is_stale-quiet}
use Rattle.view_meaning.specs.declared.journal.Entry.TheVariants as entry

-- what follows from what is true of some element is true of some
Any-weaker : {X : Type 0} (P Q : X → Type 0) (xs : List X) → ((x : X) → P x → Q x) → Any P xs
    → Any Q xs
Any-weaker P Q xs follows any = (any.0, any.1, any.2, any.3, follows any.1 any.4)

-- a raw partition gains rows from one place of a journal to another
abbrev GainsRows : DescOf → List Entry → (first second : ℕ) → Key → Type 0
GainsRows desc journal first second raw =
    version desc (take first journal) raw < version desc (take second journal) raw

-- one below a partition does so
abbrev Gains : DescOf → List Entry → Key → (first second : ℕ) → Type 0
Gains desc journal key first second = Any (GainsRows desc journal first second) (raw_below desc key)

-- a raw partition has gained rows since the first so many entries
abbrev HasGainedSince : DescOf → List Entry → (count : ℕ) → Key → Type 0
HasGainedSince desc journal count raw =
    version desc (take count journal) raw < version desc journal raw

-- what is gained between two places stays so in a journal that goes on
Gains-append : (desc : DescOf) (journal more : List Entry) (key : Key) (first second : ℕ)
    → first ≤ length journal → second ≤ length journal → Gains desc journal key first second
    → Gains desc (journal ++ more) key first second
Gains-append desc journal more key first second early late =
    Any-weaker (GainsRows desc journal first second) (GainsRows desc (journal ++ more) first second)
    (raw_below desc key) (λ raw gains. omega (
      arith,
      gains,
      ap (λ (before : List Entry). version desc before raw)
          (take-append-le first journal more early),
      ap (λ (before : List Entry). version desc before raw)
          (take-append-le second journal more late),
    ))

-- and what is gained up to one place is gained up to a later one
Gains-later : (desc : DescOf) (journal : List Entry) (key : Key) (first second third : ℕ)
    → second ≤ third → Gains desc journal key first second → Gains desc journal key first third
Gains-later desc journal key first second third later =
    Any-weaker (GainsRows desc journal first second) (GainsRows desc journal first third)
    (raw_below desc key) (λ raw gains. omega (
      arith,
      gains,
      version-take-le desc second (take third journal) raw,
      ap (λ (before : List Entry). version desc before raw) (take-take second third journal later),
    ))

-- since the first so many entries a raw partition below one has gained rows, or each has kept its
-- version
gains_or_kept : (desc : DescOf) (journal : List Entry) (key : Key) (count : ℕ)
    → Any (HasGainedSince desc journal count) (raw_below desc key)
    ⊎ All (HasKept desc journal count) (raw_below desc key)
gains_or_kept desc journal key count = elim (cases_Bool (list_any gained (raw_below desc key))) [
  | inl found ↦ inl (Any-weaker (λ raw. gained raw ≡ true) (HasGainedSince desc journal count)
      (raw_below desc key)
      (λ raw. ltb-true (version desc (take count journal) raw) (version desc journal raw))
      (Any-from_list_any gained (raw_below desc key) found))
  | inr none ↦ inr (λ index default within.
      let raw = get_or (raw_below desc key) index default in
      let least : version desc journal raw ≤ version desc (take count journal) raw =
      ltb-false (version desc (take count journal) raw) (version desc journal raw)
      (list_any-none gained (raw_below desc key) none index default within) in
      omega (arith, version-take-le desc count journal raw, least))
]
  where
    gained : Key → Bool
    gained raw = nat_lt (version desc (take count journal) raw) (version desc journal raw)

-- the last of some places is what a fold that keeps the newest ends in
get_or-fold : (places : List ℕ) (default : ℕ) → 0 < length places
    → get_or places (length places - 1) default ≡ fold (λ _ place. place) 0 places
get_or-fold [] default some = absurd (omega (arith, some))
get_or-fold (first ∷ later) default some =
    let places : List ℕ = first ∷ later in
    let last : length places - 1 ≡ length later = omega arith in
    ap (λ (index : ℕ). get_or places index default) last
    ∙ get_or_default places (length later) default 0 (omega arith)
    ∙ get_or-last first later

-- the last install of a partition saw its sources settled, if there was one
ready-last : (desc : DescOf) (journal : List Entry) (key : Key) → IsLegal desc journal
    → 0 < length (install_places journal key)
    → list_all (is_settled desc (take (last_place journal key) journal)) (sources_of desc key)
    ≡ true
ready-last desc journal key legal some =
    let places = install_places journal key in
    (subst (SawSettled desc journal key) (get_or-fold places 0 some)
    (install_places-saw desc journal key legal (length places - 1) 0 (omega (arith, some)))).ready

-- a partition has the places of before, if it is not installed since
install_places-take : (journal : List Entry) (key : Key) (at : ℕ)
    → list_any (installs key) (drop at journal) ≡ false
    → install_places (take at journal) key ≡ install_places journal key
install_places-take journal key at alone =
    sym (install_places-same (take at journal) (drop at journal) key
    (ap (λ (found : List Entry). map place_of found)
    (filter-empty (installs key) (drop at journal) alone)))
    ∙ ap (λ (all : List Entry). install_places all key) (take-append-drop at journal)

-- a partition that may be installed was last installed with no later place
last_place-le-at : (desc : DescOf) (journal : List Entry) (key : Key) (at : ℕ)
    → IsLegal desc journal → MayInstall desc journal key at → last_place journal key ≤ at
last_place-le-at desc journal key at legal may =
    omega (
      arith,
      ap (λ (places : List ℕ). fold (λ _ place. place) 0 places)
          (install_places-take journal key at may.alone),
      last_place-le desc (take at journal) key (IsLegal-take desc at journal legal),
      length-take at journal,
    )

-- if a partition is stale, a raw partition below it has gained rows since its last install
gained-stale : (desc : DescOf) (journal : List Entry) (key : Key) → HasEarlierSources desc
    → IsLegal desc journal → is_stale desc journal key ≡ true
    → 0 < length (install_places journal key)
    → Any (HasGainedSince desc journal (last_place journal key)) (raw_below desc key)
gained-stale desc journal key earlier legal stale some =
    elim (gains_or_kept desc journal key (last_place journal key)) [
      | inl gained ↦ gained
      | inr kept ↦ absurd (both_ways (is_stale desc journal key)
          (is_stale-quiet desc journal key earlier legal (is_raw-stale desc journal key stale)
          (ready-last desc journal key legal some) kept)
          stale)
    ]

-- so one gains rows before a partition may be installed again
Gains-last : (desc : DescOf) (journal : List Entry) (key : Key) (at : ℕ) → HasEarlierSources desc
    → IsLegal desc journal → MayInstall desc journal key at
    → 0 < length (install_places journal key)
    → Gains desc journal key (last_place journal key) at
Gains-last desc journal key at earlier legal may some =
    let before = take at journal in
    let places : install_places before key ≡ install_places journal key =
    install_places-take journal key at may.alone in
    subst (λ (front : List Entry).
    Any (λ raw. version desc front raw < version desc before raw) (raw_below desc key))
    (ap (λ (places : List ℕ). take (fold (λ _ place. place) 0 places) before) places
    ∙ take-take (last_place journal key) at journal
    (last_place-le-at desc journal key at legal may))
    (gained-stale desc before key earlier (IsLegal-take desc at journal legal) may.stale
    (omega (arith, some, ap length places)))

-- a raw partition below one gains rows between any two of its places, the first before the second
abbrev HasGained : DescOf → List Entry → Key → Type 0
HasGained desc journal key =
    AllPairs (Gains desc journal key) (install_places journal key)

-- so one gains rows from each of its places to that of the next install
Gains-each : (desc : DescOf) (journal : List Entry) (key : Key) (at : ℕ) → HasEarlierSources desc
    → IsLegal desc journal → MayInstall desc journal key at → HasGained desc journal key
    → All (λ place. Gains desc journal key place at) (install_places journal key)
Gains-each desc journal key at earlier legal may pairs index default within =
    let places = install_places journal key in
    let some : 0 < length places = omega (arith, within) in
    let last : get_or places (length places - 1) default ≡ last_place journal key =
    get_or-fold places default some in
    elim (cases_lt (index + 1) (length places)) [
      | inl before ↦ Gains-later desc journal key (get_or places index default)
          (get_or places (length places - 1) default) at
          (omega (arith, last, last_place-le-at desc journal key at legal may))
          (pairs index (length places - 1) default (omega arith) (omega (arith, some)))
      | inr end ↦ subst (λ (place : ℕ). Gains desc journal key place at)
          (sym (ap (λ (index : ℕ). get_or places index default) (omega arith) ∙ last))
          (Gains-last desc journal key at earlier legal may some)
    ]

-- so is what is gained between any two places of installs
AllPairs-Gains : (desc : DescOf) (journal more : List Entry) (key : Key) → IsLegal desc journal
    → HasGained desc journal key
    → AllPairs (Gains desc (journal ++ more) key) (install_places journal key)
AllPairs-Gains desc journal more key legal pairs first second default before within =
    let places = install_places journal key in
    let past : All (λ place. place ≤ length journal) places =
    install_places-le desc journal key legal in
    Gains-append desc journal more key (get_or places first default) (get_or places second default)
    (past first default (omega (arith, before, within))) (past second default within)
    (pairs first second default before within)

-- rows are gained between places also with an install of the partition that may follow
HasGained-Install : (desc : DescOf) (journal : List Entry) (key : Key) (at : ℕ)
    → HasEarlierSources desc → IsLegal desc journal → MayInstall desc journal key at
    → HasGained desc journal key → HasGained desc (journal ++ entry.Install key at ∷ []) key
HasGained-Install desc journal key at earlier legal may pairs =
    let places = install_places journal key in
    let next = entry.Install key at in
    let one : install_places (next ∷ []) key ≡ at ∷ [] = rw (is_key-itself key) refl in
    subst (AllPairs (Gains desc (journal ++ next ∷ []) key))
    (sym (install_places-append journal (next ∷ []) key
    ∙ ap (λ (more : List ℕ). places ++ more) one))
    (all_pairs_push (Gains desc (journal ++ next ∷ []) key) places at
    (AllPairs-Gains desc journal (next ∷ []) key legal pairs)
    (λ index default within.
    Gains-append desc journal (next ∷ []) key (get_or places index default) at
    (install_places-le desc journal key legal index default within) may.past
    (Gains-each desc journal key at earlier legal may pairs index default within)))

-- and with an entry that does not install the partition
HasGained-other : (desc : DescOf) (journal : List Entry) (next : Entry) (key : Key)
    → IsLegal desc journal → installs key next ≡ false → HasGained desc journal key
    → HasGained desc (journal ++ next ∷ []) key
HasGained-other desc journal next key legal other pairs =
    subst (AllPairs (Gains desc (journal ++ next ∷ []) key))
    (sym (install_places-same journal (next ∷ []) key (rw other refl)))
    (AllPairs-Gains desc journal (next ∷ []) key legal pairs)

-- so it is with any entry that may follow
HasGained-push : (desc : DescOf) (journal : List Entry) (next : Entry) (key : Key)
    → HasEarlierSources desc → IsLegal desc journal → MayFollow desc journal next
    → HasGained desc journal key → HasGained desc (journal ++ next ∷ []) key
HasGained-push desc journal (entry.Load delivery) key earlier legal follows pairs =
    HasGained-other desc journal (entry.Load delivery) key legal refl pairs
HasGained-push desc journal (entry.Install installed at) key earlier legal follows pairs =
    elim (cases_Bool (is_key key installed)) [
      | inl same ↦ subst
          (λ (installed : Key). HasGained desc (journal ++ entry.Install installed at ∷ []) key)
          (sym (is_key-same key installed same))
          (HasGained-Install desc journal key at earlier legal
          (subst (λ (key : Key). MayInstall desc journal key at) (is_key-same key installed same)
          follows) pairs)
      | inr apart ↦ HasGained-other desc journal (entry.Install installed at) key legal apart pairs
    ]

-- between two installs of a partition a raw partition below it gains rows
pub loads_between : HasLoadsBetween
loads_between desc journal key first second earlier legal before within =
    IsLegal-kept desc (λ journal. HasGained desc journal key)
    (λ first second default before within. absurd (omega (arith, within)))
    (λ journal next legal pairs follows.
    HasGained-push desc journal next key earlier legal follows pairs)
    journal legal first second 0 before within
