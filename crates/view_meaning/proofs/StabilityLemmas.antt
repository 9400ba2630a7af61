-- A settled partition stays as it is until a raw partition below it gains rows: `stable_settled`.
use Rattle.std.proofs.Common.{◌≡◌, ◌∙◌, ℕ, zero, suc, ◌<◌, ◌≤◌, List, [], ◌∷◌, ◌++◌, length, take}
use Rattle.std.proofs.Common.{drop, get_or, map, refl, sym, ap, subst, inl, inr, arith}
use Rattle.std.specs.Prelude.{true, false, All, slice_get}
use Rattle.std.specs.List.{list_any}
use Rattle.std.proofs.lemmas.Bool.{both_ways, cases_Bool, false_from_ne_true}
use Rattle.std.proofs.lemmas.List.{append-nil, append_assoc, take-append-drop, take_at}
use Rattle.std.proofs.lemmas.List.Elements.{All-weaker}
use Rattle.desc_types.specs.declared.table.Key.{Key}
use Rattle.desc_types.specs.Descriptions.{DescOf}
use Rattle.desc_types.specs.Sources.{HasEarlierSources}
use Rattle.view_meaning.specs.declared.journal.Entry.{Entry}
use Rattle.view_meaning.specs.declared.journal.Entry.TheVariants as entry
use Rattle.view_meaning.specs.Partitions.{sources_of}
use Rattle.view_meaning.specs.Versions.{installs, place_of, install_places, is_raw, last_place}
use Rattle.view_meaning.specs.Versions.{version, current, recorded}
use Rattle.view_meaning.specs.Staleness.{is_settled, is_stale}
use Rattle.view_meaning.specs.Contents.{content}
use Rattle.view_meaning.specs.LegalJournals.{MayInstall, MayFollow, MayAllFollow, IsLegal}
use Rattle.view_meaning.specs.RawBelow.{raw_below_within}
use Rattle.view_meaning.specs.Stability.{StaysSettled, HasStableSettled}
use Rattle.view_meaning.proofs.ListLemmas.{All-map_agree, filter-empty, map-agree}
use Rattle.view_meaning.proofs.AmongLemmas.{is_key-same}
use Rattle.view_meaning.proofs.KeyLemmas.{sources_of-raw}
use Rattle.view_meaning.proofs.SourceLemmas.{sources_of-earlier}
use Rattle.view_meaning.proofs.BelowLemmas.{All-below_raw, All-below_view}
use Rattle.view_meaning.proofs.VersionLemmas.{install_places-same, recorded-same, version-le}
use Rattle.view_meaning.proofs.VersionLemmas.{version-take-le, version-view}
use Rattle.view_meaning.proofs.LegalLemmas.{IsLegal-push, IsLegal-take, last_place-le}
use Rattle.view_meaning.proofs.SettledLemmas.{is_stale-current, recorded-current}
use Rattle.view_meaning.proofs.SettledLemmas.{is_settled-no_sources, is_settled-sources}
use Rattle.view_meaning.proofs.SettledLemmas.{is_stale-settled, sources_of-settled}
use Rattle.view_meaning.proofs.ContentLemmas.{settled_values}
use Rattle.view_meaning.proofs.GrowLemmas.{content_within-take}

-- if two functions map a list alike, one whose numbers lie between theirs does so too
map-between : {X : Type 0} (low middle high : X → ℕ) (xs : List X)
    → ((x : X) → low x ≤ middle x) → ((x : X) → middle x ≤ high x) → map low xs ≡ map high xs
    → map low xs ≡ map middle xs
map-between low middle high xs above below same =
    map-agree low middle xs
    (λ index default within.
    let x = get_or xs index default in
    omega (arith, above x, below x, All-map_agree low high xs same index default within))

-- entries that install no partition of a key have no place of it
install_places-none : (journal : List Entry) (key : Key)
    → list_any (installs key) journal ≡ false → install_places journal key ≡ []
install_places-none journal key none =
    ap (λ (found : List Entry). map place_of found) (filter-empty (installs key) journal none)

-- of entries that may follow one by one the later ones may follow the first ones
MayAllFollow-drop : (desc : DescOf) (journal entries more : List Entry)
    → MayAllFollow desc journal (entries ++ more) → MayAllFollow desc (journal ++ entries) more
MayAllFollow-drop desc journal [] more may =
    subst (λ (before : List Entry). MayAllFollow desc before more) (sym (append-nil journal)) may
MayAllFollow-drop desc journal (next ∷ later) more may =
    subst (λ (before : List Entry). MayAllFollow desc before more)
    (append_assoc journal (next ∷ []) later)
    (MayAllFollow-drop desc (journal ++ next ∷ []) later more may.1)

-- of a legal journal the later entries may follow the first ones
pub IsLegal-drop : (desc : DescOf) (journal more : List Entry) → IsLegal desc (journal ++ more)
    → MayAllFollow desc journal more
IsLegal-drop desc journal more = MayAllFollow-drop desc [] journal more

-- and the first ones are a legal journal
IsLegal-front : (desc : DescOf) (journal more : List Entry) → IsLegal desc (journal ++ more)
    → IsLegal desc journal
IsLegal-front desc journal more legal =
    subst (IsLegal desc) (take_at journal more (length journal) refl)
    (IsLegal-take desc (length journal) (journal ++ more) legal)

-- if the later entries do not install a partition, its last install is among the first ones
recorded-take : (desc : DescOf) (journal : List Entry) (key : Key) (at : ℕ)
    → IsLegal desc journal → list_any (installs key) (drop at journal) ≡ false
    → recorded desc (take at journal) key ≡ recorded desc journal key
recorded-take desc journal key at legal alone =
    sym (recorded-same desc (take at journal) (drop at journal) key
    (last_place-le desc (take at journal) key (IsLegal-take desc at journal legal))
    (install_places-none (drop at journal) key alone))
    ∙ ap (λ (all : List Entry). recorded desc all key) (take-append-drop at journal)

-- and if the partition is not stale after all of them, it was not stale after the first ones
is_stale-take : (desc : DescOf) (journal : List Entry) (key : Key) (at : ℕ)
    → IsLegal desc journal → list_any (installs key) (drop at journal) ≡ false
    → is_stale desc journal key ≡ false → is_stale desc (take at journal) key ≡ false
is_stale-take desc journal key at legal alone fresh =
    let before = take at journal in
    is_stale-current desc before key
    (map-between (version desc (take (last_place before key) before)) (version desc before)
    (version desc journal) (sources_of desc key)
    (version-take-le desc (last_place before key) before) (version-take-le desc at journal)
    (recorded-take desc journal key at legal alone ∙ recorded-current desc journal key fresh))

-- an entry that may follow a legal journal installs no partition that is not stale
installs-fresh : (desc : DescOf) (journal : List Entry) (next : Entry) (key : Key)
    → IsLegal desc journal → MayFollow desc journal next → is_stale desc journal key ≡ false
    → installs key next ≡ false
installs-fresh desc journal (entry.Load delivery) key legal follows fresh = refl
installs-fresh desc journal (entry.Install installed at) key legal follows fresh =
    false_from_ne_true (installs key (entry.Install installed at)) (λ same.
    let may : MayInstall desc journal key at =
    subst (λ (key : Key). MayInstall desc journal key at) (is_key-same key installed same)
    follows in
    both_ways (is_stale desc (take at journal) key)
    (is_stale-take desc journal key at legal may.alone fresh) may.stale)

-- if the versions of its sources are the same ones after many entries, they were so after some
current-between : (desc : DescOf) (journal more later : List Entry) (key : Key)
    → current desc journal key ≡ current desc ((journal ++ more) ++ later) key
    → current desc journal key ≡ current desc (journal ++ more) key
current-between desc journal more later key =
    map-between (version desc journal) (version desc (journal ++ more))
    (version desc ((journal ++ more) ++ later)) (sources_of desc key)
    (version-le desc journal more) (version-le desc (journal ++ more) later)

-- a partition that is not stale stays so if it is not installed and the versions of its sources
-- are the same ones
is_stale-append : (desc : DescOf) (journal more : List Entry) (key : Key) → IsLegal desc journal
    → install_places more key ≡ [] → current desc journal key ≡ current desc (journal ++ more) key
    → is_stale desc journal key ≡ false → is_stale desc (journal ++ more) key ≡ false
is_stale-append desc journal more key legal none same fresh =
    is_stale-current desc (journal ++ more) key
    (recorded-same desc journal more key (last_place-le desc journal key legal) none
    ∙ recorded-current desc journal key fresh
    ∙ same)

-- a partition that is not stale is not installed as long as its sources keep their versions
install_places-fresh : (desc : DescOf) (journal more : List Entry) (key : Key)
    → IsLegal desc journal → MayAllFollow desc journal more → is_stale desc journal key ≡ false
    → current desc journal key ≡ current desc (journal ++ more) key → install_places more key ≡ []
install_places-fresh desc journal [] key legal may fresh same = refl
install_places-fresh desc journal (next ∷ later) key legal may fresh same =
    let longer = journal ++ next ∷ [] in
    let other : installs key next ≡ false =
    installs-fresh desc journal next key legal may.0 fresh in
    let all : longer ++ later ≡ journal ++ next ∷ later = append_assoc journal (next ∷ []) later in
    let whole : current desc journal key ≡ current desc (longer ++ later) key =
    same ∙ ap (λ (all : List Entry). current desc all key) (sym all) in
    let step : current desc journal key ≡ current desc longer key =
    current-between desc journal (next ∷ []) later key whole in
    let none : install_places (next ∷ []) key ≡ [] = rw other refl in
    rw other
    (install_places-fresh desc longer later key (IsLegal-push desc journal next legal may.0) may.1
    (is_stale-append desc journal (next ∷ []) key legal none step fresh) (sym step ∙ whole))

-- the content of a version that was there stays as a legal journal goes on
content-append : (desc : DescOf) (journal more : List Entry) (key : Key)
    → IsLegal desc (journal ++ more)
    → content desc (journal ++ more) key (version desc journal key)
    ≡ content desc journal key (version desc journal key)
content-append desc journal more key legal =
    let number = version desc journal key in
    let front : take (length journal) (journal ++ more) ≡ journal =
    take_at journal more (length journal) refl in
    content_within-take (suc key.table) desc (length journal) (journal ++ more) key number legal
    (omega (arith, ap (λ (before : List Entry). version desc before key) front))
    ∙ ap (λ (before : List Entry). content desc before key number) front

-- a partition that stays settled, with its version, keeps its value
StaysSettled-version : (desc : DescOf) (journal more : List Entry) (key : Key)
    → IsLegal desc (journal ++ more) → is_settled desc journal key ≡ true
    → is_settled desc (journal ++ more) key ≡ true
    → version desc (journal ++ more) key ≡ version desc journal key
    → StaysSettled desc journal (journal ++ more) key
StaysSettled-version desc journal more key legal was settled same = record {
  settled = settled;
  same_version = same;
  same_value = sym (settled_values desc (journal ++ more) key settled)
      ∙ ap (content desc (journal ++ more) key) same
      ∙ content-append desc journal more key legal
      ∙ settled_values desc journal key was;
}

-- a raw partition is settled, and stays as it is as long as it gains no rows
StaysSettled-raw : (desc : DescOf) (journal more : List Entry) (key : Key)
    → IsLegal desc (journal ++ more) → is_raw (slice_get desc.tables key.table) ≡ true
    → version desc (journal ++ more) key ≡ version desc journal key
    → StaysSettled desc journal (journal ++ more) key
StaysSettled-raw desc journal more key legal raw same =
    let none : sources_of desc key ≡ [] = sources_of-raw desc key raw in
    StaysSettled-version desc journal more key legal
    (is_settled-no_sources desc journal key none)
    (is_settled-no_sources desc (journal ++ more) key none) same

-- the sources of a partition stay as they are
abbrev HaveStayed : DescOf → (journal later : List Entry) → Key → Type 0
HaveStayed desc journal later key = All (StaysSettled desc journal later) (sources_of desc key)

-- then they keep their versions
current-stayed : (desc : DescOf) (journal later : List Entry) (key : Key)
    → HaveStayed desc journal later key → current desc journal key ≡ current desc later key
current-stayed desc journal later key stayed =
    map-agree (version desc journal) (version desc later) (sources_of desc key)
    (All-weaker (StaysSettled desc journal later)
    (λ source. version desc journal source ≡ version desc later source)
    (λ source stays. sym stays.same_version) (sources_of desc key) stayed)

-- and the partition is not installed, if it was settled
install_places-stayed : (desc : DescOf) (journal more : List Entry) (key : Key)
    → HasEarlierSources desc → IsLegal desc (journal ++ more) → is_settled desc journal key ≡ true
    → HaveStayed desc journal (journal ++ more) key → install_places more key ≡ []
install_places-stayed desc journal more key earlier legal settled stayed =
    install_places-fresh desc journal more key (IsLegal-front desc journal more legal)
    (IsLegal-drop desc journal more legal) (is_stale-settled desc journal key earlier settled)
    (current-stayed desc journal (journal ++ more) key stayed)

-- so it is still settled
is_settled-stayed : (desc : DescOf) (journal more : List Entry) (key : Key)
    → HasEarlierSources desc → IsLegal desc (journal ++ more) → is_settled desc journal key ≡ true
    → HaveStayed desc journal (journal ++ more) key → is_settled desc (journal ++ more) key ≡ true
is_settled-stayed desc journal more key earlier legal settled stayed =
    is_settled-sources desc (journal ++ more) key earlier
    (is_stale-append desc journal more key (IsLegal-front desc journal more legal)
    (install_places-stayed desc journal more key earlier legal settled stayed)
    (current-stayed desc journal (journal ++ more) key stayed)
    (is_stale-settled desc journal key earlier settled))
    (All-weaker (StaysSettled desc journal (journal ++ more))
    (λ source. is_settled desc (journal ++ more) source ≡ true)
    (λ source stays. stays.settled) (sources_of desc key) stayed)

-- and stays as it is, if it is of a view
StaysSettled-view : (desc : DescOf) (journal more : List Entry) (key : Key)
    → HasEarlierSources desc → IsLegal desc (journal ++ more)
    → is_raw (slice_get desc.tables key.table) ≡ false → is_settled desc journal key ≡ true
    → HaveStayed desc journal (journal ++ more) key
    → StaysSettled desc journal (journal ++ more) key
StaysSettled-view desc journal more key earlier legal view settled stayed =
    StaysSettled-version desc journal more key legal settled
    (is_settled-stayed desc journal more key earlier legal settled stayed)
    (version-view desc (journal ++ more) key view
    ∙ ap length (install_places-same journal more key
    (install_places-stayed desc journal more key earlier legal settled stayed))
    ∙ sym (version-view desc journal key view))

-- a partition keeps its version
abbrev HasVersionOf : DescOf → (journal later : List Entry) → Key → Type 0
HasVersionOf desc journal later key = version desc later key ≡ version desc journal key

-- a settled partition stays as it is if the raw ones below it do, down through enough tables
StaysSettled-within : (depth : ℕ) (desc : DescOf) (journal more : List Entry) (key : Key)
    → HasEarlierSources desc → IsLegal desc (journal ++ more) → key.table < depth
    → is_settled desc journal key ≡ true
    → All (HasVersionOf desc journal (journal ++ more)) (raw_below_within depth desc key)
    → StaysSettled desc journal (journal ++ more) key
StaysSettled-within zero desc journal more key earlier legal enough settled same =
    absurd (omega (arith, enough))
StaysSettled-within (suc depth) desc journal more key earlier legal enough settled same =
    let IsSame : Key → Type 0 = HasVersionOf desc journal (journal ++ more) in
    elim (cases_Bool (is_raw (slice_get desc.tables key.table))) [
      | inl raw ↦ StaysSettled-raw desc journal more key legal raw
          (All-below_raw IsSame depth desc key raw same)
      | inr view ↦ StaysSettled-view desc journal more key earlier legal view settled
          (λ index default within.
          StaysSettled-within depth desc journal more (get_or (sources_of desc key) index default)
          earlier legal
          (omega (arith, enough, sources_of-earlier desc key earlier index default within))
          (sources_of-settled desc journal key earlier settled index default within)
          (All-below_view IsSame depth desc key view same index default within))
    ]

-- a settled partition stays as it is until a raw partition below it gains rows
pub stable_settled : HasStableSettled
stable_settled desc journal more key earlier legal settled same =
    StaysSettled-within (suc key.table) desc journal more key earlier legal (omega arith) settled
    same
