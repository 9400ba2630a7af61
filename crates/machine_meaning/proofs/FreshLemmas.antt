-- A partition does not become stale before a raw partition below it gains rows, if its last install
-- saw its sources settled.
use Rattle.std.proofs.Common.{List, [], ap, arith, drop, get_or, refl, subst, suc, sym, take, true}
use Rattle.std.proofs.Common.{ℕ, ◌++◌, ◌<◌, ◌∙◌, ◌∷◌, ◌≡◌}
use Rattle.std.specs.List.{list_all}
use Rattle.std.specs.Prelude.{All, false, flat_map, if◌then◌else◌, slice_get}
use Rattle.std.proofs.lemmas.List.{take-append-drop}
use Rattle.std.proofs.lemmas.List.Elements.{All-weaker}
use Rattle.std.proofs.lemmas.List.Sums.{AllPass-from_list_all}
use Rattle.desc_types.specs.declared.table.Key.{Key}
use Rattle.desc_types.specs.Descriptions.{DescOf}
use Rattle.desc_types.specs.Sources.{HasEarlierSources}
use Rattle.view_meaning.specs.declared.journal.Entry.{Entry}
use Rattle.view_meaning.specs.LegalJournals.{IsLegal}
use Rattle.view_meaning.specs.Partitions.{sources_of}
use Rattle.view_meaning.specs.RawBelow.{raw_below, raw_below_within}
use Rattle.view_meaning.specs.Stability.{StaysSettled}
use Rattle.view_meaning.specs.Staleness.{is_settled, is_stale}
use Rattle.view_meaning.specs.Versions.{is_raw, last_place, version}
use Rattle.view_meaning.proofs.BelowLemmas.{All-below_view}
use Rattle.view_meaning.proofs.ListLemmas.{flat_map-agree, map-agree}
use Rattle.view_meaning.proofs.SettledLemmas.{is_stale-current}
use Rattle.view_meaning.proofs.SourceLemmas.{sources_of-earlier, within-enough}
use Rattle.view_meaning.proofs.StabilityLemmas.{stable_settled}

-- within any two depths that are enough the same raw partitions are below a partition
raw_below_within-enough : (desc : DescOf) → HasEarlierSources desc → (depth more : ℕ) (key : Key)
    → key.table < depth → key.table < more
    → raw_below_within depth desc key ≡ raw_below_within more desc key
raw_below_within-enough desc earlier =
    within-enough (λ depth key. raw_below_within depth desc key)
    (λ below key. if is_raw (slice_get desc.tables key.table) then key ∷ []
    else flat_map below (sources_of desc key))
    (λ depth key. refl)
    (λ below other key agree. ap (λ (rest : List Key).
    if is_raw (slice_get desc.tables key.table) then key ∷ [] else rest)
    (flat_map-agree below other (sources_of desc key)
    (All-weaker (λ (source : Key). source.table < key.table)
    (λ source. below source ≡ other source) agree (sources_of desc key)
    (sources_of-earlier desc key earlier))))

-- what is true of all raw partitions below a view's is true of all below each source
All-raw_below : (P : Key → Type 0) (desc : DescOf) (key : Key) → HasEarlierSources desc
    → is_raw (slice_get desc.tables key.table) ≡ false → All P (raw_below desc key)
    → All (λ source. All P (raw_below desc source)) (sources_of desc key)
All-raw_below P desc key earlier view all index default within =
    let source = get_or (sources_of desc key) index default in
    subst (All P)
    (raw_below_within-enough desc earlier key.table (suc source.table) source
    (sources_of-earlier desc key earlier index default within) (omega arith))
    (All-below_view P key.table desc key view all index default within)

-- a partition keeps the version that it had after the first so many entries
abbrev pub HasKept : DescOf → List Entry → (count : ℕ) → Key → Type 0
HasKept desc journal count key = version desc journal key ≡ version desc (take count journal) key

-- a partition that was settled after the first entries keeps its version as long as no raw one below
-- it gains rows
HasKept-settled : (desc : DescOf) (journal : List Entry) (count : ℕ) (key : Key)
    → HasEarlierSources desc → IsLegal desc journal
    → is_settled desc (take count journal) key ≡ true
    → All (HasKept desc journal count) (raw_below desc key) → HasKept desc journal count key
HasKept-settled desc journal count key earlier legal settled quiet =
    let before = take count journal in
    let all : before ++ drop count journal ≡ journal = take-append-drop count journal in
    let stays : StaysSettled desc before (before ++ drop count journal) key =
    stable_settled desc before (drop count journal) key earlier
    (subst (IsLegal desc) (sym all) legal) settled
    (λ index default within. ap (λ (whole : List Entry).
    version desc whole (get_or (raw_below desc key) index default)) all
    ∙ quiet index default within) in
    ap (λ (whole : List Entry). version desc whole key) (sym all) ∙ stays.same_version

-- so do sources that were settled then
sources_of-kept : (desc : DescOf) (journal : List Entry) (key : Key) (count : ℕ)
    → HasEarlierSources desc → IsLegal desc journal
    → is_raw (slice_get desc.tables key.table) ≡ false
    → list_all (is_settled desc (take count journal)) (sources_of desc key) ≡ true
    → All (HasKept desc journal count) (raw_below desc key)
    → All (HasKept desc journal count) (sources_of desc key)
sources_of-kept desc journal key count earlier legal view ready quiet index default within =
    HasKept-settled desc journal count (get_or (sources_of desc key) index default) earlier legal
    (AllPass-from_list_all (is_settled desc (take count journal)) (sources_of desc key) ready index
    default within)
    (All-raw_below (HasKept desc journal count) desc key earlier view quiet index default within)

-- so the partition is not stale, if its last install saw them settled
pub is_stale-quiet : (desc : DescOf) (journal : List Entry) (key : Key)
    → HasEarlierSources desc → IsLegal desc journal
    → is_raw (slice_get desc.tables key.table) ≡ false
    → list_all (is_settled desc (take (last_place journal key) journal)) (sources_of desc key)
    ≡ true
    → All (HasKept desc journal (last_place journal key)) (raw_below desc key)
    → is_stale desc journal key ≡ false
is_stale-quiet desc journal key earlier legal view ready quiet =
    let place = last_place journal key in
    is_stale-current desc journal key
    (map-agree (version desc (take place journal)) (version desc journal) (sources_of desc key)
    (All-weaker (HasKept desc journal place)
    (λ source. version desc (take place journal) source ≡ version desc journal source)
    (λ source kept. sym kept) (sources_of desc key)
    (sources_of-kept desc journal key place earlier legal view ready quiet)))
