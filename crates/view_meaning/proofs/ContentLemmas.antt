-- The content of a version against the value from scratch: `settled_values`. Content, value and
-- settledness go down through the tables alike, so they are compared within one depth.
use Rattle.std.proofs.Common.{◌≡◌, ◌∙◌, ℕ, zero, suc, ◌+◌, List, [], ◌∷◌, ◌++◌, length, take}
use Rattle.std.proofs.Common.{get_or, refl, sym, ap, map, inl, inr, arith}
use Rattle.std.specs.Prelude.{true, false, not, Option, Some, None, All, flat_map, slice_get}
use Rattle.std.specs.Prelude.{if◌then◌else◌}
use Rattle.std.specs.List.{list_all}
use Rattle.std.specs.Cmp.Lexicographic.{same_text}
use Rattle.std.proofs.lemmas.Bool.{cases_Bool, and_parts, both_ways, not-true, not-false}
use Rattle.std.proofs.lemmas.List.{take_all}
use Rattle.std.proofs.lemmas.List.Elements.{All-head, All-tail, All-weaker}
use Rattle.std.proofs.lemmas.List.Sums.{AllPass-from_list_all}
use Rattle.depot_cell.specs.declared.cell.Cell.{Cell}
use Rattle.desc_types.specs.declared.table.Key.{Key}
use Rattle.desc_types.specs.declared.delivery.DRow.{DRow}
use Rattle.desc_types.specs.declared.view.Src.{Src}
use Rattle.desc_types.specs.Deliveries.{DeliveryOf}
use Rattle.desc_types.specs.Descriptions.{DescOf}
use Rattle.desc_types.specs.Tables.{TableOf}
use Rattle.desc_types.specs.KindValues.{KindOf, Raw, Filter, Group, Join}
use Rattle.view_meaning.specs.declared.journal.Entry.{Entry}
use Rattle.desc_types.specs.Sources.{kind_sources}
use Rattle.view_meaning.specs.Partitions.{keys_read, sources_of, keys_below}
use Rattle.view_meaning.specs.Journal.{accepted}
use Rattle.view_meaning.specs.RawValues.{lies_in, raw_value}
use Rattle.view_meaning.specs.TableRows.{cells_where}
use Rattle.view_meaning.specs.SetAside.{kept_rows, kept_after}
use Rattle.view_meaning.specs.Operations.{operation}
use Rattle.view_meaning.specs.Versions.{touches, loads_after, raw_version, is_raw, is_raw_kind}
use Rattle.view_meaning.specs.Versions.{version, install_places, last_place, current, recorded}
use Rattle.view_meaning.specs.Values.{joined, rows_at, made_of, value_over, value_within, value}
use Rattle.view_meaning.specs.Staleness.{is_stale, is_settled_within}
use Rattle.view_meaning.specs.Contents.{rows_kept, loads_kept, raw_content, install_content}
use Rattle.view_meaning.specs.Contents.{view_content, content_over, content_within}
use Rattle.view_meaning.specs.Contents.{HasSettledValues, latest_content}
use Rattle.view_meaning.proofs.ListLemmas.{flat_map-agree, All-map_agree, flat_map-none}
use Rattle.view_meaning.proofs.ListLemmas.{All-from_flat_map, flat_map-cons_if, length-cons_if}
use Rattle.view_meaning.proofs.ListLemmas.{filter-empty}
use Rattle.view_meaning.proofs.RawLemmas.{cells_where-append, version-raw}
use Rattle.view_meaning.proofs.VersionLemmas.{last_place-none, nth_place-last, version-view}

-- there are rows of each delivery that keeps one in the partition
pub length-loads_kept : (desc : DescOf) (key : Key) (before accepted : List DeliveryOf)
    → length (loads_kept desc key before accepted) ≡ loads_after desc key before accepted
length-loads_kept desc key before [] = refl
length-loads_kept desc key before (delivery ∷ later) =
    length-cons_if (touches desc key before delivery) (rows_kept desc key before delivery)
    (loads_kept desc key (before ++ delivery ∷ []) later)
    ∙ ap (λ (count : ℕ). (if touches desc key before delivery then 1 else 0) + count)
    (length-loads_kept desc key (before ++ delivery ∷ []) later)

-- these rows are, one after the other, all kept rows of the partition
flat_map-loads_kept : (desc : DescOf) (key : Key) (before accepted : List DeliveryOf)
    → flat_map (λ rows. rows) (loads_kept desc key before accepted)
    ≡ cells_where (lies_in desc key) (kept_after desc before accepted)
flat_map-loads_kept desc key before [] = refl
flat_map-loads_kept desc key before (delivery ∷ later) =
    flat_map-cons_if (touches desc key before delivery) (rows_kept desc key before delivery)
    (loads_kept desc key (before ++ delivery ∷ []) later)
    (λ untouched. ap (λ (rows : List DRow). map (λ (row : DRow). row.cells) rows)
    (filter-empty (lies_in desc key) (kept_rows desc before delivery) untouched))
    ∙ ap (λ (rows : List (List Cell)). rows_kept desc key before delivery ++ rows)
    (flat_map-loads_kept desc key (before ++ delivery ∷ []) later)
    ∙ sym (cells_where-append (lies_in desc key) (kept_rows desc before delivery)
    (kept_after desc (before ++ delivery ∷ []) later))

-- the content of the latest version of a raw partition is its value
raw_content-raw_version : (desc : DescOf) (accepted : List DeliveryOf) (key : Key)
    → raw_content desc accepted key (raw_version desc accepted key) ≡ raw_value desc accepted key
raw_content-raw_version desc accepted key =
    ap (λ (loads : List (List (List Cell))). flat_map (λ rows. rows) loads)
    (take_all (raw_version desc accepted key) (loads_kept desc key [] accepted)
    (omega (arith, length-loads_kept desc key [] accepted)))
    ∙ flat_map-loads_kept desc key [] accepted

-- two sources with the same rows, if they are there, have the same rows
rows_at-agree : (rows other : Src → List (List Cell)) (sources : List Src) (place : ℕ)
    → All (λ src. rows src ≡ other src) sources
    → rows_at rows (slice_get sources place) ≡ rows_at other (slice_get sources place)
rows_at-agree rows other [] place agree = refl
rows_at-agree rows other (src ∷ sources) zero agree =
    All-head (λ src. rows src ≡ other src) src sources agree
rows_at-agree rows other (src ∷ sources) (suc place) agree =
    rows_at-agree rows other sources place
    (All-tail (λ src. rows src ≡ other src) src sources agree)

-- a table makes the same of sources with the same rows
made_of-agree : (kind : KindOf) (rows other : Src → List (List Cell))
    → All (λ src. rows src ≡ other src) (kind_sources kind)
    → made_of kind rows ≡ made_of kind other
made_of-agree kind rows other agree =
    ap (λ left. operation kind left (rows_at rows (slice_get (kind_sources kind) 1)))
    (rows_at-agree rows other (kind_sources kind) 0 agree)
    ∙ ap (operation kind (rows_at other (slice_get (kind_sources kind) 0)))
    (rows_at-agree rows other (kind_sources kind) 1 agree)

-- a source without rows has none
rows_at-none : (rows : Src → List (List Cell)) (found : Option Src)
    → ((src : Src) → rows src ≡ []) → rows_at rows found ≡ []
rows_at-none rows None none = refl
rows_at-none rows (Some src) none = none src

-- an operation makes no rows of no rows
operation-none : (kind : KindOf) → operation kind [] [] ≡ []
operation-none (Raw _ _) = refl
operation-none (Filter _ _ _) = refl
operation-none (Group _ _ _) = refl
operation-none (Join _ _ _) = refl

-- a table makes no rows of sources without rows
made_of-none : (kind : KindOf) (rows : Src → List (List Cell)) → ((src : Src) → rows src ≡ [])
    → made_of kind rows ≡ []
made_of-none kind rows none =
    ap (λ left. operation kind left (rows_at rows (slice_get (kind_sources kind) 1)))
    (rows_at-none rows (slice_get (kind_sources kind) 0) none)
    ∙ ap (operation kind []) (rows_at-none rows (slice_get (kind_sources kind) 1) none)
    ∙ operation-none kind

-- a table makes the same of source partitions with the same rows
pub made_of-joined : (desc : DescOf) (rows other : Key → List (List Cell)) (table : TableOf)
    (part : ℕ)
    → All (λ source. rows source ≡ other source) (keys_below desc part (Some table))
    → made_of table.kind (joined desc rows table.width part)
    ≡ made_of table.kind (joined desc other table.width part)
made_of-joined desc rows other table part agree =
    made_of-agree table.kind (joined desc rows table.width part)
    (joined desc other table.width part)
    (All-weaker (λ src. All (λ source. rows source ≡ other source)
    (keys_read desc table.width part src))
    (λ src. joined desc rows table.width part src ≡ joined desc other table.width part src)
    (λ src same. flat_map-agree rows other (keys_read desc table.width part src) same)
    (kind_sources table.kind)
    (All-from_flat_map (λ source. rows source ≡ other source) (keys_read desc table.width part)
    (kind_sources table.kind) agree))

-- version 0 of a partition of this table is empty
content_over-start : (desc : DescOf) (rows : Key → ℕ → List (List Cell)) (journal : List Entry)
    (key : Key) (found : Option TableOf) → content_over desc rows journal key 0 found ≡ []
content_over-start desc rows journal key None = refl
content_over-start desc rows journal key (Some table) = elim (cases_Bool (is_raw_kind table.kind)) [
  | inl raw ↦ rw raw refl
  | inr view ↦ rw view refl
]

-- version 0 of each partition is empty
pub content_within-start : (depth : ℕ) (desc : DescOf) (journal : List Entry) (key : Key)
    → content_within depth desc journal key 0 ≡ []
content_within-start zero desc journal key = refl
content_within-start (suc depth) desc journal key =
    content_over-start desc (content_within depth desc journal) journal key
    (slice_get desc.tables key.table)

-- before any entry each partition has version 0
version-empty : (desc : DescOf) (key : Key) → version desc [] key ≡ 0
version-empty desc key = elim (cases_Bool (is_raw (slice_get desc.tables key.table))) [
  | inl raw ↦ rw raw refl
  | inr view ↦ rw view refl
]

-- an install that counts no entry reads version 0 of each source, and makes nothing
install_content-start : (desc : DescOf) (rows : Key → ℕ → List (List Cell))
    (journal : List Entry) (key : Key) (table : TableOf) → ((source : Key) → rows source 0 ≡ [])
    → install_content desc rows journal key table 0 ≡ []
install_content-start desc rows journal key table first =
    made_of-none table.kind
    (joined desc (λ source. rows source (version desc [] source)) table.width key.part)
    (λ src. flat_map-none (λ source. rows source (version desc [] source))
    (keys_read desc table.width key.part src)
    (λ source. ap (rows source) (version-empty desc source) ∙ first source))

-- the latest version of a view's partition is what an install made that counted as many entries as
-- the last one, even if there was none
view_content-last : (desc : DescOf) (rows : Key → ℕ → List (List Cell)) (journal : List Entry)
    (key : Key) (table : TableOf) → ((source : Key) → rows source 0 ≡ [])
    → view_content desc rows journal key table (length (install_places journal key))
    ≡ install_content desc rows journal key table (last_place journal key)
view_content-last desc rows journal key table first = at_places (install_places journal key) refl
  where
    made : (at : ℕ) → List (List Cell)
    made at = install_content desc rows journal key table at

    at_places : (places : List ℕ) → install_places journal key ≡ places
        → view_content desc rows journal key table (length (install_places journal key))
        ≡ install_content desc rows journal key table (last_place journal key)
    at_places [] none =
        ap (λ (places : List ℕ). view_content desc rows journal key table (length places)) none
        ∙ sym (install_content-start desc rows journal key table first)
        ∙ ap made (sym (last_place-none journal key none))
    at_places (place ∷ later) some =
        ap (λ (places : List ℕ). view_content desc rows journal key table (length places)) some
        ∙ ap made (nth_place-last journal key place later some)

-- if a partition is not stale, its sources have the versions that its last install saw
versions-seen : (desc : DescOf) (journal : List Entry) (key : Key)
    → is_stale desc journal key ≡ false
    → All (λ source. version desc (take (last_place journal key) journal) source
    ≡ version desc journal source) (sources_of desc key)
versions-seen desc journal key fresh =
    All-map_agree (version desc (take (last_place journal key) journal)) (version desc journal)
    (sources_of desc key)
    (same_text (recorded desc journal key) (current desc journal key) (sym (not-false _ fresh)))

-- the latest version of a partition holds its value, if the versions of the sources that its
-- last install read hold theirs
content_over-version : (desc : DescOf) (rows : Key → ℕ → List (List Cell))
    (other : Key → List (List Cell)) (journal : List Entry) (key : Key) (found : Option TableOf)
    → slice_get desc.tables key.table ≡ found → ((source : Key) → rows source 0 ≡ [])
    → All (λ source. rows source (version desc (take (last_place journal key) journal) source)
    ≡ other source) (keys_below desc key.part found)
    → content_over desc rows journal key (version desc journal key) found
    ≡ value_over desc (accepted journal) other key found
content_over-version desc rows other journal key None is_found first read = refl
content_over-version desc rows other journal key (Some table) is_found first read =
    elim (cases_Bool (is_raw_kind table.kind)) [
      | inl raw ↦ rw raw
          (ap (raw_content desc (accepted journal) key)
          (version-raw desc journal key (ap is_raw is_found ∙ raw))
          ∙ raw_content-raw_version desc (accepted journal) key)
      | inr view ↦ rw view
          (ap (view_content desc rows journal key table)
          (version-view desc journal key (ap is_raw is_found ∙ view))
          ∙ view_content-last desc rows journal key table first
          ∙ made_of-joined desc
          (λ source. rows source (version desc (take (last_place journal key) journal) source))
          other table key.part read)
    ]

-- the latest version of a partition that is settled holds its value, down through any number of
-- tables
pub content_within-version : (depth : ℕ) (desc : DescOf) (journal : List Entry) (key : Key)
    → is_settled_within depth desc journal key ≡ true
    → content_within depth desc journal key (version desc journal key)
    ≡ value_within depth desc (accepted journal) key
content_within-version zero desc journal key settled = refl
content_within-version (suc depth) desc journal key settled =
    let parts = and_parts (not (is_stale desc journal key))
    (list_all (is_settled_within depth desc journal) (sources_of desc key)) settled in
    let seen = versions-seen desc journal key (not-true (is_stale desc journal key) parts.0) in
    let below = AllPass-from_list_all (is_settled_within depth desc journal) (sources_of desc key)
    parts.1 in
    content_over-version desc (content_within depth desc journal)
    (value_within depth desc (accepted journal)) journal key (slice_get desc.tables key.table) refl
    (content_within-start depth desc journal)
    (λ index default within.
    let source = get_or (sources_of desc key) index default in
    ap (content_within depth desc journal source) (seen index default within)
    ∙ content_within-version depth desc journal source (below index default within))

-- the content of a version of a raw table's partition is that of the kept rows
content_over-raw : (desc : DescOf) (rows : Key → ℕ → List (List Cell)) (journal : List Entry)
    (key : Key) (number : ℕ) (found : Option TableOf) → is_raw found ≡ true
    → content_over desc rows journal key number found
    ≡ raw_content desc (accepted journal) key number
content_over-raw desc rows journal key number None raw = absurd (both_ways false refl raw)
content_over-raw desc rows journal key number (Some table) raw = rw raw refl

-- the latest version of a raw table's partition holds all that deliveries kept in it
pub latest_content-raw : (desc : DescOf) (journal : List Entry) (key : Key)
    → is_raw (slice_get desc.tables key.table) ≡ true
    → latest_content desc journal key
    ≡ flat_map (λ rows. rows) (loads_kept desc key [] (accepted journal))
latest_content-raw desc journal key raw =
    content_over-raw desc (content_within key.table desc journal) journal key
    (version desc journal key) (slice_get desc.tables key.table) raw
    ∙ ap (raw_content desc (accepted journal) key) (version-raw desc journal key raw)
    ∙ ap (flat_map (λ rows. rows))
    (take_all (raw_version desc (accepted journal) key)
    (loads_kept desc key [] (accepted journal))
    (omega (arith, length-loads_kept desc key [] (accepted journal))))

-- if a partition is settled, its latest version holds its value
pub settled_values : HasSettledValues
settled_values desc journal key settled =
    content_within-version (suc key.table) desc journal key settled

-- a table has no rows if nothing was accepted and those below it have none
value_over-empty : (desc : DescOf) (rows : Key → List (List Cell)) (key : Key)
    (found : Option TableOf) → ((source : Key) → rows source ≡ [])
    → value_over desc [] rows key found ≡ []
value_over-empty desc rows key None none = refl
value_over-empty desc rows key (Some table) none = elim (cases_Bool (is_raw_kind table.kind)) [
  | inl raw ↦ rw raw refl
  | inr view ↦ rw view (made_of-none table.kind (joined desc rows table.width key.part)
      (λ src. flat_map-none rows (keys_read desc table.width key.part src) none))
]

-- nor has any partition
value_within-empty : (depth : ℕ) (desc : DescOf) (key : Key)
    → value_within depth desc [] key ≡ []
value_within-empty zero desc key = refl
value_within-empty (suc depth) desc key =
    value_over-empty desc (value_within depth desc []) key (slice_get desc.tables key.table)
    (λ source. value_within-empty depth desc source)

-- if nothing was accepted no partition has rows
pub value-empty : (desc : DescOf) (key : Key) → value desc [] key ≡ []
value-empty desc key = value_within-empty (suc key.table) desc key
