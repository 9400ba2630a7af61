-- What the rows of a version are, by the versions that it was made of.
use Rattle.std.specs.Prelude.{ℕ, zero, suc, ◌≡◌, List, [], ◌∷◌, ◌++◌, Option, Some, None, true, map}
use Rattle.std.specs.Prelude.{filter, flat_map, take, slice_get, if◌then◌else◌}
use Rattle.std.specs.List.{list_all}
use Rattle.depot_cell.specs.declared.cell.Cell.{Cell}
use Rattle.desc_types.specs.declared.table.Key.{Key}
use Rattle.desc_types.specs.declared.delivery.DRow.{DRow}
use Rattle.desc_types.specs.Deliveries.{DeliveryOf}
use Rattle.desc_types.specs.Descriptions.{DescOf}
use Rattle.desc_types.specs.Sources.{HasEarlierSources}
use Rattle.desc_types.specs.Tables.{TableOf}
use Rattle.view_meaning.specs.declared.journal.Entry.{Entry}
use Rattle.view_meaning.specs.Journal.{accepted}
use Rattle.view_meaning.specs.Partitions.{sources_of}
use Rattle.view_meaning.specs.SetAside.{kept_rows}
use Rattle.view_meaning.specs.RawValues.{lies_in}
use Rattle.view_meaning.specs.Versions.{touches, is_raw_kind, version, nth_place}
use Rattle.view_meaning.specs.Staleness.{is_settled}
use Rattle.view_meaning.specs.Values.{joined, made_of, value, value_over}

-- the rows of the partition that a delivery keeps, if these were accepted before it
abbrev pub rows_kept : DescOf → Key → List DeliveryOf → DeliveryOf → List (List Cell)
rows_kept desc key before delivery =
    map (λ (row : DRow). row.cells) (filter (lies_in desc key) (kept_rows desc before delivery))

-- of each delivery that keeps a row in the partition those rows, if they were accepted one by
-- one after those before
abbrev pub loads_kept : DescOf → Key → (before accepted : List DeliveryOf) → List (List (List Cell))
loads_kept desc key before [] = []
loads_kept desc key before (delivery ∷ later) =
    if touches desc key before delivery
    then rows_kept desc key before delivery
    ∷ loads_kept desc key (before ++ delivery ∷ []) later
    else loads_kept desc key (before ++ delivery ∷ []) later

-- the content of a version of a raw partition: the kept rows of the first so many deliveries that
-- kept one in it
abbrev pub raw_content : DescOf → List DeliveryOf → Key → (number : ℕ) → List (List Cell)
raw_content desc accepted key number =
    flat_map (λ rows. rows) (take number (loads_kept desc key [] accepted))

-- the content of the version of a view's partition that an install with this place made, if the
-- versions of the sources have these rows
abbrev pub install_content : DescOf → (rows : Key → ℕ → List (List Cell)) → List Entry → Key
    → TableOf → (at : ℕ) → List (List Cell)
install_content desc rows journal key table at = made_of table.kind
    (joined desc (λ source. rows source (version desc (take at journal) source))
    table.width key.part)

-- the content of a version of a view's partition: version 0 is empty, and each other one is what
-- its install made
abbrev pub view_content : DescOf → (rows : Key → ℕ → List (List Cell)) → List Entry → Key
    → TableOf → (number : ℕ) → List (List Cell)
view_content desc rows journal key table zero = []
view_content desc rows journal key table (suc number) =
    install_content desc rows journal key table (nth_place journal key number)

-- the content of a version of a partition of this table, if the versions of partitions of
-- earlier tables have these rows
abbrev pub content_over : DescOf → (rows : Key → ℕ → List (List Cell)) → List Entry → Key
    → (number : ℕ) → Option TableOf → List (List Cell)
content_over desc rows journal key number None = []
content_over desc rows journal key number (Some table) =
    if is_raw_kind table.kind then raw_content desc (accepted journal) key number
    else view_content desc rows journal key table number

-- the content of a version, down through at most so many tables
abbrev pub content_within : ℕ → DescOf → List Entry → Key → (number : ℕ) → List (List Cell)
content_within zero desc journal key number = []
content_within (suc depth) desc journal key number =
    content_over desc (content_within depth desc journal) journal key number
    (slice_get desc.tables key.table)

-- the content of a version of a partition
abbrev pub content : DescOf → List Entry → Key → (number : ℕ) → List (List Cell)
content desc journal key number = content_within (suc key.table) desc journal key number

-- if a partition is settled, the content of its latest version is its value from scratch over
-- all accepted deliveries
abbrev pub HasSettledValues : Type 0
HasSettledValues = (desc : DescOf) (journal : List Entry) (key : Key)
    → is_settled desc journal key ≡ true
    → content desc journal key (version desc journal key) ≡ value desc (accepted journal) key

-- the content of the latest version of a partition
abbrev pub latest_content : DescOf → List Entry → Key → List (List Cell)
latest_content desc journal key = content desc journal key (version desc journal key)

-- if the sources of a partition are settled, what it comes to over their latest versions is its
-- value from scratch over all accepted deliveries
abbrev pub HasValuesOfLatest : Type 0
HasValuesOfLatest = (desc : DescOf) (journal : List Entry) (key : Key) → HasEarlierSources desc
    → list_all (is_settled desc journal) (sources_of desc key) ≡ true
    → value_over desc (accepted journal) (latest_content desc journal) key
    (slice_get desc.tables key.table)
    ≡ value desc (accepted journal) key
