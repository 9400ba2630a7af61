-- The content of each version has the types of its table: `typed_contents`. Contents go down
-- through the tables, so the law is proved within a depth.
use Rattle.std.proofs.Common.{◌≡◌, ◌∙◌, ℕ, zero, suc, List, [], ◌∷◌, ◌++◌, length, take, drop}
use Rattle.std.proofs.Common.{arith, get_or, map, refl, sym, ap, subst, inl, inr}
use Rattle.std.specs.Prelude.{Bool, true, false, not, Option, Some, None, All, IfSome, IsSomeAnd}
use Rattle.std.specs.Prelude.{◌==◌, codes, filter, slice_get, if◌then◌else◌}
use Rattle.std.specs.List.{AllZip}
use Rattle.std.proofs.lemmas.Bool.{and_parts, cases_Bool}
use Rattle.std.proofs.lemmas.Bool.Decides.{nat_tests}
use Rattle.std.proofs.lemmas.List.{map-append, take-append-drop}
use Rattle.std.proofs.lemmas.List.Elements.{All-cons, All-filter, All-head, All-map, All-nil}
use Rattle.std.proofs.lemmas.List.Elements.{All-tail, All-take, filter_passes}
use Rattle.depot_cell.specs.declared.cell.Cell.{Cell}
use Rattle.depot_cell.specs.declared.cell.Ty.{Ty}
use Rattle.depot_cell.specs.Cells.{IsCell, ty_of}
use Rattle.depot_cell.specs.Reading.{IsCellOf}
use Rattle.desc_types.specs.declared.delivery.DRow.{DRow}
use Rattle.desc_types.specs.declared.table.Column.{Column}
use Rattle.desc_types.specs.declared.table.Key.{Key}
use Rattle.desc_types.specs.declared.view.Agg.{Agg}
use Rattle.desc_types.specs.declared.view.Src.{Src}
use Rattle.desc_types.specs.Accepted.{IsAccepted, IsGroup, IsKind, column_types}
use Rattle.desc_types.specs.Columns.{agg_type, joined_columns, kept_columns, prefixed}
use Rattle.desc_types.specs.Deliveries.{DeliveryOf}
use Rattle.desc_types.specs.Descriptions.{DescOf}
use Rattle.desc_types.specs.KindValues.{KindOf, Raw, Filter, Group, Join}
use Rattle.desc_types.specs.Lookups.{columns_of, table_columns}
use Rattle.desc_types.specs.Sources.{table_width}
use Rattle.desc_types.specs.Tables.{TableOf}
use Rattle.partition_map.specs.Partitions.{source_parts}
use Rattle.view_meaning.specs.declared.journal.Entry.{Entry}
use Rattle.view_meaning.specs.declared.journal.Entry.TheVariants as entry
use Rattle.view_meaning.specs.Contents.{content_over, content_within, loads_kept}
use Rattle.view_meaning.specs.Contents.{raw_content, rows_kept, view_content}
use Rattle.view_meaning.specs.Journal.{FitsDelivery, FitsEntry, FitsJournal, FitsRow, IsRowOf}
use Rattle.view_meaning.specs.Journal.{accepted, delivery_of}
use Rattle.view_meaning.specs.Partitions.{keys_read}
use Rattle.view_meaning.specs.RawValues.{holds_cells, lies_in}
use Rattle.view_meaning.specs.SetAside.{is_late, kept_rows}
use Rattle.view_meaning.specs.Values.{joined, made_of}
use Rattle.view_meaning.specs.Versions.{is_raw_kind, nth_place, touches, version}
use Rattle.view_meaning.proofs.ListLemmas.{All-flat_map}
use Rattle.depot_recovery.specs.Depots.{types_of}
use Rattle.depot_recovery.specs.Typed.{HasTypedContents}
use Rattle.depot_recovery.proofs.TypedRowLemmas.{AreTyped, AreTyped-filtered, AreTyped-grouped}
use Rattle.depot_recovery.proofs.TypedRowLemmas.{AreTyped-joined_rows}
use Rattle.depot_recovery.proofs.ZipLemmas.{All-filter_map, map-picked, picked}

-- a prefix changes no type
column_types-prefixed : (prefix : List ℕ) (columns : List Column)
    → column_types (map (prefixed prefix) columns) ≡ column_types columns
column_types-prefixed prefix [] = refl
column_types-prefixed prefix (column ∷ columns) =
    ap (λ (types : List Ty). column.ty ∷ types) (column_types-prefixed prefix columns)

-- the types of a join are those of its sources
column_types-joined_columns : (left right : List Column)
    → column_types (joined_columns left right) ≡ column_types left ++ column_types right
column_types-joined_columns left right =
    map-append (λ (column : Column). column.ty) (map (prefixed (codes "l_")) left)
    (map (prefixed (codes "r_")) right)
    ∙ ap (λ (types : List Ty). types ++ column_types (map (prefixed (codes "r_")) right))
    (column_types-prefixed (codes "l_") left)
    ∙ ap (λ (types : List Ty). column_types left ++ types)
    (column_types-prefixed (codes "r_") right)

-- the types of kept columns
column_types-kept_columns : (columns : List Column) (keep : List ℕ)
    → column_types (kept_columns columns keep) ≡ picked (column_types columns) keep
column_types-kept_columns columns keep = map-picked (λ (column : Column). column.ty) columns keep

-- the types of a group are those of its keys, then those of its aggregates
column_types-group : (source columns : List Column) (keys : List ℕ) (aggs : List Agg)
    → IsGroup source columns keys aggs
    → column_types columns ≡ picked (column_types source) keys ++ map (agg_type source) aggs
column_types-group source columns keys aggs fine =
    let front = take (length keys) columns in
    let back = drop (length keys) columns in
    ap column_types (sym (take-append-drop (length keys) columns))
    ∙ map-append (λ (column : Column). column.ty) front back
    ∙ ap (λ (types : List Ty). column_types front ++ types) fine.agg_columns
    ∙ ap (λ (columns : List Column). column_types columns ++ map (agg_type source) aggs)
    fine.key_columns
    ∙ ap (λ (types : List Ty). types ++ map (agg_type source) aggs)
    (column_types-kept_columns source keys)

-- what a table makes of sources that have their types has its own
AreTyped-made_of : (desc : DescOf) (columns : List Column) (kind : KindOf)
    (rows : Src → List (List Cell)) → IsKind desc columns kind
    → ((src : Src) → AreTyped (types_of desc src.table) (rows src))
    → AreTyped (column_types columns) (made_of kind rows)
AreTyped-made_of desc columns (Raw feed time) rows fine typed =
    All-nil (AllZip IsCellOf (column_types columns))
AreTyped-made_of desc columns (Filter src conds keep) rows fine typed =
    rw (fine.kept, column_types-kept_columns (table_columns desc src.table) keep)
    (AreTyped-filtered (types_of desc src.table) conds keep (rows src) (typed src))
AreTyped-made_of desc columns (Group src keys aggs) rows fine typed =
    rw (column_types-group (table_columns desc src.table) columns keys aggs fine)
    (AreTyped-grouped (table_columns desc src.table) keys aggs (rows src) fine.each_agg
    (typed src))
AreTyped-made_of desc columns (Join left right on) rows fine typed =
    rw (
      fine.joined,
      column_types-joined_columns (table_columns desc left.table) (table_columns desc right.table),
    )
    (AreTyped-joined_rows (types_of desc left.table) (types_of desc right.table) on (rows left)
    (rows right) (typed left) (typed right))

-- the rows of a source have its types, if those of its partitions have
AreTyped-joined : (desc : DescOf) (rows : Key → List (List Cell)) (width part : ℕ) (src : Src)
    → ((key : Key) → AreTyped (types_of desc key.table) (rows key))
    → AreTyped (types_of desc src.table) (joined desc rows width part src)
AreTyped-joined desc rows width part src typed =
    All-flat_map (AllZip IsCellOf (types_of desc src.table)) rows (keys_read desc width part src)
    (All-map (λ key. AreTyped (types_of desc src.table) (rows key))
    (λ source. record { table = src.table; part = source })
    (source_parts width (table_width desc src.table) src.span part)
    (λ index default within.
    typed (record {
      table = src.table;
      part = get_or (source_parts width (table_width desc src.table) src.span part) index default;
    })))

-- cells that fit columns are cells of their types
AllZip-column_types : (columns : List Column) (cells : List Cell) → All IsCell cells
    → AllZip (λ (column : Column) cell. ty_of cell ≡ column.ty) columns cells
    → AllZip IsCellOf (column_types columns) cells
AllZip-column_types [] [] fits typed = tt
AllZip-column_types [] (cell ∷ cells) fits typed = absurd typed
AllZip-column_types (column ∷ columns) [] fits typed = absurd typed
AllZip-column_types (column ∷ columns) (cell ∷ cells) fits typed = (
  record { typed = typed.0; is_cell = All-head IsCell cell cells fits },
  AllZip-column_types columns cells (All-tail IsCell cell cells fits) typed.1,
)

-- a row of a delivery has the types of its table
FitsRow-typed : (feed : ℕ) (cells : List Cell) (found : Option TableOf)
    → IsSomeAnd found (IsRowOf feed cells)
    → AllZip IsCellOf (column_types (columns_of found)) cells
FitsRow-typed feed cells None fits = absurd fits
FitsRow-typed feed cells (Some table) fits =
    AllZip-column_types table.columns cells fits.cells fits.typed

-- so has one that lies in a partition
lies_in-typed : (desc : DescOf) (key : Key) (feed : ℕ) (row : DRow)
    → lies_in desc key row ≡ true → FitsRow desc feed row
    → AllZip IsCellOf (types_of desc key.table) row.cells
lies_in-typed desc key feed row lies fits =
    let parts = and_parts (row.table == key.table)
    (holds_cells (slice_get desc.tables key.table) key.part row.cells) lies in
    let same : row.table ≡ key.table = grind (arith, nat_tests) in
    subst (λ (table : ℕ). AllZip IsCellOf (types_of desc table) row.cells) same
    (FitsRow-typed feed row.cells (slice_get desc.tables row.table) fits)

-- the rows that a delivery keeps in a partition have the types of its table
AreTyped-rows_kept : (desc : DescOf) (key : Key) (before : List DeliveryOf)
    (delivery : DeliveryOf) → FitsDelivery desc delivery
    → AreTyped (types_of desc key.table) (rows_kept desc key before delivery)
AreTyped-rows_kept desc key before delivery fits =
    let timely = λ (row : DRow). not (is_late desc before row) in
    let kept = kept_rows desc before delivery in
    All-map (AllZip IsCellOf (types_of desc key.table)) (λ (row : DRow). row.cells)
    (filter (lies_in desc key) kept)
    (λ index default within.
    lies_in-typed desc key delivery.feed (get_or (filter (lies_in desc key) kept) index default)
    (filter_passes (lies_in desc key) kept index default within)
    (All-filter (lies_in desc key) (FitsRow desc delivery.feed) kept
    (All-filter timely (FitsRow desc delivery.feed) delivery.rows fits.rows) index default within))

-- what is true of each of some lists is true with one in front, if a test passes
All-cons_if : {X : Type 0} (P : X → Type 0) (test : Bool) (x : X) (xs : List X) → P x → All P xs
    → All P (if test then x ∷ xs else xs)
All-cons_if P true x xs first all = All-cons P x xs first all
All-cons_if P false x xs first all = all

-- so have those of each delivery
AreTyped-loads_kept : (desc : DescOf) (key : Key) (before accepted : List DeliveryOf)
    → All (FitsDelivery desc) accepted
    → All (AreTyped (types_of desc key.table)) (loads_kept desc key before accepted)
AreTyped-loads_kept desc key before [] fits = All-nil (AreTyped (types_of desc key.table))
AreTyped-loads_kept desc key before (delivery ∷ later) fits =
    All-cons_if (AreTyped (types_of desc key.table)) (touches desc key before delivery)
    (rows_kept desc key before delivery) (loads_kept desc key (before ++ delivery ∷ []) later)
    (AreTyped-rows_kept desc key before delivery
    (All-head (FitsDelivery desc) delivery later fits))
    (AreTyped-loads_kept desc key (before ++ delivery ∷ []) later
    (All-tail (FitsDelivery desc) delivery later fits))

-- a load that fits has a delivery that does
FitsEntry-delivery_of : (desc : DescOf) (next : Entry) → FitsEntry desc next
    → IfSome (delivery_of next) (FitsDelivery desc)
FitsEntry-delivery_of desc (entry.Load delivery) fits = fits
FitsEntry-delivery_of desc (entry.Install key at) fits = tt

-- the deliveries of a journal that fits do
FitsDelivery-accepted : (desc : DescOf) (journal : List Entry) → FitsJournal desc journal
    → All (FitsDelivery desc) (accepted journal)
FitsDelivery-accepted desc journal fits =
    All-filter_map (FitsDelivery desc) delivery_of journal
    (λ index default within.
    FitsEntry-delivery_of desc (get_or journal index default) (fits index default within))

-- the content of a version of a raw table's partition has its types
AreTyped-raw_content : (desc : DescOf) (journal : List Entry) (key : Key) (number : ℕ)
    → FitsJournal desc journal
    → AreTyped (types_of desc key.table) (raw_content desc (accepted journal) key number)
AreTyped-raw_content desc journal key number fits =
    let loads = loads_kept desc key [] (accepted journal) in
    All-flat_map (AllZip IsCellOf (types_of desc key.table)) (λ rows. rows) (take number loads)
    (All-take (AreTyped (types_of desc key.table)) number loads
    (AreTyped-loads_kept desc key [] (accepted journal) (FitsDelivery-accepted desc journal fits)))

-- the content of a version of a view's partition has its types, if those of its sources have
AreTyped-view_content : (desc : DescOf) (rows : Key → ℕ → List (List Cell)) (journal : List Entry)
    (key : Key) (table : TableOf) (number : ℕ) → IsKind desc table.columns table.kind
    → ((key : Key) (number : ℕ) → AreTyped (types_of desc key.table) (rows key number))
    → AreTyped (column_types table.columns) (view_content desc rows journal key table number)
AreTyped-view_content desc rows journal key table zero fine typed =
    All-nil (AllZip IsCellOf (column_types table.columns))
AreTyped-view_content desc rows journal key table (suc number) fine typed =
    let before = take (nth_place journal key number) journal in
    let latest = λ (source : Key). rows source (version desc before source) in
    AreTyped-made_of desc table.columns table.kind (joined desc latest table.width key.part) fine
    (λ src. AreTyped-joined desc latest table.width key.part src
    (λ source. typed source (version desc before source)))

-- the content of a version has the types of its table, if those of earlier tables have
AreTyped-content_over : (desc : DescOf) (rows : Key → ℕ → List (List Cell)) (journal : List Entry)
    (key : Key) (number : ℕ) (found : Option TableOf) → slice_get desc.tables key.table ≡ found
    → IsAccepted desc → FitsJournal desc journal
    → ((key : Key) (number : ℕ) → AreTyped (types_of desc key.table) (rows key number))
    → AreTyped (column_types (columns_of found))
    (content_over desc rows journal key number found)
AreTyped-content_over desc rows journal key number None is_found accepts fits typed =
    All-nil (AllZip IsCellOf [])
AreTyped-content_over desc rows journal key number (Some table) is_found accepts fits typed =
    elim (cases_Bool (is_raw_kind table.kind)) [
      | inl raw ↦ rw raw
          (subst (λ (found : Option TableOf). AreTyped (column_types (columns_of found))
          (raw_content desc (accepted journal) key number)) is_found
          (AreTyped-raw_content desc journal key number fits))
      | inr view ↦ rw view
          (AreTyped-view_content desc rows journal key table number
          (accepts.each key.table table is_found).kind typed)
    ]

-- so it has down through any number of tables
AreTyped-content_within : (depth : ℕ) (desc : DescOf) (journal : List Entry) (key : Key)
    (number : ℕ) → IsAccepted desc → FitsJournal desc journal
    → AreTyped (types_of desc key.table) (content_within depth desc journal key number)
AreTyped-content_within zero desc journal key number accepts fits =
    All-nil (AllZip IsCellOf (types_of desc key.table))
AreTyped-content_within (suc depth) desc journal key number accepts fits =
    AreTyped-content_over desc (content_within depth desc journal) journal key number
    (slice_get desc.tables key.table) refl accepts fits
    (λ source number. AreTyped-content_within depth desc journal source number accepts fits)

-- the content of each version has the types of its table
pub typed_contents : HasTypedContents
typed_contents desc journal key number accepts fits =
    AreTyped-content_within (suc key.table) desc journal key number accepts fits
