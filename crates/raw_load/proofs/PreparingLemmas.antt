-- What a delivery tells whose rows were sorted: `TellsOf-sorted` and `TellsRows-sorted`.
use Rattle.std.proofs.Common.{◌≡◌, ◌∙◌, ℕ, ◌+◌, ◌-◌, ◌<◌, ◌≤◌, List, length, take, get_or}
use Rattle.std.proofs.Common.{refl, sym, ap}
use Rattle.std.proofs.Common.{arith, subst, take_all}
use Rattle.std.specs.Prelude.{Bool, true, false, not, ◌&&◌, Option, Some, None, flat_map, nat_le}
use Rattle.std.specs.Prelude.{slice_get, is_some}
use Rattle.std.specs.BTreeMap.{is_at}
use Rattle.std.specs.List.Sorted.{IsStrictlySortedBy}
use Rattle.std.specs.Map.{keys_of as map_keys}
use Rattle.std.proofs.lemmas.Bool.{eq-eqb}
use Rattle.std.proofs.lemmas.Bool.Decides.{nat_tests}
use Rattle.std.proofs.lemmas.List.Elements.{filter_agree}
use Rattle.std.proofs.lemmas.List.Filters.{length-filter_both}
use Rattle.std.proofs.lemmas.List.Folds.{list_any_none}
use Rattle.std.proofs.lemmas.Map.Made.{is_some-lookup}
use Rattle.desc_types.specs.declared.table.Key.{Key}
use Rattle.desc_types.specs.declared.delivery.DRow.{DRow}
use Rattle.desc_types.specs.Accepted.{IsAccepted, IsKind, IsTable}
use Rattle.desc_types.specs.Deliveries.{DeliveryOf}
use Rattle.desc_types.specs.Descriptions.{DescOf}
use Rattle.desc_types.specs.Keys.{key_cmp}
use Rattle.desc_types.specs.KindValues.{KindOf, Raw, Filter, Group, Join}
use Rattle.desc_types.specs.Sources.{width_of}
use Rattle.desc_types.specs.Tables.{TableOf}
use Rattle.partition_map.specs.Partitions.{end_of}
use Rattle.view_meaning.specs.Closing.{closes, is_closed_in, is_fed_by, part_end}
use Rattle.view_meaning.specs.Partitions.{is_among, is_key}
use Rattle.view_meaning.specs.SetAside.{aside_rows, is_late, kept_rows, keys_of, named}
use Rattle.view_meaning.proofs.GreatestLemmas.{is_closed_in-feed}
use Rattle.view_meaning.proofs.ListLemmas.{list_any-agree}
use Rattle.raw_load.specs.declared.sorting.Sorted.{Sorted}
use Rattle.raw_load.specs.Books.{RawBookOf, TellsFeeds, deliveries_of, greatest_closes}
use Rattle.raw_load.specs.Preparing.{TellsOf, counts_of, prepared_of}
use Rattle.raw_load.specs.Sorting.{SortsRows, is_closed_by, is_closed_part, is_late_by, kept_by}
use Rattle.raw_load.specs.Sorting.{late_by}
use Rattle.raw_load.specs.Stretches.{Stretches, TellsRows, found_at}
use Rattle.raw_load.proofs.CompareLemmas.{is_at-key_cmp}

-- a partition of a table that no feed fills is not closed
is_closed_in-no_feed : (desc : DescOf) (accepted : List DeliveryOf) (key : Key)
    → ((feed : ℕ) → is_fed_by feed (slice_get desc.tables key.table) ≡ false)
    → is_closed_in desc accepted key ≡ false
is_closed_in-no_feed desc accepted key none =
    list_any_none (closes desc key) accepted (λ index default _.
    let delivery = get_or accepted index default in
    ap (λ (fed : Bool). fed && nat_le (part_end desc key) delivery.closes) (none delivery.feed))

-- a partition of a raw table is closed exactly if what is kept of its feed says so
is_closed_in-raw : (desc : DescOf) (book : RawBookOf) (key : Key) (table : TableOf)
    (feed time : ℕ) → TellsFeeds desc book → feed < length desc.feeds → 1 ≤ table.width
    → slice_get desc.tables key.table ≡ Some table → table.kind ≡ Raw feed time
    → is_closed_part book.feeds key.part (Some table)
    ≡ is_closed_in desc (deliveries_of book) key
is_closed_in-raw desc book key table feed time tells there wide found kind =
    let some : 1 ≤ part_end desc key = rw found (omega (arith, wide)) in
    let fed : is_fed_by feed (slice_get desc.tables key.table) ≡ true =
    rw (found, kind, eq-eqb feed feed refl) refl in
    rw (kind, tells.closes feed there)
    (ap (λ (table : Option TableOf). nat_le (end_of (width_of table) key.part)
    (greatest_closes (deliveries_of book) feed)) (sym found))
    ∙ sym (is_closed_in-feed desc (deliveries_of book) key feed some fed)

-- what is kept of the feeds tells whether a partition of a table that is there is closed
is_closed_part-told : (desc : DescOf) (book : RawBookOf) (key : Key) (table : TableOf)
    (kind : KindOf) → IsTable desc key.table table → TellsFeeds desc book
    → slice_get desc.tables key.table ≡ Some table → table.kind ≡ kind
    → is_closed_part book.feeds key.part (Some table) ≡ is_closed_in desc (deliveries_of book) key
is_closed_part-told desc book key table (Raw feed time) fits tells found kind =
    let raw : IsKind desc table.columns (Raw feed time) = rw kind at fits.kind in
    is_closed_in-raw desc book key table feed time tells raw.declared fits.width.some found kind
is_closed_part-told desc book key table (Filter src conds keep) fits tells found kind =
    rw kind (sym (is_closed_in-no_feed desc (deliveries_of book) key (λ _. rw (found, kind) refl)))
is_closed_part-told desc book key table (Group src keys aggs) fits tells found kind =
    rw kind (sym (is_closed_in-no_feed desc (deliveries_of book) key (λ _. rw (found, kind) refl)))
is_closed_part-told desc book key table (Join left right on) fits tells found kind =
    rw kind (sym (is_closed_in-no_feed desc (deliveries_of book) key (λ _. rw (found, kind) refl)))

-- and so of any partition
is_closed_by-told : (desc : DescOf) (book : RawBookOf) (key : Key) → IsAccepted desc
    → TellsFeeds desc book
    → is_closed_by desc book.feeds key ≡ is_closed_in desc (deliveries_of book) key
is_closed_by-told desc book key accepted tells = at (slice_get desc.tables key.table) refl
  where
    at : (found : Option TableOf) → slice_get desc.tables key.table ≡ found
        → is_closed_part book.feeds key.part found ≡ is_closed_in desc (deliveries_of book) key
    at None none =
        sym (is_closed_in-no_feed desc (deliveries_of book) key (λ _. rw none refl))
    at (Some table) found =
        is_closed_part-told desc book key table table.kind (accepted.each key.table table found)
        tells found refl

-- so it tells which rows are late
is_late_by-told : (desc : DescOf) (book : RawBookOf) (row : DRow) → IsAccepted desc
    → TellsFeeds desc book
    → is_late_by desc book.feeds row ≡ is_late desc (deliveries_of book) row
is_late_by-told desc book row accepted tells =
    list_any-agree (is_closed_by desc book.feeds) (is_closed_in desc (deliveries_of book))
    (keys_of desc row) (λ index default _.
    is_closed_by-told desc book (get_or (keys_of desc row) index default) accepted tells)

-- the rows of a delivery were sorted by what a book keeps of the feeds
pub record IsSorted (desc : DescOf) (book : RawBookOf) (delivery : DeliveryOf) (sorted : Sorted)
    : Type 0 where
  pub accepted : IsAccepted desc
  pub tells : TellsFeeds desc book
  pub sorts : SortsRows desc book.feeds delivery (length delivery.rows) sorted

-- the rows that are kept are the ones that the deliveries before let it keep
kept_by-sorted : (desc : DescOf) (book : RawBookOf) (delivery : DeliveryOf) (sorted : Sorted)
    → IsSorted desc book delivery sorted
    → kept_by desc book.feeds (take (length delivery.rows) delivery.rows)
    ≡ kept_rows desc (deliveries_of book) delivery
kept_by-sorted desc book delivery sorted is =
    ap (kept_by desc book.feeds) (take_all (length delivery.rows) delivery.rows (omega arith))
    ∙ filter_agree (λ row. not (is_late_by desc book.feeds row))
    (λ row. not (is_late desc (deliveries_of book) row))
    (λ row. ap not (is_late_by-told desc book row is.accepted is.tells)) delivery.rows

-- and so are those that are set aside
late_by-sorted : (desc : DescOf) (book : RawBookOf) (delivery : DeliveryOf) (sorted : Sorted)
    → IsSorted desc book delivery sorted
    → late_by desc book.feeds (take (length delivery.rows) delivery.rows)
    ≡ aside_rows desc (deliveries_of book) delivery
late_by-sorted desc book delivery sorted is =
    ap (late_by desc book.feeds) (take_all (length delivery.rows) delivery.rows (omega arith))
    ∙ filter_agree (is_late_by desc book.feeds) (is_late desc (deliveries_of book))
    (λ row. is_late_by-told desc book row is.accepted is.tells) delivery.rows

-- each partition has the stretches of the rows that are kept
pub TellsRows-sorted : (desc : DescOf) (book : RawBookOf) (delivery : DeliveryOf) (sorted : Sorted)
    → IsSorted desc book delivery sorted
    → TellsRows desc delivery.rows (kept_rows desc (deliveries_of book) delivery)
    sorted.found.entries
TellsRows-sorted desc book delivery sorted is =
    subst (λ (kept : List DRow). TellsRows desc delivery.rows kept sorted.found.entries)
    (kept_by-sorted desc book delivery sorted is) is.sorts.kept

-- there are as many names as rows that are set aside
length-asides-sorted : (desc : DescOf) (book : RawBookOf) (delivery : DeliveryOf) (sorted : Sorted)
    → IsSorted desc book delivery sorted
    → length sorted.asides.items ≡ length (aside_rows desc (deliveries_of book) delivery)
length-asides-sorted desc book delivery sorted is =
    is.sorts.late.counted
    ∙ ap (λ (rows : List DRow). length rows) (late_by-sorted desc book delivery sorted is)

-- a row is kept or set aside
length-rows-sorted : (desc : DescOf) (book : RawBookOf) (delivery : DeliveryOf) (sorted : Sorted)
    → IsSorted desc book delivery sorted
    → length sorted.asides.items + length (kept_rows desc (deliveries_of book) delivery)
    ≡ length delivery.rows
length-rows-sorted desc book delivery sorted is =
    let late = is_late desc (deliveries_of book) in
    omega (
      arith,
      length-asides-sorted desc book delivery sorted is,
      length-filter_both late (λ row. not (late row)) (λ row. refl) delivery.rows,
    )

-- so there are no more names than rows
pub length-asides-le : (desc : DescOf) (book : RawBookOf) (delivery : DeliveryOf) (sorted : Sorted)
    → IsSorted desc book delivery sorted
    → length sorted.asides.items ≤ length delivery.rows
length-asides-le desc book delivery sorted is =
    omega (arith, length-rows-sorted desc book delivery sorted is)

-- a key is among those of which stretches were found exactly if some were found of it
is_among-found : (found : Stretches) (key : Key)
    → is_among (map_keys found) key ≡ is_some (found_at found key)
is_among-found found key =
    list_any-agree (is_key key) (is_at (key_cmp key)) (map_keys found) (λ index default _.
    let other = get_or (map_keys found) index default in
    grind (arith, nat_tests) ∙ sym (is_at-key_cmp key other))
    ∙ sym (is_some-lookup (is_at (key_cmp key)) found)

-- the rows that are kept and set aside are counted
counts-sorted : (desc : DescOf) (book : RawBookOf) (delivery : DeliveryOf) (sorted : Sorted)
    (touched : List Key) → IsSorted desc book delivery sorted
    → (prepared_of delivery sorted touched).counts
    ≡ counts_of desc (deliveries_of book) delivery
counts-sorted desc book delivery sorted touched is =
    let kept : length delivery.rows - length sorted.asides.items
    ≡ length (kept_rows desc (deliveries_of book) delivery) =
    omega (arith, length-rows-sorted desc book delivery sorted is) in
    let aside = length-asides-sorted desc book delivery sorted is in
    λ i. record { kept = kept i; aside = aside i }

-- a delivery whose rows were sorted tells what loading it will do
pub TellsOf-sorted : (desc : DescOf) (book : RawBookOf) (delivery : DeliveryOf) (sorted : Sorted)
    → IsSorted desc book delivery sorted
    → IsStrictlySortedBy key_cmp (map_keys sorted.found.entries)
    → TellsOf desc (deliveries_of book)
    (prepared_of delivery sorted (map_keys sorted.found.entries))
TellsOf-sorted desc book delivery sorted is in_order = record {
  counts = counts-sorted desc book delivery sorted (map_keys sorted.found.entries) is;
  asides = is.sorts.late.exact
      ∙ ap (λ (late : List DRow). flat_map (named desc delivery.number) late)
      (late_by-sorted desc book delivery sorted is);
  touched = λ key.
      is_among-found sorted.found.entries key
      ∙ (TellsRows-sorted desc book delivery sorted is key).some;
  in_order = in_order;
}
