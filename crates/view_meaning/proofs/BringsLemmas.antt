-- In which keys new deliveries keep rows: only in partitions of raw tables (`brings-raw`,
-- `brings-part`).
use Rattle.std.proofs.Common.{◌≡◌, ℕ, List, refl, sym, ap, arith}
use Rattle.std.specs.Prelude.{true, false, ◌==◌, Option, Some, None, max, min, nat_le, nat_lt}
use Rattle.std.specs.Prelude.{slice_get}
use Rattle.std.proofs.lemmas.Bool.{and_parts, and_right, both_ways, false≢true, false_from_ne_true}
use Rattle.std.proofs.lemmas.Bool.{leb-true, ltb-false, ltb-true, true_from_ne_false}
use Rattle.partition_map.specs.Time.{END}
use Rattle.partition_map.specs.Partitions.{start_of, end_of, is_covered, is_met}
use Rattle.desc_types.specs.declared.table.Key.{Key}
use Rattle.desc_types.specs.declared.delivery.DRow.{DRow}
use Rattle.desc_types.specs.Deliveries.{DeliveryOf}
use Rattle.desc_types.specs.Descriptions.{DescOf}
use Rattle.desc_types.specs.Tables.{TableOf}
use Rattle.desc_types.specs.KindValues.{KindOf, Raw, Filter, Group, Join}
use Rattle.desc_types.specs.Sources.{width_of}
use Rattle.view_meaning.specs.Partitions.{is_part}
use Rattle.view_meaning.specs.Journal.{row_tick}
use Rattle.view_meaning.specs.RawValues.{covers_tick, holds_cells, lies_in}
use Rattle.view_meaning.specs.Versions.{is_raw, is_raw_kind}
use Rattle.view_meaning.specs.Reached.{brings}
use Rattle.view_meaning.proofs.RawLemmas.{loads_after-none}

-- a key that is no partition covers no tick
is_covered-outside : (width part tick : ℕ) → is_met width 0 END part ≡ false
    → is_covered width part tick ≡ false
is_covered-outside width part tick outside =
    let ends = ltb-false (max (start_of width part) 0) (min (end_of width part) END) outside in
    false_from_ne_true (is_covered width part tick) (λ covered.
    let both = and_parts (nat_le (start_of width part) tick) (nat_lt tick (end_of width part))
    covered in
    let from_start = leb-true (start_of width part) tick both.0 in
    let before_end = ltb-true tick (end_of width part) both.1 in
    omega arith)

-- so a row lies in none of them
pub lies_in-outside : (desc : DescOf) (key : Key) (row : DRow) → is_part desc key ≡ false
    → lies_in desc key row ≡ false
lies_in-outside desc key row outside =
    let found = slice_get desc.tables key.table in
    and_right (row.table == key.table) (holds_cells found key.part row.cells)
    (at_table found outside)
  where
    at_tick : (width : ℕ) (tick : Option ℕ) → is_met width 0 END key.part ≡ false
        → covers_tick width key.part tick ≡ false
    at_tick width None outside = refl
    at_tick width (Some tick) outside = is_covered-outside width key.part tick outside

    at_table : (found : Option TableOf) → is_met (width_of found) 0 END key.part ≡ false
        → holds_cells found key.part row.cells ≡ false
    at_table None outside = refl
    at_table (Some table) outside =
        at_tick table.width (row_tick table.kind row.cells) outside

-- nor in a partition of a view
lies_in-not_raw : (desc : DescOf) (key : Key) (row : DRow)
    → is_raw (slice_get desc.tables key.table) ≡ false → lies_in desc key row ≡ false
lies_in-not_raw desc key row view =
    let found = slice_get desc.tables key.table in
    and_right (row.table == key.table) (holds_cells found key.part row.cells)
    (at_table found view)
  where
    at_kind : (width : ℕ) (kind : KindOf) → is_raw_kind kind ≡ false
        → covers_tick width key.part (row_tick kind row.cells) ≡ false
    at_kind width (Raw feed time) view = absurd (false≢true (sym view))
    at_kind width (Filter src conds keep) view = refl
    at_kind width (Group src keys aggs) view = refl
    at_kind width (Join left right pairs) view = refl

    at_table : (found : Option TableOf) → is_raw found ≡ false
        → holds_cells found key.part row.cells ≡ false
    at_table None view = refl
    at_table (Some table) view = at_kind table.width table.kind view

-- deliveries keep no row in a key if no row lies in it
brings-none : (desc : DescOf) (before deliveries : List DeliveryOf) (key : Key)
    → ((row : DRow) → lies_in desc key row ≡ false) → brings desc before deliveries key ≡ false
brings-none desc before deliveries key none =
    ap (λ (count : ℕ). nat_lt 0 count) (loads_after-none desc key before deliveries none)

-- so they keep none in a partition of a view
pub brings-not_raw : (desc : DescOf) (before deliveries : List DeliveryOf) (key : Key)
    → is_raw (slice_get desc.tables key.table) ≡ false → brings desc before deliveries key ≡ false
brings-not_raw desc before deliveries key view =
    brings-none desc before deliveries key (λ row. lies_in-not_raw desc key row view)

-- a key in which deliveries keep a row is of a raw table
pub brings-raw : (desc : DescOf) (before deliveries : List DeliveryOf) (key : Key)
    → brings desc before deliveries key ≡ true → is_raw (slice_get desc.tables key.table) ≡ true
brings-raw desc before deliveries key some =
    true_from_ne_false (is_raw (slice_get desc.tables key.table)) (λ view.
    both_ways (brings desc before deliveries key)
    (brings-not_raw desc before deliveries key view) some)

-- and names a partition of it
pub brings-part : (desc : DescOf) (before deliveries : List DeliveryOf) (key : Key)
    → brings desc before deliveries key ≡ true → is_part desc key ≡ true
brings-part desc before deliveries key some =
    true_from_ne_false (is_part desc key) (λ outside.
    both_ways (brings desc before deliveries key)
    (brings-none desc before deliveries key (λ row. lies_in-outside desc key row outside)) some)
