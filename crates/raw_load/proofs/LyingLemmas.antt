-- Which partition a row lies in: at most one, and it begins in time.
use Rattle.std.proofs.Common.{◌≡◌, ◌∙◌, ℕ, ◌<◌, ◌/◌, refl, sym, ap, arith, inl, inr}
use Rattle.std.specs.Prelude.{Bool, true, ◌&&◌, ◌==◌, Option, Some, None, nat_le, nat_lt, List}
use Rattle.std.specs.Prelude.{slice_get}
use Rattle.std.proofs.lemmas.Bool.{and_parts, cases_Bool, eq-eqb, eqb-true, leb-true, ltb-true}
use Rattle.std.proofs.lemmas.Bool.{false≢true}
use Rattle.depot_cell.specs.declared.cell.Cell.{Cell}
use Rattle.desc_types.specs.declared.table.Key.{Key}
use Rattle.desc_types.specs.declared.delivery.DRow.{DRow}
use Rattle.desc_types.specs.Descriptions.{DescOf}
use Rattle.desc_types.specs.Tables.{TableOf}
use Rattle.desc_types.specs.Sources.{width_of}
use Rattle.partition_map.specs.Time.{END}
use Rattle.partition_map.specs.Partitions.{start_of, end_of, is_covered}
use Rattle.partition_map.proofs.BoolLemmas.{same-answer}
use Rattle.partition_map.proofs.PartitionLemmas.{is_covered-quotient}
use Rattle.view_meaning.specs.Journal.{row_tick}
use Rattle.view_meaning.specs.RawValues.{covers_tick, holds_cells, lies_in}
use Rattle.view_meaning.specs.TableRows.{lies_in_table}
use Rattle.raw_load.specs.Stretches.{IsInTime, LiesOnlyIn, is_between}
use Rattle.raw_load.proofs.CompareLemmas.{is_at-key_cmp}

-- a partition that covers a tick begins in time
covers_tick-in_time : (width part : ℕ) (tick : Option ℕ) → covers_tick width part tick ≡ true
    → start_of width part < END
covers_tick-in_time width part None covers = absurd (false≢true covers)
covers_tick-in_time width part (Some tick) covers =
    let both = and_parts (nat_le (start_of width part) tick) (nat_lt tick (end_of width part))
    covers in
    let from_start = leb-true (start_of width part) tick both.0 in
    let before_end = ltb-true tick (end_of width part) both.1 in
    omega arith

-- a partition that a row lies in begins in time
pub lies_in-in_time : (desc : DescOf) (key : Key) (row : DRow) → lies_in desc key row ≡ true
    → IsInTime desc key
lies_in-in_time desc key row lies =
    let found = slice_get desc.tables key.table in
    let both = and_parts (row.table == key.table) (holds_cells found key.part row.cells) lies in
    at_table found both.1
  where
    at_table : (found : Option TableOf) → holds_cells found key.part row.cells ≡ true
        → start_of (width_of found) key.part < END
    at_table None holds = absurd (false≢true holds)
    at_table (Some table) holds =
        covers_tick-in_time table.width key.part (row_tick table.kind row.cells) holds

-- a partition covers a tick exactly if it lies from its start up to its end
covers_tick-between : (width part : ℕ) (tick : Option ℕ)
    → covers_tick width part tick ≡ is_between (start_of width part) (end_of width part) tick
covers_tick-between width part None = refl
covers_tick-between width part (Some tick) = refl

-- two partitions of a table that cover one tick are the same
covers_tick-same : (width part other : ℕ) (tick : Option ℕ) → covers_tick width part tick ≡ true
    → covers_tick width other tick ≡ (part == other)
covers_tick-same width part other None covers = absurd (false≢true covers)
covers_tick-same width part other (Some tick) covers =
    let own : part ≡ tick / width = is_covered-quotient width part tick covers in
    same-answer (is_covered width other tick) (part == other)
    (λ also. eq-eqb part other (own ∙ sym (is_covered-quotient width other tick also)))
    (λ same. rw (← eqb-true part other same) covers)

-- so are two that hold one row
holds_cells-same : (found : Option TableOf) (part other : ℕ) (cells : List Cell)
    → holds_cells found part cells ≡ true → holds_cells found other cells ≡ (part == other)
holds_cells-same None part other cells holds = absurd (false≢true holds)
holds_cells-same (Some table) part other cells holds =
    covers_tick-same table.width part other (row_tick table.kind cells) holds

-- among the partitions of all tables, the one that holds cells of its table is the only one
holds_cells-only : (desc : DescOf) (key other : Key) (cells : List Cell)
    → holds_cells (slice_get desc.tables key.table) key.part cells ≡ true
    → ((key.table == other.table)
    && holds_cells (slice_get desc.tables other.table) other.part cells)
    ≡ ((key.table == other.table) && (key.part == other.part))
holds_cells-only desc key other cells holds = elim (cases_Bool (key.table == other.table)) [
  | inl same ↦ rw (same, ← eqb-true key.table other.table same)
      (holds_cells-same (slice_get desc.tables key.table) key.part other.part cells holds)
  | inr apart ↦ rw apart refl
]

-- a row that lies in a partition lies in no other
pub LiesOnlyIn-lies_in : (desc : DescOf) (key : Key) (row : DRow) → lies_in desc key row ≡ true
    → LiesOnlyIn desc key row
LiesOnlyIn-lies_in desc key row lies other =
    let found = slice_get desc.tables key.table in
    let both = and_parts (row.table == key.table) (holds_cells found key.part row.cells) lies in
    ap (λ (number : ℕ). (number == other.table)
    && holds_cells (slice_get desc.tables other.table) other.part row.cells)
    (eqb-true row.table key.table both.0)
    ∙ holds_cells-only desc key other row.cells both.1
    ∙ sym (is_at-key_cmp key other)

-- a row lies in a partition of a table that is there just as it lies in it by the table
pub lies_in-found : (desc : DescOf) (key : Key) (table : TableOf) (row : DRow)
    → slice_get desc.tables key.table ≡ Some table
    → lies_in desc key row ≡ lies_in_table table key row
lies_in-found desc key table row found = rw found refl

-- a row of the table at a tick from the start of a partition up to its end lies in it
pub lies_in_table-between : (table : TableOf) (key : Key) (row : DRow) (from end : ℕ)
    → from ≡ start_of table.width key.part → end ≡ end_of table.width key.part
    → ((row.table == key.table) && is_between from end (row_tick table.kind row.cells)) ≡ true
    → lies_in_table table key row ≡ true
lies_in_table-between table key row from end starts ends lies =
    ap (λ (covers : Bool). (row.table == key.table) && covers)
    (covers_tick-between table.width key.part (row_tick table.kind row.cells)
    ∙ ap (λ (tick : ℕ). is_between tick (end_of table.width key.part)
    (row_tick table.kind row.cells)) (sym starts)
    ∙ ap (λ (tick : ℕ). is_between from tick (row_tick table.kind row.cells)) (sym ends))
    ∙ lies
