-- Lemmas on the rows of a body: cells and rows are read from the front, and `with_front` puts
-- what was read before what the rest is.
use Rattle.std.proofs.Common.{◌≡◌, ◌∙◌, ◌+◌, ◌<◌, ◌≤◌, ◌∷◌, ◌++◌, [], ℕ, zero, suc, List, Option}
use Rattle.std.proofs.Common.{Some, None, Ok, Err, Bool, drop, get_or, length, refl, sym, ap}
use Rattle.std.proofs.Common.{nat_eq, true, false, arith}
use Rattle.std.specs.Prelude.{Result, slice_get}
use Rattle.std.proofs.lemmas.List.{append-nil, drop_more}
use Rattle.csv.specs.Reading.{ReadRecord}
use Rattle.csv.specs.Records.{field_at}
use Rattle.csv.specs.declared.reader.Reader.{Reader}
use Rattle.csv.specs.Reading.{took_first}
use Rattle.depot_cell.specs.declared.cell.Cell.{Cell}
use Rattle.depot_cell.specs.Reading.{cell_of}
use Rattle.desc_types.specs.declared.table.Column.{Column}
use Rattle.desc_types.specs.declared.delivery.DRow.{DRow}
use Rattle.desc_types.specs.Descriptions.{DescOf}
use Rattle.desc_types.specs.Tables.{TableOf}
use Rattle.feed_csv.specs.declared.fault.BadRecord.{BadRecord}
use Rattle.feed_csv.specs.declared.fault.RowCause.{RowCause}
use Rattle.feed_csv.specs.declared.fault.RowCause.TheVariants as cause
use Rattle.feed_csv.specs.Bodies.{cell_read, cells_from, cells_of, find_raw_table, has_header}
use Rattle.feed_csv.specs.Bodies.{numbered, placed, records_of, row_of, rows_from, rows_of}
use Rattle.feed_csv.specs.Bodies.{table_cells, then_more, without_header}
use Rattle.feed_csv.proofs.FrontLemmas.{with_front, with_front-push, with_front-empty}
use Rattle.feed_csv.proofs.CsvRecords.{Yields, Yields-empty, Yields-step, records-le}

-- a field after the first
pub field_at-drop : (fields : List (List ℕ)) (place : ℕ)
    → field_at fields (place + 1) ≡ field_at (drop 1 fields) place
unfolding field_at
field_at-drop [] place = refl
field_at-drop (first ∷ fields) place =
    let next : place + 1 ≡ suc place = omega arith in
    rw next refl

-- the fields from a place on: the one there, and those after it
drop-step : (fields : List (List ℕ)) (place : ℕ) (field : List ℕ)
    → field_at fields place ≡ Some field
    → drop place fields ≡ field ∷ drop (place + 1) fields
unfolding field_at
drop-step [] place field there = cc there
drop-step (first ∷ fields) zero field there = cc there
drop-step (first ∷ fields) (suc place) field there =
    let next : suc place + 1 ≡ suc (place + 1) = omega arith in
    rw next (drop-step fields place field there)

-- the cells from a place on: that of the field there, and those after it
cells_from-step : (time : ℕ) (columns : List Column) (fields : List (List ℕ)) (place : ℕ)
    (column : Column) (field : List ℕ)
    → place < length columns → get_or columns place column ≡ column
    → field_at fields place ≡ Some field
    → cells_from time place (drop place columns) (drop place fields)
    ≡ then_more (cell_read (nat_eq place time) (cell_of column.ty field))
    (cells_from time (place + 1) (drop (place + 1) columns) (drop (place + 1) fields))
cells_from-step time columns fields place column field within here there =
    let columns_here = drop_more columns place column within in
    rw (columns_here, here, drop-step fields place field there) refl

-- what was read before a place, with what is from there on, is the whole
pub record ReadsCells (time : ℕ) (columns : List Column) (fields : List (List ℕ)) (place : ℕ)
    (cells : List Cell) : Type 0 where
  pub whole : with_front cells (cells_from time place (drop place columns) (drop place fields))
      ≡ cells_of time columns fields

-- nothing was read at the start, if there are as many fields as columns
pub ReadsCells-start : (time : ℕ) (columns : List Column) (fields : List (List ℕ))
    → nat_eq (length fields) (length columns) ≡ true → ReadsCells time columns fields 0 []
ReadsCells-start time columns fields many =
    record { whole = with_front-empty _ ∙ sym (rw many refl) }

-- a field that is a cell adds it
pub ReadsCells-push : (time : ℕ) (columns : List Column) (fields : List (List ℕ)) (place : ℕ)
    (cells : List Cell) (column : Column) (field : List ℕ) (cell : Cell)
    → ReadsCells time columns fields place cells → place < length columns
    → get_or columns place column ≡ column → field_at fields place ≡ Some field
    → Ok cell ≡ cell_read (nat_eq place time) (cell_of column.ty field)
    → ReadsCells time columns fields (place + 1) (cells ++ cell ∷ [])
ReadsCells-push time columns fields place cells column field cell before within here there is_cell =
    let step = cells_from-step time columns fields place column field within here there in
    record { whole = sym (with_front-push cells cell _) ∙ rw (step, ← is_cell) at before.whole }

-- a field that is no cell makes the whole none, for its cause
pub ReadsCells-bad : (time : ℕ) (columns : List Column) (fields : List (List ℕ)) (place : ℕ)
    (cells : List Cell) (column : Column) (field : List ℕ) (cause : RowCause)
    → ReadsCells time columns fields place cells → place < length columns
    → get_or columns place column ≡ column → field_at fields place ≡ Some field
    → Err cause ≡ cell_read (nat_eq place time) (cell_of column.ty field)
    → Err cause ≡ cells_of time columns fields
ReadsCells-bad time columns fields place cells column field cause before within here there no_cell =
    let step = cells_from-step time columns fields place column field within here there in
    rw (step, ← no_cell) at before.whole

-- a record with a first field
pub field_at-first : (fields : List (List ℕ)) (name : List ℕ) → Some name ≡ field_at fields 0
    → fields ≡ name ∷ drop 1 fields
unfolding field_at
field_at-first [] name there = cc there
field_at-first (first ∷ fields) name there = cc there

-- a record with no field is no row
pub row_of-empty : (desc : DescOf) (feed number : ℕ) (fields : List (List ℕ))
    → None ≡ field_at fields 0
    → Err cause.NoTable ≡ row_of desc feed number fields
unfolding field_at
row_of-empty desc feed number [] none = refl
row_of-empty desc feed number (first ∷ fields) none = cc none

-- a record whose first field names no raw table of the feed is no row
pub row_of-none : (desc : DescOf) (feed number : ℕ) (fields : List (List ℕ)) (name : List ℕ)
    → Some name ≡ field_at fields 0 → None ≡ find_raw_table desc feed name
    → Err cause.NoTable ≡ row_of desc feed number fields
row_of-none desc feed number fields name there none =
    rw (field_at-first fields name there, ← none) refl

-- a record whose first field names a raw table is the row that its other fields are there
pub row_of-named : (desc : DescOf) (feed number : ℕ) (fields : List (List ℕ)) (name : List ℕ)
    (table : ℕ) (declared : TableOf) (cells : Result (List Cell) RowCause)
    → Some name ≡ field_at fields 0 → Some table ≡ find_raw_table desc feed name
    → slice_get desc.tables table ≡ Some declared
    → cells ≡ table_cells (Some declared) (drop 1 fields)
    → numbered number table cells ≡ row_of desc feed number fields
row_of-named desc feed number fields name table declared cells there named found read =
    rw (read, field_at-first fields name there, ← named, found) refl

-- the rows that records are, numbered from here on, where record 0 is a header
abbrev numbered_rows : DescOf → (feed number : ℕ) → List (List (List ℕ))
    → Result (List DRow) BadRecord
numbered_rows desc feed zero records = rows_from desc feed 1 (drop 1 records)
numbered_rows desc feed (suc before) records = rows_from desc feed (suc before) records

-- the number of a body's first record: a header is record 0
abbrev pub first_number : (header : Bool) → ℕ
first_number true = 0
first_number false = 1

-- the first record is record 1 at most
first_number-le : (header : Bool) → first_number header ≤ 1
first_number-le true = omega arith
first_number-le false = omega arith

-- all records, numbered like this, are the rows of those after the header
numbered_rows-start : (desc : DescOf) (feed : ℕ) (header : Bool) (records : List (List (List ℕ)))
    → header ≡ has_header desc feed
    → numbered_rows desc feed (first_number header) records
    ≡ rows_from desc feed 1 (without_header desc feed records)
numbered_rows-start desc feed true records same = rw (← same) refl
numbered_rows-start desc feed false records same = rw (← same) refl

-- no records are no rows
numbered_rows-empty : (desc : DescOf) (feed number : ℕ) → numbered_rows desc feed number [] ≡ Ok []
numbered_rows-empty desc feed zero = refl
numbered_rows-empty desc feed (suc before) = refl

-- a record from 1 on is a row
numbered_rows-step : (desc : DescOf) (feed number : ℕ) (fields : List (List ℕ))
    (others : List (List (List ℕ)))
    → 0 < number
    → numbered_rows desc feed number (fields ∷ others)
    ≡ then_more (placed number (row_of desc feed number fields))
    (numbered_rows desc feed (number + 1) others)
numbered_rows-step desc feed zero fields others some = absurd (omega arith)
numbered_rows-step desc feed (suc before) fields others some =
    let next : suc before + 1 ≡ suc (suc before) = omega arith in
    rw next refl

-- the rows that were read, and those that the records to come are, are those of the body
pub record ReadsRows {R : Type 0} (rem : R → Option (List ℕ)) (desc : DescOf) (feed : ℕ)
    (body : List ℕ) (reader : Reader R) (number : ℕ) (rows : List DRow) : Type 0 where
  pub rest : List (List (List ℕ))
  pub yields : Yields rem reader rest
  pub few : number + length rest ≤ length body + 1
  pub whole : with_front rows (numbered_rows desc feed number rest) ≡ rows_of desc feed body

-- nothing was read at the start
pub ReadsRows-start : {R : Type 0} (rem : R → Option (List ℕ)) (desc : DescOf) (feed : ℕ)
    (body : List ℕ) (reader : Reader R) (header : Bool)
    → header ≡ has_header desc feed → Yields rem reader (records_of body)
    → ReadsRows rem desc feed body reader (first_number header) []
ReadsRows-start rem desc feed body reader header same yields =
    let short = records-le body in
    let first = first_number-le header in
    record {
      rest = records_of body;
      yields = yields;
      few = omega arith;
      whole = with_front-empty _ ∙ numbered_rows-start desc feed header (records_of body) same;
    }

-- record 0 adds no row
pub ReadsRows-skip : {R : Type 0} (rem : R → Option (List ℕ)) (desc : DescOf) (feed : ℕ)
    (body : List ℕ)
    (old new : Reader R) (number : ℕ) (rows : List DRow) (fields : List (List ℕ))
    → number ≡ 0 → ReadsRows rem desc feed body old number rows
    → ReadRecord rem old new true fields → took_first new ≡ true
    → ReadsRows rem desc feed body new (number + 1) rows
ReadsRows-skip rem desc feed body old new zero rows fields is_zero before read took =
    let more = Yields-step rem old new fields before.rest before.yields read took in
    let size = ap length more.first in
    record {
      rest = more.others;
      yields = more.yields;
      few = omega (arith, before.few);
      whole = rw more.first at before.whole;
    }
ReadsRows-skip rem desc feed body old new (suc _) rows fields is_zero before read took =
    absurd (omega arith)

-- a record that is a row adds it
pub ReadsRows-push : {R : Type 0} (rem : R → Option (List ℕ)) (desc : DescOf) (feed : ℕ)
    (body : List ℕ)
    (old new : Reader R) (number : ℕ) (rows : List DRow) (fields : List (List ℕ)) (row : DRow)
    → 0 < number → ReadsRows rem desc feed body old number rows
    → ReadRecord rem old new true fields → took_first new ≡ true
    → Ok row ≡ row_of desc feed number fields
    → ReadsRows rem desc feed body new (number + 1) (rows ++ row ∷ [])
ReadsRows-push rem desc feed body old new number rows fields row some before read took is_row =
    let more = Yields-step rem old new fields before.rest before.yields read took in
    let size = ap length more.first in
    let step = numbered_rows-step desc feed number fields more.others some in
    record {
      rest = more.others;
      yields = more.yields;
      few = omega (arith, before.few);
      whole = sym (with_front-push rows row _)
          ∙ rw (more.first, step, ← is_row) at before.whole;
    }

-- a record that is no row makes the whole none: it is the first one
pub ReadsRows-bad : {R : Type 0} (rem : R → Option (List ℕ)) (desc : DescOf) (feed : ℕ)
    (body : List ℕ)
    (old new : Reader R) (number : ℕ) (rows : List DRow) (fields : List (List ℕ))
    (cause : RowCause)
    → 0 < number → ReadsRows rem desc feed body old number rows
    → ReadRecord rem old new true fields → took_first new ≡ true
    → Err cause ≡ row_of desc feed number fields
    → rows_of desc feed body ≡ Err (record { number = number; cause = cause })
ReadsRows-bad rem desc feed body old new number rows fields cause some before read took no_row =
    let more = Yields-step rem old new fields before.rest before.yields read took in
    let step = numbered_rows-step desc feed number fields more.others some in
    sym (rw (more.first, step, ← no_row) at before.whole)

-- if no record is left the rows are the whole
pub ReadsRows-empty : {R : Type 0} (rem : R → Option (List ℕ)) (desc : DescOf) (feed : ℕ)
    (body : List ℕ)
    (old new : Reader R) (number : ℕ) (rows : List DRow) (fields : List (List ℕ))
    → ReadsRows rem desc feed body old number rows → ReadRecord rem old new false fields
    → rows_of desc feed body ≡ Ok rows
ReadsRows-empty rem desc feed body old new number rows fields before read =
    let none = Yields-empty rem old new fields before.rest before.yields read in
    sym (rw (none, numbered_rows-empty desc feed number) at before.whole)
    ∙ ap Ok (append-nil rows)
