-- The delivery that a body brings: a row for each record of the CSV text, or the first record that is
-- none and why.
use Rattle.std.specs.Prelude.{ℕ, ◌≡◌, ◌+◌, List, [], ◌∷◌, Option, Some, None, Bool, true, false}
use Rattle.std.specs.Prelude.{◌&&◌, Result, Ok, Err, codes, drop, length, nat_eq, nat_lt}
use Rattle.std.specs.Prelude.{if◌then◌else◌, position, slice_get}
use Rattle.std.specs.Global.{Vec}
use Rattle.std.specs.Str.{bytes_eq}
use Rattle.csv.specs.Reading.{Ready, default_config, reader_config, reader_state, reader_trim}
use Rattle.csv.specs.Reading.{records, source_of, strip_bom}
use Rattle.csv.specs.declared.parser.State.TheVariants as st
use Rattle.csv.specs.declared.reader.Reader.{Reader}
use Rattle.csv.specs.declared.reader.Trim.TheVariants as trim
use Rattle.depot_cell.specs.declared.cell.Cell.{Cell}
use Rattle.depot_cell.specs.declared.cell.CellFault.{CellFault}
use Rattle.depot_cell.specs.declared.cell.CellFault.TheVariants as cell_fault
use Rattle.depot_cell.specs.Reading.{cell_of}
use Rattle.partition_map.specs.Time.{END}
use Rattle.desc_types.specs.declared.delivery.DRow.{DRow}
use Rattle.desc_types.specs.declared.table.Column.{Column}
use Rattle.desc_types.specs.declared.table.Feed.{Feed}
use Rattle.desc_types.specs.Deliveries.{DeliveryOf}
use Rattle.desc_types.specs.Descriptions.{DescOf}
use Rattle.desc_types.specs.KindValues.{KindOf, Raw, Filter, Group, Join}
use Rattle.desc_types.specs.Tables.{TableOf}
use Rattle.view_meaning.specs.Journal.{tick_of}
use Rattle.feed_csv.specs.declared.fault.BadRecord.{BadRecord}
use Rattle.feed_csv.specs.declared.fault.DeliveryFault.{DeliveryFault}
use Rattle.feed_csv.specs.declared.fault.DeliveryFault.TheVariants.{At, Memory}
use Rattle.feed_csv.specs.declared.fault.RowCause.{RowCause}
use Rattle.feed_csv.specs.declared.fault.RowCause.TheVariants as cause

-- whether a table is a raw one of this feed
abbrev pub is_raw_of : ℕ → KindOf → Bool
is_raw_of feed (Raw its_feed _) = nat_eq its_feed feed
is_raw_of feed (Filter _ _ _) = false
is_raw_of feed (Group _ _ _) = false
is_raw_of feed (Join _ _ _) = false

-- the number of the feed's raw table with this name
abbrev pub find_raw_table : DescOf → ℕ → List ℕ → Option ℕ
find_raw_table desc feed name = position
    (λ (table : TableOf). bytes_eq table.name name && is_raw_of feed table.kind) desc.tables

-- whether there is a table, with this name and a raw one of the feed
abbrev pub is_raw_named : (feed : ℕ) → (name : List ℕ) → Option TableOf → Bool
is_raw_named feed name None = false
is_raw_named feed name (Some table) = bytes_eq table.name name && is_raw_of feed table.kind

-- why a record is no row, for each fault of a cell: a reading has no fault Memory
abbrev pub cell_cause : CellFault → RowCause
cell_cause cell_fault.BadInt = cause.BadInt
cell_cause cell_fault.LongText = cause.LongText
cell_cause cell_fault.NotUtf8 = cause.NotUtf8
cell_cause cell_fault.Memory = cause.NotUtf8

-- whether there is a tick and it lies in time
abbrev pub is_in_time : Option ℕ → Bool
is_in_time None = false
is_in_time (Some tick) = nat_lt tick END

-- a cell, if it is no time or lies in time
abbrev pub timed : (is_time : Bool) → Cell → Result Cell RowCause
timed false cell = Ok cell
timed true cell = if is_in_time (tick_of (Some cell)) then Ok cell else Err cause.BadTime

-- the cell that a field was read as
abbrev pub cell_read : (is_time : Bool) → Result Cell CellFault → Result Cell RowCause
cell_read is_time (Ok cell) = timed is_time cell
cell_read is_time (Err fault) = Err (cell_cause fault)

-- one more in front, or the first fault
abbrev pub then_more : {X F : Type 0} → Result X F → Result (List X) F → Result (List X) F
then_more (Err fault) others = Err fault
then_more (Ok first) (Err fault) = Err fault
then_more (Ok first) (Ok others) = Ok (first ∷ others)

-- the cells of fields by their columns, of which the first has this number, or the cause of the
-- first field that is none
abbrev pub cells_from : (time number : ℕ) → List Column → List (List ℕ)
    → Result (List Cell) RowCause
cells_from time number (column ∷ columns) (field ∷ fields) = then_more
    (cell_read (nat_eq number time) (cell_of column.ty field))
    (cells_from time (number + 1) columns fields)
cells_from time number _ _ = Ok []

-- the cells of fields by their columns: there have to be as many
abbrev pub cells_of : (time : ℕ) → List Column → List (List ℕ) → Result (List Cell) RowCause
cells_of time columns fields =
    if nat_eq (length fields) (length columns) then cells_from time 0 columns fields
    else Err cause.BadCount

-- the number of a raw table's time column: a view has none
abbrev pub time_of : KindOf → ℕ
time_of (Raw _ time) = time
time_of (Filter _ _ _) = 0
time_of (Group _ _ _) = 0
time_of (Join _ _ _) = 0

-- the cells of a row of a table, if there is one
abbrev pub table_cells : Option TableOf → List (List ℕ) → Result (List Cell) RowCause
table_cells None fields = Err cause.NoTable
table_cells (Some table) fields = cells_of (time_of table.kind) table.columns fields

-- a row of the table with this number
abbrev pub numbered : (number table : ℕ) → Result (List Cell) RowCause → Result DRow RowCause
numbered number table (Ok cells) = Ok (record { number = number; table = table; cells = cells })
numbered number table (Err cause) = Err cause

-- a row of the table, if there is one
abbrev pub row_in : DescOf → (number : ℕ) → (table : Option ℕ) → List (List ℕ)
    → Result DRow RowCause
row_in desc number None fields = Err cause.NoTable
row_in desc number (Some table) fields =
    numbered number table (table_cells (slice_get desc.tables table) fields)

-- the row that a record is, or why it is none: its first field names a raw table of the feed, the
-- others are the table's cells
abbrev pub row_of : DescOf → (feed number : ℕ) → List (List ℕ) → Result DRow RowCause
row_of desc feed number [] = Err cause.NoTable
row_of desc feed number (name ∷ fields) =
    row_in desc number (find_raw_table desc feed name) fields

-- a row, or the number of the record that is none
abbrev pub placed : (number : ℕ) → Result DRow RowCause → Result DRow BadRecord
placed number (Ok row) = Ok row
placed number (Err cause) = Err (record { number = number; cause = cause })

-- the rows that records are, numbered from here on, or the first record that is none
abbrev pub rows_from : DescOf → (feed number : ℕ) → List (List (List ℕ))
    → Result (List DRow) BadRecord
rows_from desc feed number [] = Ok []
rows_from desc feed number (fields ∷ others) = then_more
    (placed number (row_of desc feed number fields)) (rows_from desc feed (number + 1) others)

-- the records of a body, by the CSV reader with its default setup: a header is one of them
abbrev pub records_of : List ℕ → List (List (List ℕ))
records_of body = records default_config (strip_bom body)

-- the reader stands at the start of a body, with the default setup of CSV readers except that it
-- takes no header by itself
pub record BeginsBody {R : Type 0} (rem : R → Option (List ℕ)) (body : List ℕ)
    (reader : Reader R) : Type 0 where
  pub plain : reader_trim reader ≡ trim.None
  pub ready : Ready reader
  pub config : reader_config reader ≡ default_config
  pub state : reader_state reader ≡ st.StartRecord
  pub source : source_of rem reader ≡ Some (strip_bom body)

-- whether there is a feed, and it is declared with a header
abbrev pub is_headed : Option Feed → Bool
is_headed None = false
is_headed (Some feed) = feed.header

-- whether the first record of this feed's bodies is a header
abbrev pub has_header : DescOf → (feed : ℕ) → Bool
has_header desc feed = is_headed (slice_get desc.feeds feed)

-- the records after the header, if the feed has one
abbrev pub without_header : DescOf → (feed : ℕ) → List (List (List ℕ)) → List (List (List ℕ))
without_header desc feed records = if has_header desc feed then drop 1 records else records

-- the rows of a body: its records without the header, numbered from 1
abbrev pub rows_of : DescOf → (feed : ℕ) → List ℕ → Result (List DRow) BadRecord
rows_of desc feed body = rows_from desc feed 1 (without_header desc feed (records_of body))

-- a delivery of rows
abbrev pub delivery_with : (feed number closes : ℕ) → Result (List DRow) BadRecord
    → Result DeliveryOf BadRecord
delivery_with feed number closes (Ok rows) =
    Ok (record { feed = feed; number = number; closes = closes; rows = rows })
delivery_with feed number closes (Err bad) = Err bad

-- the delivery that a body brings, or its first bad record
abbrev pub delivery_of : DescOf → (feed number closes : ℕ) → (body : List ℕ)
    → Result DeliveryOf BadRecord
delivery_of desc feed number closes body =
    delivery_with feed number closes (rows_of desc feed body)

-- an answer is the delivery or the first bad record, unless there was no memory
abbrev pub Brings : Result DeliveryOf DeliveryFault → Result DeliveryOf BadRecord → Type 0
Brings (Ok delivery) read = read ≡ Ok delivery
Brings (Err (At bad)) read = read ≡ Err bad
Brings (Err Memory) read = Unit {0}

-- the same of the rows alone
abbrev pub BringsRows : Result (Vec DRow) DeliveryFault → Result (List DRow) BadRecord → Type 0
BringsRows (Ok rows) read = read ≡ Ok rows.items
BringsRows (Err (At bad)) read = read ≡ Err bad
BringsRows (Err Memory) read = Unit {0}

-- the word of a cause
abbrev pub cause_text : RowCause → List ℕ
cause_text cause.NoTable = codes "no_table"
cause_text cause.BadCount = codes "bad_count"
cause_text cause.NotUtf8 = codes "not_utf8"
cause_text cause.LongText = codes "long_text"
cause_text cause.BadInt = codes "bad_int"
cause_text cause.BadTime = codes "bad_time"
