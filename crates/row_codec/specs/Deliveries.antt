-- Which delivery some bytes are.
use Rattle.std.specs.Prelude.{ℕ, zero, suc, ◌<◌, ◌^◌, List, [], ◌∷◌, Result, Ok, Option, Some, None}
use Rattle.std.specs.Prelude.{Bool, false, All, length, map, nat_eq, nat_le, nat_lt, set, slice_get}
use Rattle.desc_types.specs.declared.delivery.DRow.{DRow}
use Rattle.desc_types.specs.declared.table.Column.{Column}
use Rattle.desc_types.specs.Deliveries.{DeliveryOf}
use Rattle.desc_types.specs.Descriptions.{DescOf}
use Rattle.desc_types.specs.KindValues.{KindOf, Raw, Filter, Group, Join}
use Rattle.desc_types.specs.Tables.{TableOf}
use Rattle.partition_map.specs.Time.{END}
use Rattle.view_meaning.specs.Journal.{FitsDelivery}
use Rattle.row_codec.specs.declared.field.Wanted.{Wanted}
use Rattle.row_codec.specs.declared.field.Wanted.TheVariants as wanted
use Rattle.row_codec.specs.Reading.{Reader, ◌>>=◌, checked, number_at, row_at, wanted_of, whole}

-- whether a table is a raw one of this feed
abbrev pub is_raw_of : ℕ → KindOf → Bool
is_raw_of feed (Raw its_feed _) = nat_eq its_feed feed
is_raw_of feed (Filter _ _ _) = false
is_raw_of feed (Group _ _ _) = false
is_raw_of feed (Join _ _ _) = false

-- whether there is a table, a raw one of this feed
abbrev pub is_raw_table : (feed : ℕ) → Option TableOf → Bool
is_raw_table feed None = false
is_raw_table feed (Some table) = is_raw_of feed table.kind

-- the number of a raw table's time column: a view has none
abbrev pub time_of : KindOf → ℕ
time_of (Raw _ time) = time
time_of (Filter _ _ _) = 0
time_of (Group _ _ _) = 0
time_of (Join _ _ _) = 0

-- what columns want: a tick in the time column, and a cell of its type in each other
abbrev pub timed_wants : (time : ℕ) → List Column → List Wanted
timed_wants time columns =
    set (map (λ (column : Column). wanted_of column.ty) columns) time wanted.Tick

-- what a row of a raw table wants, if there is one
abbrev pub table_wants : Option TableOf → List Wanted
table_wants None = []
table_wants (Some table) = timed_wants (time_of table.kind) table.columns

-- a row of a raw table of the feed: the number of its record is above that of the row before
unfoldable pub record_at : DescOf → (feed before : ℕ) → Reader DRow
record_at desc feed before bytes = do
  number ← checked (nat_lt before) (number_at 4) bytes
  table ← checked (λ table. is_raw_table feed (slice_get desc.tables table)) (number_at 2) number.1
  cells ← row_at (table_wants (slice_get desc.tables table.0)) table.1
  Ok (record { number = number.0; table = table.0; cells = cells.0 }, cells.1)

-- so many rows of raw tables of the feed
unfoldable pub records_at : DescOf → (feed count before : ℕ) → Reader (List DRow)
records_at desc feed zero before bytes = Ok ([], bytes)
records_at desc feed (suc count) before bytes = do
  row ← record_at desc feed before bytes
  rows ← records_at desc feed count row.0.number row.1
  Ok (row.0 ∷ rows.0, rows.1)

-- a delivery of a feed of the description
unfoldable pub delivery_at : DescOf → Reader DeliveryOf
delivery_at desc bytes = do
  feed ← checked (λ feed. nat_lt feed (length desc.feeds)) (number_at 2) bytes
  number ← number_at 4 feed.1
  closes ← checked (λ closes. nat_le closes END) (number_at 8) number.1
  count ← number_at 4 closes.1
  rows ← records_at desc feed.0 count.0 0 count.1
  Ok (record { feed = feed.0; number = number.0; closes = closes.0; rows = rows.0 }, rows.1)

-- the delivery that bytes are
abbrev pub read_delivery : DescOf → List ℕ → Result DeliveryOf ℕ
read_delivery desc = whole (delivery_at desc)

-- a delivery that fits the description, with record numbers of 32 bits
pub record IsDelivery (desc : DescOf) (delivery : DeliveryOf) : Type 0 where
  pub fits : FitsDelivery desc delivery
  pub short : All (λ (row : DRow). row.number < 2 ^ 32) delivery.rows
