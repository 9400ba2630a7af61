-- Journals: what was accepted, in order, and what of it fits a description.
use Rattle.std.specs.Prelude.{ℕ, ◌<◌, ◌≤◌, ◌≡◌, ◌^◌, ◌==◌, ◌&&◌, Bool, List, Option, Some, None}
use Rattle.std.specs.Prelude.{IsSomeAnd, slice_get, pos, negsuc, length, ⊤, All, filter_map}
use Rattle.std.specs.List.{AllZip, AllAdjacentBelow, list_any}
use Rattle.depot_cell.specs.declared.cell.Cell.{Cell}
use Rattle.depot_cell.specs.declared.cell.Cell.TheVariants as cell
use Rattle.depot_cell.specs.Cells.{ty_of, IsCell}
use Rattle.desc_types.specs.declared.table.Column.{Column}
use Rattle.desc_types.specs.declared.table.Key.{Key}
use Rattle.desc_types.specs.declared.delivery.DRow.{DRow}
use Rattle.desc_types.specs.Deliveries.{DeliveryOf}
use Rattle.desc_types.specs.Descriptions.{DescOf}
use Rattle.desc_types.specs.Tables.{TableOf}
use Rattle.desc_types.specs.KindValues.{KindOf, Raw, Filter, Group, Join}
use Rattle.view_meaning.specs.declared.journal.Entry.{Entry}
use Rattle.view_meaning.specs.declared.journal.Entry.TheVariants as entry
use Rattle.partition_map.specs.Time.{END}
use Rattle.partition_map.specs.Partitions.{start_of}

-- the delivery of a load
abbrev pub delivery_of : Entry → Option DeliveryOf
delivery_of (entry.Load delivery) = Some delivery
delivery_of (entry.Install _ _) = None

-- the accepted deliveries of a journal, in order
abbrev pub accepted : List Entry → List DeliveryOf
accepted journal = filter_map delivery_of journal

-- whether two deliveries are of one feed and number
abbrev pub is_same : DeliveryOf → DeliveryOf → Bool
is_same delivery other = (other.feed == delivery.feed) && (other.number == delivery.number)

-- whether the feed of a delivery has accepted its number
abbrev pub is_repeat : List Entry → DeliveryOf → Bool
is_repeat journal delivery = list_any (is_same delivery) (accepted journal)

-- the tick that a time cell holds: an int that is not below 0
abbrev pub tick_of : Option Cell → Option ℕ
tick_of None = None
tick_of (Some (cell.Int (pos tick))) = Some tick
tick_of (Some (cell.Int (negsuc _))) = None
tick_of (Some (cell.Text _)) = None

-- the tick of a row of a raw table
abbrev pub row_tick : KindOf → List Cell → Option ℕ
row_tick (Raw _ time) cells = tick_of (slice_get cells time)
row_tick (Filter _ _ _) cells = None
row_tick (Group _ _ _) cells = None
row_tick (Join _ _ _) cells = None

-- the table is a raw one of this feed
abbrev pub IsRawOf : ℕ → KindOf → Type 0
IsRawOf feed (Raw its_feed _) = its_feed ≡ feed
IsRawOf feed (Filter _ _ _) = ⊥
IsRawOf feed (Group _ _ _) = ⊥
IsRawOf feed (Join _ _ _) = ⊥

-- the table is a view
abbrev pub IsView : KindOf → Type 0
IsView (Raw _ _) = ⊥
IsView (Filter _ _ _) = ⊤
IsView (Group _ _ _) = ⊤
IsView (Join _ _ _) = ⊤

-- the cells are a row of this raw table of the feed: each is an int of 64 bits or a short text
pub record IsRowOf (feed : ℕ) (row : List Cell) (table : TableOf) : Type 0 where
  pub of_feed : IsRawOf feed table.kind
  pub cells : All IsCell row
  pub typed : AllZip (λ (column : Column) cell. ty_of cell ≡ column.ty) table.columns row
  pub in_time : IsSomeAnd (row_tick table.kind row) (λ tick. tick < END)

-- the row is one of a raw table of the feed
abbrev pub FitsRow : DescOf → ℕ → DRow → Type 0
FitsRow desc feed row = IsSomeAnd (slice_get desc.tables row.table) (IsRowOf feed row.cells)

-- the delivery is one of a feed of the description, and its record numbers rise from 1 on
pub record FitsDelivery (desc : DescOf) (delivery : DeliveryOf) : Type 0 where
  pub of_feed : delivery.feed < length desc.feeds
  pub numbered : delivery.number < 2 ^ 32
  pub in_time : delivery.closes ≤ END
  pub rows : All (FitsRow desc delivery.feed) delivery.rows
  pub from_one : All (λ (row : DRow). 1 ≤ row.number) delivery.rows
  pub rising : AllAdjacentBelow (λ (row next : DRow). row.number < next.number)
      delivery.rows (length delivery.rows)

-- the key is a partition of a view
pub record IsPartOfView (key : Key) (table : TableOf) : Type 0 where
  pub view : IsView table.kind
  pub in_time : start_of table.width key.part < END

-- the entry speaks of feeds, tables and partitions of the description
abbrev pub FitsEntry : DescOf → Entry → Type 0
FitsEntry desc (entry.Load delivery) = FitsDelivery desc delivery
FitsEntry desc (entry.Install key _) =
    IsSomeAnd (slice_get desc.tables key.table) (IsPartOfView key)

-- so does each entry of the journal
abbrev pub FitsJournal : DescOf → List Entry → Type 0
FitsJournal desc journal = All (FitsEntry desc) journal
