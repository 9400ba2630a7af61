-- Which rows of the accepted deliveries are kept, and which are set aside: those for a partition
-- that deliveries accepted before had closed.
use Rattle.std.specs.Prelude.{ℕ, List, [], ◌∷◌, ◌++◌, ◌+◌, ◌==◌, Bool, not, Option, Some, None}
use Rattle.std.specs.Prelude.{filter, flat_map, map, slice_get, if◌then◌else◌}
use Rattle.std.specs.List.{list_any}
use Rattle.depot_cell.specs.declared.cell.Cell.{Cell}
use Rattle.desc_types.specs.declared.table.Key.{Key}
use Rattle.desc_types.specs.declared.delivery.DRow.{DRow}
use Rattle.desc_types.specs.Deliveries.{DeliveryOf}
use Rattle.desc_types.specs.Descriptions.{DescOf}
use Rattle.desc_types.specs.Tables.{TableOf}
use Rattle.partition_map.specs.Partitions.{parts_met}
use Rattle.view_meaning.specs.declared.aside.Aside.{Aside}
use Rattle.view_meaning.specs.Journal.{row_tick}
use Rattle.view_meaning.specs.Closing.{is_closed_in}

-- the partitions that cover a tick, by number: one, if it lies in time
unfoldable pub parts_covering : (width tick : ℕ) → List ℕ
parts_covering width tick = parts_met width tick (tick + 1)

-- the partitions that cover a tick that may be there
abbrev pub parts_at_tick : (width : ℕ) → Option ℕ → List ℕ
parts_at_tick width None = []
parts_at_tick width (Some tick) = parts_covering width tick

-- the partitions of this table that cells of it lie in
abbrev pub parts_of : Option TableOf → List Cell → List ℕ
parts_of None cells = []
parts_of (Some table) cells = parts_at_tick table.width (row_tick table.kind cells)

-- the partition that a row is for, in a list
abbrev pub keys_of : DescOf → DRow → List Key
keys_of desc row = map (λ part. record { table = row.table; part = part })
    (parts_of (slice_get desc.tables row.table) row.cells)

-- whether the deliveries accepted before closed the partition that a row is for
abbrev pub is_late : DescOf → List DeliveryOf → DRow → Bool
is_late desc before row = list_any (is_closed_in desc before) (keys_of desc row)

-- the rows that a delivery keeps, if these were accepted before it
abbrev pub kept_rows : DescOf → List DeliveryOf → DeliveryOf → List DRow
kept_rows desc before delivery = filter (λ row. not (is_late desc before row)) delivery.rows

-- the rows that a delivery sets aside
abbrev pub aside_rows : DescOf → List DeliveryOf → DeliveryOf → List DRow
aside_rows desc before delivery = filter (is_late desc before) delivery.rows

-- the rows kept of deliveries that were accepted one by one after those before
abbrev pub kept_after : DescOf → (before accepted : List DeliveryOf) → List DRow
kept_after desc before [] = []
kept_after desc before (delivery ∷ later) =
    kept_rows desc before delivery ++ kept_after desc (before ++ delivery ∷ []) later

-- all rows kept of the accepted deliveries, in order of acceptance, then of record
abbrev pub kept : DescOf → List DeliveryOf → List DRow
kept desc accepted = kept_after desc [] accepted

-- the name of a row of the delivery with this number, which is for this partition of its table
abbrev pub aside_at : (number : ℕ) → DRow → (part : ℕ) → Aside
aside_at number row part = record {
  number = number;
  row = row.number;
  table = row.table;
  part = part;
}

-- the name of a row of the delivery with this number, in a list
abbrev pub named : DescOf → (number : ℕ) → DRow → List Aside
named desc number row =
    map (aside_at number row) (parts_of (slice_get desc.tables row.table) row.cells)

-- the rows that a delivery sets aside, by name
abbrev pub asides_of : DescOf → List DeliveryOf → DeliveryOf → List Aside
asides_of desc before delivery =
    flat_map (named desc delivery.number) (aside_rows desc before delivery)

-- the rows set aside of those deliveries that pass a test, if all were accepted one by one after
-- those before
abbrev pub asides_after : DescOf → (of : DeliveryOf → Bool) → (before accepted : List DeliveryOf)
    → List Aside
asides_after desc of before [] = []
asides_after desc of before (delivery ∷ later) =
    (if of delivery then asides_of desc before delivery else [])
    ++ asides_after desc of (before ++ delivery ∷ []) later

-- the rows of a feed that are set aside, in order of acceptance, then of record
abbrev pub asides : DescOf → List DeliveryOf → (feed : ℕ) → List Aside
asides desc accepted feed = asides_after desc (λ delivery. delivery.feed == feed) [] accepted
