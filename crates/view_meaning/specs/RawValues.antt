-- The rows of a raw table's partition.
use Rattle.std.specs.Prelude.{ℕ, List, Option, Some, None, Bool, false, ◌&&◌, ◌==◌, map, filter}
use Rattle.std.specs.Prelude.{slice_get}
use Rattle.depot_cell.specs.declared.cell.Cell.{Cell}
use Rattle.desc_types.specs.declared.table.Key.{Key}
use Rattle.desc_types.specs.declared.delivery.DRow.{DRow}
use Rattle.desc_types.specs.Deliveries.{DeliveryOf}
use Rattle.desc_types.specs.Descriptions.{DescOf}
use Rattle.desc_types.specs.Tables.{TableOf}
use Rattle.partition_map.specs.Partitions.{is_covered}
use Rattle.view_meaning.specs.Journal.{row_tick}
use Rattle.view_meaning.specs.SetAside.{kept}

-- whether the partition covers a tick that is there
abbrev pub covers_tick : (width part : ℕ) → Option ℕ → Bool
covers_tick width part None = false
covers_tick width part (Some tick) = is_covered width part tick

-- whether cells of a table lie in a partition of it
abbrev pub holds_cells : Option TableOf → ℕ → List Cell → Bool
holds_cells None part cells = false
holds_cells (Some table) part cells = covers_tick table.width part (row_tick table.kind cells)

-- whether a row lies in a partition: it is a row of its table, at a tick that the partition covers
abbrev pub lies_in : DescOf → Key → DRow → Bool
lies_in desc key row = (row.table == key.table)
    && holds_cells (slice_get desc.tables key.table) key.part row.cells

-- the kept rows of the partition, in order of acceptance, then of record
abbrev pub raw_value : DescOf → List DeliveryOf → Key → List (List Cell)
raw_value desc accepted key =
    map (λ (row : DRow). row.cells) (filter (lies_in desc key) (kept desc accepted))
