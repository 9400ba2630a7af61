-- Which deliveries close a partition of a raw table: after them no more rows of it are expected.
use Rattle.std.specs.Prelude.{ℕ, List, Option, Some, None, Bool, false, ◌&&◌, ◌==◌, nat_le}
use Rattle.std.specs.Prelude.{slice_get}
use Rattle.std.specs.List.{list_any}
use Rattle.desc_types.specs.declared.table.Key.{Key}
use Rattle.desc_types.specs.Deliveries.{DeliveryOf}
use Rattle.desc_types.specs.Descriptions.{DescOf}
use Rattle.desc_types.specs.Tables.{TableOf}
use Rattle.desc_types.specs.KindValues.{KindOf, Raw, Filter, Group, Join}
use Rattle.desc_types.specs.Sources.{table_width}
use Rattle.partition_map.specs.Partitions.{end_of}

-- whether a kind is that of a raw table of the feed
abbrev pub is_fed : (feed : ℕ) → KindOf → Bool
is_fed feed (Raw its_feed _) = its_feed == feed
is_fed feed (Filter _ _ _) = false
is_fed feed (Group _ _ _) = false
is_fed feed (Join _ _ _) = false

-- whether there is such a table and the feed is its
abbrev pub is_fed_by : (feed : ℕ) → Option TableOf → Bool
is_fed_by feed None = false
is_fed_by feed (Some table) = is_fed feed table.kind

-- whether a delivery is of the feed of a partition's table
abbrev pub is_for : DescOf → Key → DeliveryOf → Bool
is_for desc key delivery = is_fed_by delivery.feed (slice_get desc.tables key.table)

-- the tick after the last one of a partition
abbrev pub part_end : DescOf → Key → ℕ
part_end desc key = end_of (table_width desc key.table) key.part

-- whether a delivery closes a partition: it is of its feed, and tells that no rows below the
-- partition's end are expected after it
abbrev pub closes : DescOf → Key → DeliveryOf → Bool
closes desc key delivery = is_for desc key delivery && nat_le (part_end desc key) delivery.closes

-- whether one of the accepted deliveries closed a partition
abbrev pub is_closed_in : DescOf → List DeliveryOf → Key → Bool
is_closed_in desc accepted key = list_any (closes desc key) accepted
