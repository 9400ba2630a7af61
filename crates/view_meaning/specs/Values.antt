-- The value from scratch: what a partition's rows are, by only the accepted deliveries.
use Rattle.std.specs.Prelude.{ℕ, zero, suc, List, [], Option, Some, None, flat_map, slice_get}
use Rattle.std.specs.Prelude.{if◌then◌else◌}
use Rattle.depot_cell.specs.declared.cell.Cell.{Cell}
use Rattle.desc_types.specs.declared.table.Key.{Key}
use Rattle.desc_types.specs.declared.view.Src.{Src}
use Rattle.desc_types.specs.Deliveries.{DeliveryOf}
use Rattle.desc_types.specs.Descriptions.{DescOf}
use Rattle.desc_types.specs.KindValues.{KindOf}
use Rattle.desc_types.specs.Sources.{kind_sources}
use Rattle.desc_types.specs.Tables.{TableOf}
use Rattle.view_meaning.specs.Partitions.{keys_read}
use Rattle.view_meaning.specs.RawValues.{raw_value}
use Rattle.view_meaning.specs.Operations.{operation}
use Rattle.view_meaning.specs.Versions.{is_raw_kind}

-- the rows of a source, joined in order of partition, if each partition has these rows
abbrev pub joined : DescOf → (rows : Key → List (List Cell)) → (width part : ℕ) → Src
    → List (List Cell)
joined desc rows width part src = flat_map rows (keys_read desc width part src)

-- the rows of a source, and none if there is no such source
abbrev pub rows_at : (Src → List (List Cell)) → Option Src → List (List Cell)
rows_at rows None = []
rows_at rows (Some src) = rows src

-- what a table of this kind makes of its sources, if each source has these rows
abbrev pub made_of : KindOf → (Src → List (List Cell)) → List (List Cell)
made_of kind rows = operation kind (rows_at rows (slice_get (kind_sources kind) 0))
    (rows_at rows (slice_get (kind_sources kind) 1))

-- the value of a partition of this table, if the partitions of earlier tables have these rows
abbrev pub value_over : DescOf → List DeliveryOf → (rows : Key → List (List Cell)) → Key
    → Option TableOf → List (List Cell)
value_over desc accepted rows key None = []
value_over desc accepted rows key (Some table) =
    if is_raw_kind table.kind then raw_value desc accepted key
    else made_of table.kind (joined desc rows table.width key.part)

-- the value of a partition, down through at most so many tables
abbrev pub value_within : ℕ → DescOf → List DeliveryOf → Key → List (List Cell)
value_within zero desc accepted key = []
value_within (suc depth) desc accepted key =
    value_over desc accepted (value_within depth desc accepted) key
    (slice_get desc.tables key.table)

-- the value of a partition: each source is an earlier table
abbrev pub value : DescOf → List DeliveryOf → Key → List (List Cell)
value desc accepted key = value_within (suc key.table) desc accepted key
