-- The partitions of a description: which keys name one, and which are the sources of a view's
-- partition.
use Rattle.std.specs.Prelude.{ℕ, Bool, ◌&&◌, ◌==◌, List, [], Option, Some, None, slice_get, map}
use Rattle.std.specs.Prelude.{flat_map}
use Rattle.std.specs.List.{list_any}
use Rattle.desc_types.specs.declared.table.Key.{Key}
use Rattle.partition_map.specs.Partitions.{is_met, source_parts}
use Rattle.desc_types.specs.declared.view.Src.{Src}
use Rattle.desc_types.specs.Descriptions.{DescOf}
use Rattle.desc_types.specs.Tables.{TableOf}
use Rattle.partition_map.specs.Time.{END}
use Rattle.desc_types.specs.Sources.{table_width, kind_sources}

-- the partition of a table with a number
abbrev pub key_of : (table part : ℕ) → Key
key_of table part = record { table = table; part = part }

-- whether two keys are the same
abbrev pub is_key : Key → Key → Bool
is_key key other = (other.table == key.table) && (other.part == key.part)

-- whether a key is one of a list
abbrev pub is_among : List Key → Key → Bool
is_among keys key = list_any (is_key key) keys

-- whether a key names a partition of its table: one that shares a tick with time
abbrev pub is_part : DescOf → Key → Bool
is_part desc key = is_met (table_width desc key.table) 0 END key.part

-- the partitions of one source that a view's partition reads, by number
abbrev pub keys_read : DescOf → (width part : ℕ) → Src → List Key
keys_read desc width part src = map (λ source. record { table = src.table; part = source })
    (source_parts width (table_width desc src.table) src.span part)

-- the source partitions of a partition of this table, source by source
abbrev pub keys_below : DescOf → (part : ℕ) → Option TableOf → List Key
keys_below desc part None = []
keys_below desc part (Some table) =
    flat_map (keys_read desc table.width part) (kind_sources table.kind)

-- the source partitions of a partition: a raw one has none
abbrev pub sources_of : DescOf → Key → List Key
sources_of desc key = keys_below desc key.part (slice_get desc.tables key.table)
