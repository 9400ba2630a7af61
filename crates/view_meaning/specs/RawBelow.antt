-- The raw partitions that a partition rests on.
use Rattle.std.specs.Prelude.{ℕ, zero, suc, List, [], ◌∷◌, flat_map, slice_get, if◌then◌else◌}
use Rattle.desc_types.specs.declared.table.Key.{Key}
use Rattle.desc_types.specs.Descriptions.{DescOf}
use Rattle.view_meaning.specs.Partitions.{sources_of}
use Rattle.view_meaning.specs.Versions.{is_raw}

-- the raw partitions below a partition, down through at most so many tables
abbrev pub raw_below_within : (depth : ℕ) → DescOf → Key → List Key
raw_below_within zero desc key = []
raw_below_within (suc depth) desc key = if is_raw (slice_get desc.tables key.table) then key ∷ []
    else flat_map (raw_below_within depth desc) (sources_of desc key)

-- the raw partitions below a partition: a raw one is below itself
abbrev pub raw_below : DescOf → Key → List Key
raw_below desc key = raw_below_within (suc key.table) desc key
