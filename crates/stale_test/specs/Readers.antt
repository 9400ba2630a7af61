-- The partitions that read one of some partitions.
use Rattle.std.specs.Prelude.{◌≡◌, ◌&&◌, Bool, List}
use Rattle.std.specs.List.{list_any}
use Rattle.desc_types.specs.declared.table.Key.{Key}
use Rattle.desc_types.specs.Descriptions.{DescOf}
use Rattle.view_meaning.specs.Drains.{all_view_keys}
use Rattle.view_meaning.specs.Partitions.{is_among, sources_of}

-- whether a partition reads one of some keys
abbrev pub reads : DescOf → (keys : List Key) → Key → Bool
reads desc keys key = list_any (is_among keys) (sources_of desc key)

-- the readers of some keys: the partitions of views that read one of them
abbrev pub AreReaders : DescOf → (keys readers : List Key) → Type 0
AreReaders desc keys readers = (key : Key)
    → is_among readers key ≡ (is_among (all_view_keys desc) key && reads desc keys key)
