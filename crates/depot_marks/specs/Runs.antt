-- Runs of partitions.
use Rattle.std.specs.Prelude.{ℕ, ◌≡◌, ◌<◌, true, List, flat_map, map}
use Rattle.std.specs.List.{range_with_len}
use Rattle.desc_types.specs.declared.table.Key.{Key}
use Rattle.partition_map.specs.Partitions.{is_met}
use Rattle.partition_map.specs.Time.{END}
use Rattle.view_meaning.specs.Partitions.{key_of}
use Rattle.depot_marks.specs.declared.run.Run.{Run}

-- so many partitions of a table, one after another
abbrev pub run_of : (table first count : ℕ) → List Key
run_of table first count = map (key_of table) (range_with_len first count)

-- the partitions of a run
abbrev pub keys_of_run : Run → List Key
keys_of_run run = run_of run.table run.parts.first run.parts.count

-- the partitions of some runs, one run after another
abbrev pub keys_in : List Run → List Key
keys_in runs = flat_map keys_of_run runs

-- a key is a partition of a table of this width
abbrev pub IsPartOf : (width : ℕ) → Key → Type 0
IsPartOf width key = is_met width 0 END key.part ≡ true

-- a partition's number is below the end of time
abbrev pub IsInTime : Key → Type 0
IsInTime key = key.part < END
