-- Stretches: where the rows of each partition lie in a delivery.
use Rattle.std.specs.Prelude.{ℕ, ◌≡◌, ◌<◌, ◌≤◌, ◌+◌, ◌∷◌, ◌++◌, Bool, true, false, ◌&&◌, List, []}
use Rattle.std.specs.Prelude.{Option, Some, None, All, MatchOption, Vec, length, map, take, drop}
use Rattle.std.specs.Prelude.{flat_map, is_some, nat_le, nat_lt}
use Rattle.std.specs.List.{list_any}
use Rattle.std.specs.Map.{lookup}
use Rattle.std.specs.BTreeMap.{is_at}
use Rattle.std.specs.declared.alloc.Global.{Global}
use Rattle.depot_cell.specs.declared.cell.Cell.{Cell}
use Rattle.desc_types.specs.declared.table.Key.{Key}
use Rattle.desc_types.specs.declared.delivery.DRow.{DRow}
use Rattle.desc_types.specs.Descriptions.{DescOf}
use Rattle.desc_types.specs.Keys.{key_cmp}
use Rattle.desc_types.specs.Sources.{table_width}
use Rattle.partition_map.specs.Time.{END}
use Rattle.partition_map.specs.Partitions.{start_of}
use Rattle.view_meaning.specs.RawValues.{lies_in}
use Rattle.view_meaning.specs.TableRows.{cells_where}
use Rattle.raw_load.specs.declared.piece.Stretch.{Stretch}

-- rows from one on, so many
abbrev pub run_of : List DRow → (first count : ℕ) → List DRow
run_of rows first count = take count (drop first rows)

-- the cells of the rows of a stretch of some rows
abbrev pub stretch_rows : List DRow → Stretch → List (List Cell)
stretch_rows rows stretch =
    map (λ (row : DRow). row.cells) (run_of rows stretch.first stretch.count)

-- the rows of some stretches, stretch by stretch
abbrev pub stretches_rows : List DRow → List Stretch → List (List Cell)
stretches_rows rows stretches = flat_map (stretch_rows rows) stretches

-- a stretch ends within the rows
abbrev pub IsStretchOf : List DRow → Stretch → Type 0
IsStretchOf rows stretch = stretch.first + stretch.count ≤ length rows

-- stretches of each partition, by key
abbrev pub Stretches : Type 0
Stretches = List (Key × Vec Stretch Global)

-- the stretches that may have been found
abbrev pub stretches_in : Option (Vec Stretch Global) → List Stretch
stretches_in None = []
stretches_in (Some stretches) = stretches.items

-- what was found of a partition
abbrev pub found_at : Stretches → Key → Option (Vec Stretch Global)
found_at found key = lookup (is_at (key_cmp key)) found

-- what was found of a partition among those of the rows that are kept: if one of these lies in it,
-- the stretches that have just those that do, in their order
pub record TellsPart (desc : DescOf) (rows kept : List DRow) (key : Key)
    (found : Option (Vec Stretch Global)) : Type 0 where
  pub some : is_some found ≡ list_any (lies_in desc key) kept
  pub exact : stretches_rows rows (stretches_in found) ≡ cells_where (lies_in desc key) kept
  pub within : All (IsStretchOf rows) (stretches_in found)

-- so it is of each partition
abbrev pub TellsRows : DescOf → (rows kept : List DRow) → Stretches → Type 0
TellsRows desc rows kept found =
    (key : Key) → TellsPart desc rows kept key (found_at found key)

-- a partition has one stretch more at its end, and each other one has what it had
pub record AddsStretch (key : Key) (stretch : Stretch) (old new : Stretches) : Type 0 where
  pub some : is_some (found_at new key) ≡ true
  pub gained : stretches_in (found_at new key) ≡ stretches_in (found_at old key) ++ stretch ∷ []
  pub others : (other : Key) → is_at (key_cmp key) other ≡ false
      → found_at new other ≡ found_at old other

-- a row lies in this partition and in no other
abbrev pub LiesOnlyIn : DescOf → Key → DRow → Type 0
LiesOnlyIn desc key row = (other : Key) → lies_in desc other row ≡ is_at (key_cmp key) other

-- a row lies in no partition
abbrev pub LiesNowhere : DescOf → DRow → Type 0
LiesNowhere desc row = (key : Key) → lies_in desc key row ≡ false

-- the key is that of the partition that a row lies in, if there is one
abbrev pub IsKeyOf : DescOf → DRow → Option Key → Type 0
IsKeyOf desc row found =
    MatchOption found (LiesNowhere desc row) (λ key. LiesOnlyIn desc key row)

-- a partition begins in time
abbrev pub IsInTime : DescOf → Key → Type 0
IsInTime desc key = start_of (table_width desc key.table) key.part < END

-- whether a tick is there, from one up to, but not including, another
abbrev pub is_between : (from end : ℕ) → Option ℕ → Bool
is_between from end None = false
is_between from end (Some tick) = nat_le from tick && nat_lt tick end
