-- Lists of partitions' numbers, one for each table, as the program that computes reached partitions
-- keeps them.
use Rattle.std.specs.Prelude.{ℕ, ◌≡◌, ◌<◌, ◌||◌, ◌&&◌, Bool, true, List, [], map, filter, flat_map}
use Rattle.std.specs.Prelude.{length, slice_get, slice_index_or, if◌then◌else◌, Vec}
use Rattle.std.specs.List.{list_any, range_with_len}
use Rattle.std.specs.declared.alloc.Global.{Global}
use Rattle.desc_types.specs.declared.table.Key.{Key}
use Rattle.desc_types.specs.declared.view.Src.{Src}
use Rattle.desc_types.specs.Descriptions.{DescOf}
use Rattle.desc_types.specs.KindValues.{KindOf}
use Rattle.desc_types.specs.Sources.{table_width}
use Rattle.partition_map.specs.Time.{END}
use Rattle.partition_map.specs.Partitions.{start_of, is_met, has}
use Rattle.view_meaning.specs.Partitions.{is_part, key_of, keys_read}
use Rattle.view_meaning.specs.Versions.{is_raw_kind}
use Rattle.view_meaning.specs.Drains.{view_keys}
use Rattle.view_meaning.specs.Reached.{is_reached}

-- vectors as lists
abbrev pub lists_of : List (Vec ℕ Global) → List (List ℕ)
lists_of lists = map (λ parts. parts.items) lists

-- the list of a table, and none after the last
abbrev pub parts_at : List (List ℕ) → (table : ℕ) → List ℕ
parts_at lists table = slice_index_or lists table []

-- whether a partition's number is in the list of its table
abbrev pub is_listed : List (List ℕ) → Key → Bool
is_listed lists key = has (parts_at lists key.table) key.part

-- a list gains the numbers that pass a test
abbrev pub Gains : (test : ℕ → Bool) → (old new : List ℕ) → Type 0
Gains test old new = (part : ℕ) → has new part ≡ (has old part || test part)

-- each list has the numbers of the table's partitions that gained rows
abbrev pub AreGained : (gained : Key → Bool) → List (List ℕ) → Type 0
AreGained gained lists = (table part : ℕ)
    → has (parts_at lists table) part ≡ gained (key_of table part)

-- each number that is listed is that of a partition that begins in time
abbrev pub AreInTime : DescOf → List (List ℕ) → Type 0
AreInTime desc lists = (key : Key) → is_listed lists key ≡ true
    → start_of (table_width desc key.table) key.part < END

-- whether a number is that of a partition of a view that reads one listed of these sources. With
-- offsets a number after the last partition may read listed ones too.
abbrev pub reads_listed : DescOf → List (List ℕ) → (width : ℕ) → List Src → (part : ℕ) → Bool
reads_listed desc lists width sources part =
    list_any (is_listed lists) (flat_map (keys_read desc width part) sources)
    && is_met width 0 END part

-- the partitions of a view with these numbers, and none if the table is raw
abbrev pub keys_of_view : (table : ℕ) → KindOf → List ℕ → List Key
keys_of_view table kind parts = if is_raw_kind kind then [] else map (key_of table) parts

-- whether a key is a partition that rests on one that gained rows
abbrev pub is_reached_part : DescOf → (gained : Key → Bool) → Key → Bool
is_reached_part desc gained key = is_reached desc gained key && is_part desc key

-- the lists have, of each table that has one, the numbers of the partitions that rest on one that
-- gained rows
abbrev pub AllReached : DescOf → (gained : Key → Bool) → List (List ℕ) → Type 0
AllReached desc gained lists = (table part : ℕ) → table < length lists
    → has (parts_at lists table) part ≡ is_reached_part desc gained (key_of table part)

-- the partitions of a table that rest on one that gained rows, by number, if it is a view
abbrev pub reached_of : DescOf → (gained : Key → Bool) → (table : ℕ) → List Key
reached_of desc gained table =
    filter (is_reached desc gained) (view_keys table (slice_get desc.tables table))

-- the lists are those of the first tables, and the keys those of the views among these
pub record AreUpTo (desc : DescOf) (gained : Key → Bool) (lists : List (List ℕ))
    (keys : List Key) : Type 0 where
  pub listed : AllReached desc gained lists
  pub told : keys ≡ flat_map (reached_of desc gained) (range_with_len 0 (length lists))
