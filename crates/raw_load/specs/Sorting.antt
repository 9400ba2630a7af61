-- Sorting: which rows of a delivery are kept and which are set aside, by what is kept of the feeds.
use Rattle.std.specs.Prelude.{ℕ, ◌≡◌, ◌+◌, ◌≤◌, ◌++◌, Bool, true, false, not, List, Option, Some}
use Rattle.std.specs.Prelude.{None, filter, flat_map, length, map, nat_le, slice_get, take}
use Rattle.std.specs.List.{list_any}
use Rattle.desc_types.specs.declared.table.Key.{Key}
use Rattle.desc_types.specs.declared.delivery.DRow.{DRow}
use Rattle.desc_types.specs.Deliveries.{DeliveryOf}
use Rattle.desc_types.specs.Descriptions.{DescOf}
use Rattle.desc_types.specs.KindValues.{KindOf, Raw, Filter, Group, Join}
use Rattle.desc_types.specs.Tables.{TableOf}
use Rattle.partition_map.specs.Partitions.{end_of}
use Rattle.view_meaning.specs.declared.aside.Aside.{Aside}
use Rattle.view_meaning.specs.SetAside.{aside_at, keys_of, named}
use Rattle.raw_load.specs.declared.piece.Stretch.{Stretch}
use Rattle.raw_load.specs.declared.sorting.Sorted.{Sorted}
use Rattle.raw_load.specs.Stretches.{AddsStretch, TellsRows, run_of}
use Rattle.raw_load.specs.Books.{FeedBookOf, closes_if}

-- whether a feed is closed up to the end of a partition, if a table of this kind has one
abbrev pub is_closed_kind : List FeedBookOf → (end : ℕ) → KindOf → Bool
is_closed_kind feeds end (Raw feed _) = nat_le end (closes_if (slice_get feeds feed))
is_closed_kind feeds end (Filter _ _ _) = false
is_closed_kind feeds end (Group _ _ _) = false
is_closed_kind feeds end (Join _ _ _) = false

-- whether a partition of a table that may be there is closed, by what is kept of the feeds
abbrev pub is_closed_part : List FeedBookOf → (part : ℕ) → Option TableOf → Bool
is_closed_part feeds part None = false
is_closed_part feeds part (Some table) =
    is_closed_kind feeds (end_of table.width part) table.kind

-- whether a partition is closed, by what is kept of the feeds
abbrev pub is_closed_by : DescOf → List FeedBookOf → Key → Bool
is_closed_by desc feeds key = is_closed_part feeds key.part (slice_get desc.tables key.table)

-- whether a row is for one that is
abbrev pub is_late_by : DescOf → List FeedBookOf → DRow → Bool
is_late_by desc feeds row = list_any (is_closed_by desc feeds) (keys_of desc row)

-- the rows that are kept
abbrev pub kept_by : DescOf → List FeedBookOf → List DRow → List DRow
kept_by desc feeds rows = filter (λ row. not (is_late_by desc feeds row)) rows

-- the rows that are set aside
abbrev pub late_by : DescOf → List FeedBookOf → List DRow → List DRow
late_by desc feeds rows = filter (is_late_by desc feeds) rows

-- these by name, if they are of the delivery with this number
abbrev pub asides_by : DescOf → List FeedBookOf → (number : ℕ) → List DRow → List Aside
asides_by desc feeds number rows = flat_map (named desc number) (late_by desc feeds rows)

-- names are those of the rows that are set aside, one of each
pub record NamesLate (desc : DescOf) (feeds : List FeedBookOf) (number : ℕ) (rows : List DRow)
    (names : List Aside) : Type 0 where
  pub exact : names ≡ asides_by desc feeds number rows
  pub counted : length names ≡ length (late_by desc feeds rows)

-- the first rows of a delivery were sorted: each partition has the stretches of those that are
-- kept, and the others are named, in order
pub record SortsRows (desc : DescOf) (feeds : List FeedBookOf) (delivery : DeliveryOf) (upto : ℕ)
    (sorted : Sorted) : Type 0 where
  pub kept : TellsRows desc delivery.rows (kept_by desc feeds (take upto delivery.rows))
      sorted.found.entries
  pub late : NamesLate desc feeds delivery.number (take upto delivery.rows) sorted.asides.items

-- from a row on, so many more were sorted
pub record SortsRun (desc : DescOf) (feeds : List FeedBookOf) (delivery : DeliveryOf)
    (first count : ℕ) (old new : Sorted) : Type 0 where
  pub some : 1 ≤ count
  pub within : first + count ≤ length delivery.rows
  pub kept : SortsRows desc feeds delivery first old
      → SortsRows desc feeds delivery (first + count) new

-- a stretch of a partition is kept, and no row is named
pub record KeepsStretch (key : Key) (stretch : Stretch) (old new : Sorted) : Type 0 where
  pub found : AddsStretch key stretch old.found.entries new.found.entries
  pub asides : new.asides.items ≡ old.asides.items

-- its rows are named, and nothing is kept
pub record NamesStretch (key : Key) (stretch : Stretch) (delivery : DeliveryOf)
    (old new : Sorted) : Type 0 where
  pub found : new.found.entries ≡ old.found.entries
  pub asides : new.asides.items ≡ old.asides.items
      ++ map (λ row. aside_at delivery.number row key.part)
      (run_of delivery.rows stretch.first stretch.count)

-- the one or the other, by whether the partition is closed
abbrev pub PutsStretch : (closed : Bool) → Key → Stretch → DeliveryOf → (old new : Sorted) → Type 0
PutsStretch true key stretch delivery old new = NamesStretch key stretch delivery old new
PutsStretch false key stretch delivery old new = KeepsStretch key stretch old new
