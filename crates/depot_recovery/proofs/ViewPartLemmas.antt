-- A key with which an install fits passes the test whether it names a partition of a view
-- (`is_view_part`).
use Rattle.std.proofs.Common.{◌≡◌, ◌&&◌, ◌<◌, ◌≤◌, true, false, not, ℕ, refl, slice_get, arith}
use Rattle.std.specs.Prelude.{max, min, IsSomeAnd, Option, None, Some}
use Rattle.std.proofs.lemmas.Bool.{and_from, lt-ltb, not_from_false}
use Rattle.desc_types.specs.declared.table.Key.{Key}
use Rattle.desc_types.specs.Accepted.{IsAccepted}
use Rattle.desc_types.specs.Descriptions.{DescOf}
use Rattle.desc_types.specs.KindValues.{KindOf, Raw, Filter, Group, Join}
use Rattle.desc_types.specs.Sources.{width_of}
use Rattle.desc_types.specs.Tables.{TableOf}
use Rattle.partition_map.specs.Partitions.{end_of, is_met, start_of}
use Rattle.partition_map.specs.Time.{END}
use Rattle.view_meaning.specs.declared.journal.Entry.TheVariants as entry
use Rattle.view_meaning.specs.Journal.{FitsEntry, IsPartOfView, IsView}
use Rattle.view_meaning.specs.Versions.{is_raw, is_raw_kind}
use Rattle.depot_recovery.specs.Found.{is_view_part}

-- a view is not raw
is_raw_kind-IsView : (kind : KindOf) → IsView kind → is_raw_kind kind ≡ false
is_raw_kind-IsView (Raw feed time) view = absurd view
is_raw_kind-IsView (Filter src conds keep) view = refl
is_raw_kind-IsView (Group src keys aggs) view = refl
is_raw_kind-IsView (Join left right pairs) view = refl

-- so a partition of a view is not of a raw table
pub is_raw-IsPartOfView : (key : Key) (found : Option TableOf)
    → IsSomeAnd found (IsPartOfView key) → is_raw found ≡ false
is_raw-IsPartOfView key None part = absurd part
is_raw-IsPartOfView key (Some table) part = is_raw_kind-IsView table.kind part.view

-- a partition that begins in time shares a tick with it
is_met-begun : (width part : ℕ) → 1 ≤ width → start_of width part < END
    → is_met width 0 END part ≡ true
is_met-begun width part some begun =
    lt-ltb (max (start_of width part) 0) (min (end_of width part) END) (omega arith)

-- a key with which an install fits names a partition of a view
pub is_view_part-FitsEntry : (desc : DescOf) (key : Key) (at : ℕ) → IsAccepted desc
    → FitsEntry desc (entry.Install key at) → is_view_part desc key ≡ true
is_view_part-FitsEntry desc key at accepted fits =
    at_table (slice_get desc.tables key.table) refl fits
  where
    at_table : (found : Option TableOf) → slice_get desc.tables key.table ≡ found
        → IsSomeAnd found (IsPartOfView key)
        → (is_met (width_of found) 0 END key.part && not (is_raw found)) ≡ true
    at_table None same part = absurd part
    at_table (Some table) same part =
        and_from (is_met table.width 0 END key.part) (not (is_raw_kind table.kind))
        (is_met-begun table.width key.part (accepted.each key.table table same).width.some
        part.in_time)
        (not_from_false (is_raw_kind table.kind) (is_raw_kind-IsView table.kind part.view))
