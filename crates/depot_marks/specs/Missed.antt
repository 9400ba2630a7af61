-- Of which deliveries of a feed rows were set aside, by partition.
use Rattle.std.specs.Prelude.{ℕ, Bool, false, List, Option, Some, None, IsSome, nat_le}
use Rattle.std.specs.Map.{lookup}
use Rattle.std.specs.BTreeMap.{is_at}
use Rattle.desc_types.specs.declared.table.Key.{Key}
use Rattle.desc_types.specs.Keys.{key_cmp}
use Rattle.partition_map.specs.Partitions.{end_of}
use Rattle.view_meaning.specs.declared.aside.Aside.{Aside}
use Rattle.depot_marks.specs.declared.closings.Closing.{Closing}
use Rattle.depot_marks.specs.Closings.{greatest_at}

-- of partitions the least number of a delivery of which a row was set aside, if there is one
abbrev pub MissedOf : Type 0
MissedOf = List (Key × Option ℕ)

-- whether there is a least number and it goes up to another
abbrev pub is_least_to : Option ℕ → (last : ℕ) → Bool
is_least_to None last = false
is_least_to (Some number) last = nat_le number last

-- whether something was found, with a least number up to another
abbrev pub is_found_to : Option (Option ℕ) → (last : ℕ) → Bool
is_found_to None last = false
is_found_to (Some least) last = is_least_to least last

-- whether a row for a partition, of a delivery up to a number, was set aside
abbrev pub is_missed_to : MissedOf → Key → (last : ℕ) → Bool
is_missed_to missed key last = is_found_to (lookup (is_at (key_cmp key)) missed) last

-- a partition has its place
abbrev pub HasPart : MissedOf → Key → Type 0
HasPart missed key = IsSome (lookup (is_at (key_cmp key)) missed)

-- the partition that a row is for
abbrev pub part_of_aside : Aside → Key
part_of_aside aside = record { table = aside.table; part = aside.part }

-- the partition of a row has its place
abbrev pub HasPartOf : MissedOf → Aside → Type 0
HasPartOf missed aside = HasPart missed (part_of_aside aside)

-- whether something was found, with a least number up to another one if there is one
abbrev pub is_found_in : Option (Option ℕ) → Option ℕ → Bool
is_found_in found None = false
is_found_in found (Some last) = is_found_to found last

-- whether a row for a partition of a table of this width was set aside, of a delivery up to the
-- greatest number that was expected of the partition
abbrev pub is_missed_when : MissedOf → List Closing → (width : ℕ) → Key → Bool
is_missed_when missed closings width key = is_found_in (lookup (is_at (key_cmp key)) missed)
    (greatest_at closings (end_of width key.part))
