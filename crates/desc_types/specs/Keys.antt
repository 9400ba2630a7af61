-- The order of partitions.
use Rattle.std.specs.declared.cmp.Ordering.{Ordering}
use Rattle.std.specs.Ordering.{nat_cmp, ordering_then}
use Rattle.desc_types.specs.declared.table.Key.{Key}

-- keys go by their tables, then by their numbers
abbrev pub key_cmp : Key → Key → Ordering
key_cmp key other = ordering_then (nat_cmp key.table other.table) (nat_cmp key.part other.part)
