-- Partitions without ticks, as those of a table that is not there.
use Rattle.std.proofs.Common.{◌≡◌, ℕ, get_or, arith}
use Rattle.std.specs.Prelude.{min, max, false}
use Rattle.std.specs.List.{range_with_len}
use Rattle.std.proofs.lemmas.Bool.{le-ltb}
use Rattle.partition_map.specs.Partitions.{start_of, end_of, is_met, parts_met}
use Rattle.partition_map.proofs.ListLemmas.{filter-none}

-- a partition with no ticks shares none with a span
pub is_met-no_width : (from to part : ℕ) → is_met 0 from to part ≡ false
is_met-no_width from to part =
    le-ltb (max (start_of 0 part) from) (min (end_of 0 part) to) (omega arith)

-- if partitions have no ticks, none shares one with a span
pub parts_met-no_width : (from to : ℕ) → parts_met 0 from to ≡ range_with_len 0 0
parts_met-no_width from to =
    filter-none (is_met 0 from to) (range_with_len 0 to)
    (λ index default _. is_met-no_width from to (get_or (range_with_len 0 to) index default))
