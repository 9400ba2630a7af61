-- Which partitions are stale, and which are settled.
use Rattle.std.specs.Prelude.{ℕ, zero, suc, List, Bool, true, not, ◌&&◌, nat_eq}
use Rattle.std.specs.List.{list_all}
use Rattle.std.specs.Cmp.Lexicographic.{pointwise}
use Rattle.desc_types.specs.declared.table.Key.{Key}
use Rattle.desc_types.specs.Descriptions.{DescOf}
use Rattle.view_meaning.specs.declared.journal.Entry.{Entry}
use Rattle.view_meaning.specs.Partitions.{sources_of}
use Rattle.view_meaning.specs.Versions.{current, recorded}

-- whether a source has another version than the last install recorded. A raw partition has no
-- sources and is never stale.
abbrev pub is_stale : DescOf → List Entry → Key → Bool
is_stale desc journal key =
    not (pointwise nat_eq (recorded desc journal key) (current desc journal key))

-- whether a partition and all below it, down through at most so many tables, are not stale
abbrev pub is_settled_within : ℕ → DescOf → List Entry → Key → Bool
is_settled_within zero desc journal key = true
is_settled_within (suc depth) desc journal key = not (is_stale desc journal key)
    && list_all (is_settled_within depth desc journal) (sources_of desc key)

-- whether a partition is settled: it is not stale, and all its sources are settled
abbrev pub is_settled : DescOf → List Entry → Key → Bool
is_settled desc journal key = is_settled_within (suc key.table) desc journal key
