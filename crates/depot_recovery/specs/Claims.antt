-- Which entries may follow a journal, as tests.
use Rattle.std.specs.Prelude.{◌&&◌, Bool, List, drop, length, nat_le, not, take}
use Rattle.std.specs.List.{list_all, list_any}
use Rattle.desc_types.specs.declared.table.Key.{Key}
use Rattle.desc_types.specs.Descriptions.{DescOf}
use Rattle.view_meaning.specs.declared.journal.Entry.{Entry}
use Rattle.view_meaning.specs.declared.journal.Entry.TheVariants as entry
use Rattle.view_meaning.specs.Journal.{is_repeat}
use Rattle.view_meaning.specs.Partitions.{is_part, sources_of}
use Rattle.view_meaning.specs.Staleness.{is_settled, is_stale}
use Rattle.view_meaning.specs.Versions.{installs}

-- whether a partition may be claimed after a journal: it is stale, and its sources are settled
abbrev pub may_claim : DescOf → List Entry → Key → Bool
may_claim desc journal key = is_part desc key && is_stale desc journal key
    && list_all (is_settled desc journal) (sources_of desc key)

-- whether an entry may follow a journal
abbrev pub may_follow : DescOf → List Entry → Entry → Bool
may_follow desc journal (entry.Load delivery) = not (is_repeat journal delivery)
may_follow desc journal (entry.Install key at) = nat_le at (length journal)
    && may_claim desc (take at journal) key
    && not (list_any (installs key) (drop at journal))
