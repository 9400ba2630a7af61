-- Which partitions rest on raw ones that gained rows. If all was settled before, these are the ones
-- to be computed.
use Rattle.std.specs.Prelude.{ℕ, zero, suc, ◌≡◌, List, ◌++◌, Bool, true, false, ◌||◌, filter, map}
use Rattle.std.specs.Prelude.{nat_lt}
use Rattle.std.specs.List.{list_any}
use Rattle.desc_types.specs.declared.table.Key.{Key}
use Rattle.desc_types.specs.Deliveries.{DeliveryOf}
use Rattle.desc_types.specs.Descriptions.{DescOf}
use Rattle.view_meaning.specs.declared.journal.Entry.{Entry}
use Rattle.view_meaning.specs.declared.journal.Entry.TheVariants as entry
use Rattle.desc_types.specs.Sources.{HasEarlierSources}
use Rattle.view_meaning.specs.Partitions.{is_part, sources_of}
use Rattle.view_meaning.specs.Journal.{accepted}
use Rattle.view_meaning.specs.Versions.{loads_after}
use Rattle.view_meaning.specs.Staleness.{is_settled}
use Rattle.view_meaning.specs.LegalJournals.{IsLegal}
use Rattle.view_meaning.specs.Drains.{all_view_keys, unsettled}

-- whether one of the deliveries that were accepted after those before keeps a row in a partition
abbrev pub brings : DescOf → (before deliveries : List DeliveryOf) → Key → Bool
brings desc before deliveries key = nat_lt 0 (loads_after desc key before deliveries)

-- whether a partition gained rows, or one below it did, down through at most so many tables
abbrev pub is_reached_within : ℕ → DescOf → (gained : Key → Bool) → Key → Bool
is_reached_within zero desc gained key = false
is_reached_within (suc depth) desc gained key = gained key
    || list_any (is_reached_within depth desc gained) (sources_of desc key)

-- whether a partition gained rows, or one below it did
abbrev pub is_reached : DescOf → (gained : Key → Bool) → Key → Bool
is_reached desc gained key = is_reached_within (suc key.table) desc gained key

-- the partitions of views that rest on one that gained rows, in order of key
abbrev pub reached : DescOf → (gained : Key → Bool) → List Key
reached desc gained = filter (is_reached desc gained) (all_view_keys desc)

-- if each partition was settled, those that rest on one in which new deliveries keep a row are the
-- unsettled ones
abbrev pub HasReachedUnsettled : Type 0
HasReachedUnsettled = (desc : DescOf) (journal : List Entry) (deliveries : List DeliveryOf)
    → HasEarlierSources desc → IsLegal desc journal
    → ((key : Key) → is_part desc key ≡ true → is_settled desc journal key ≡ true)
    → unsettled desc (journal ++ map entry.Load deliveries)
    ≡ reached desc (brings desc (accepted journal) deliveries)
