-- What a drain does: it installs each partition of a view that is not settled.
use Rattle.std.specs.Prelude.{ℕ, ◌≡◌, List, [], ◌∷◌, ◌++◌, Option, Some, None, true, not, fold}
use Rattle.std.specs.Prelude.{filter, flat_map, map, length, slice_get, if◌then◌else◌}
use Rattle.std.specs.List.{range_with_len}
use Rattle.desc_types.specs.declared.table.Key.{Key}
use Rattle.desc_types.specs.Descriptions.{DescOf}
use Rattle.desc_types.specs.Tables.{TableOf}
use Rattle.view_meaning.specs.declared.journal.Entry.{Entry}
use Rattle.view_meaning.specs.declared.journal.Entry.TheVariants as entry
use Rattle.desc_types.specs.Sources.{HasEarlierSources}
use Rattle.partition_map.specs.Partitions.{all_parts}
use Rattle.view_meaning.specs.Partitions.{is_part}
use Rattle.view_meaning.specs.Journal.{FitsJournal}
use Rattle.view_meaning.specs.Versions.{is_raw_kind}
use Rattle.view_meaning.specs.Staleness.{is_settled}
use Rattle.view_meaning.specs.LegalJournals.{IsLegal}

-- the partitions of a table with this number, by number, if it is a view
abbrev pub view_keys : (number : ℕ) → Option TableOf → List Key
view_keys number None = []
view_keys number (Some table) = if is_raw_kind table.kind then []
    else map (λ part. record { table = number; part = part }) (all_parts table.width)

-- the partitions of all views, in order of key
abbrev pub all_view_keys : DescOf → List Key
all_view_keys desc = flat_map (λ number. view_keys number (slice_get desc.tables number))
    (range_with_len 0 (length desc.tables))

-- the partitions of views that are not settled, in order of key
abbrev pub unsettled : DescOf → List Entry → List Key
unsettled desc journal = filter (λ key. not (is_settled desc journal key)) (all_view_keys desc)

-- a journal with one install more, that counts all entries before it
abbrev pub with_install : List Entry → Key → List Entry
with_install journal key = journal ++ entry.Install key (length journal) ∷ []

-- a journal after a drain: each partition of a view that was not settled is installed, in order of
-- key
abbrev pub drained : DescOf → List Entry → List Entry
drained desc journal = fold with_install journal (unsettled desc journal)

-- a drain of a journal that fits the description leaves one
abbrev pub HasFittingDrains : Type 0
HasFittingDrains = (desc : DescOf) (journal : List Entry)
    → FitsJournal desc journal → FitsJournal desc (drained desc journal)

-- a drain of a legal journal leaves a legal one
abbrev pub HasLegalDrains : Type 0
HasLegalDrains = (desc : DescOf) (journal : List Entry) → HasEarlierSources desc
    → IsLegal desc journal → IsLegal desc (drained desc journal)

-- after a drain of a legal journal each partition is settled
abbrev pub HasSettlingDrains : Type 0
HasSettlingDrains = (desc : DescOf) (journal : List Entry) (key : Key) → HasEarlierSources desc
    → IsLegal desc journal → is_part desc key ≡ true
    → is_settled desc (drained desc journal) key ≡ true
