-- What an answer shows of the partitions that a request asks for.
use Rattle.std.specs.Prelude.{ℕ, ◌≡◌, Bool, List, map, filter, length, take, nat_le, slice_get}
use Rattle.std.specs.Prelude.{if◌then◌else◌}
use Rattle.depot_cell.specs.declared.cell.Cell.{Cell}
use Rattle.desc_types.specs.declared.table.Key.{Key}
use Rattle.desc_types.specs.Descriptions.{DescOf}
use Rattle.view_meaning.specs.declared.journal.Entry.{Entry}
use Rattle.view_meaning.specs.declared.request.Item.{Item}
use Rattle.view_meaning.specs.declared.request.Mark.{Mark}
use Rattle.view_meaning.specs.declared.request.MarkItem.{MarkItem}
use Rattle.view_meaning.specs.declared.request.PinItem.{PinItem}
use Rattle.desc_types.specs.Sources.{HasEarlierSources, table_width}
use Rattle.partition_map.specs.Partitions.{parts_met}
use Rattle.view_meaning.specs.Journal.{accepted}
use Rattle.view_meaning.specs.Values.{value}
use Rattle.view_meaning.specs.Versions.{is_raw, last_place, version}
use Rattle.view_meaning.specs.LegalJournals.{IsLegal}
use Rattle.view_meaning.specs.Contents.{content}
use Rattle.view_meaning.specs.Ranks.{rank_of}
use Rattle.view_meaning.specs.Marks.{mark_of}

-- a partition with what is told of it, and its rows
pub record ShownPart : Type 0 where
  pub item : PinItem
  pub rows : List (List Cell)

-- the place up to which a partition's rows count deliveries: of a raw one the end of the journal,
-- of a view's that of its last install
abbrev pub upto : DescOf → List Entry → Key → ℕ
upto desc journal key =
    if is_raw (slice_get desc.tables key.table) then length journal else last_place journal key

-- a partition after a journal
abbrev pub shown_part : DescOf → List Entry → Key → ShownPart
shown_part desc journal key = record {
  item = record {
    key = key;
    version = version desc journal key;
    upto = upto desc journal key;
    mark = mark_of desc journal key;
  };
  rows = value desc (accepted (take (upto desc journal key) journal)) key;
}

-- the partitions of the item's table that share a tick with what it asks for, by number
abbrev pub parts_asked : DescOf → Item → List Key
parts_asked desc item = map (λ part. record { table = item.table; part = part })
    (parts_met (table_width desc item.table) item.from item.to)

-- whether the mark of a partition is not below a level
abbrev pub has_level : DescOf → List Entry → (level : Mark) → Key → Bool
has_level desc journal level key = nat_le (rank_of level) (rank_of (mark_of desc journal key))

-- the partitions that an item asks for, without those whose mark is below its level
abbrev pub keys_shown : DescOf → List Entry → Item → List Key
keys_shown desc journal item = filter (has_level desc journal item.level) (parts_asked desc item)

-- what is shown for an item
abbrev pub shown : DescOf → List Entry → Item → List ShownPart
shown desc journal item = map (shown_part desc journal) (keys_shown desc journal item)

-- the marks of the partitions that an item asks for
abbrev pub marks_shown : DescOf → List Entry → Item → List MarkItem
marks_shown desc journal item =
    map (λ key. record { key = key; mark = mark_of desc journal key }) (parts_asked desc item)

-- after a legal journal the rows that are shown of a partition are the content of the version that
-- is shown
abbrev pub HasShownContents : Type 0
HasShownContents = (desc : DescOf) (journal : List Entry) (key : Key) → HasEarlierSources desc
    → IsLegal desc journal
    → (shown_part desc journal key).rows
    ≡ content desc journal key (shown_part desc journal key).item.version
