-- Whole answers to queries.
use Rattle.std.specs.Prelude.{ℕ, List, ◌++◌, flat_map, length}
use Rattle.depot_script.specs.Names.{table_name}
use Rattle.depot_script.specs.Texts.{answer_text, part_text, rows_text}
use Rattle.desc_types.specs.Descriptions.{DescOf}
use Rattle.view_meaning.specs.declared.journal.Entry.{Entry}
use Rattle.view_meaning.specs.declared.request.PinItem.{PinItem}
use Rattle.view_meaning.specs.Contents.{content}
use Rattle.view_meaning.specs.Shown.{ShownPart}

-- a partition that is shown, with its rows
abbrev pub shown_text : DescOf → ShownPart → List ℕ
shown_text desc shown =
    part_text (table_name desc shown.item.key.table) shown.item (length shown.rows)
    ++ rows_text shown.rows

-- an answer at a place of the journal
abbrev pub whole_answer : DescOf → (place : ℕ) → List ShownPart → List ℕ
whole_answer desc place parts =
    answer_text place (length parts) ++ flat_map (shown_text desc) parts

-- what is shown of a partition whose version was pinned: the content of that version
abbrev pub pinned_part : DescOf → List Entry → PinItem → ShownPart
pinned_part desc journal item = record {
  item = item;
  rows = content desc journal item.key item.version;
}
