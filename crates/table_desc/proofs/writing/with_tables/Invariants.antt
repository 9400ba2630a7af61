-- the text so far has the lines of the first tables behind it
use Rattle.std.proofs.Common.{◌≡◌, ◌++◌, flat_map, map, take}
use Rattle.desc_lines.specs.LineTexts.{line_text}
use Rattle.table_desc.specs.Canonical.{table_line}
use Rattle.table_desc.proofs.writing.with_tables.Given as goal

abbrev pub invariant-loop-table : goal.invariant-loop-table
invariant-loop-table l = l.text.items ≡ l.initial.text.items
    ++ flat_map line_text (map (table_line l.desc) (take l.table-index l.table-items))
