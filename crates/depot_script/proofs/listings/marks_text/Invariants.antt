-- the first line, and then those of the partitions so far
use Rattle.std.proofs.Common.{◌≡◌, ◌++◌, length, take}
use Rattle.std.specs.Prelude.{flat_map}
use Rattle.depot_script.specs.Texts.{mark_line_text, marks_head_text}
use Rattle.depot_script.proofs.listings.marks_text.Given as goal

abbrev pub invariant-loop-item : goal.invariant-loop-item
invariant-loop-item l = l.line ≡ marks_head_text l.place (length l.items)
    ++ flat_map (mark_line_text l.served.desc) (take l.item-index l.items)
