-- The line of a partition stands after the lines before it.
use Rattle.std.proofs.Common.{◌≡◌, ◌++◌, List, ℕ, append_assoc, arith}
use Rattle.std.specs.Prelude.{codes, decimal}
use Rattle.desc_types.specs.Descriptions.{DescOf}
use Rattle.view_meaning.specs.declared.request.MarkItem.{MarkItem}
use Rattle.depot_script.specs.Names.{table_name}
use Rattle.depot_script.specs.Texts.{line_end, mark_line_text, mark_text}
use Rattle.depot_script.proofs.listings.with_mark.Goals as goal

-- the pieces of the line, put there one by one, are the line
mark_line_text-append : (desc : DescOf) (line : List ℕ) (item : MarkItem)
    → line ++ codes "part " ++ table_name desc item.key.table ++ codes " "
    ++ decimal item.key.part ++ codes " mark " ++ mark_text item.mark ++ line_end
    ≡ line ++ mark_line_text desc item
mark_line_text-append desc line item = simp append_assoc

pub returns : goal.returns
returns c = grind (arith, mark_line_text-append c.args.served.now.desc c.args.line c.args.item.now)
