-- The line of a row stands after the lines before it.
use Rattle.std.proofs.Common.{◌≡◌, ◌++◌, List, ℕ, append_assoc, arith}
use Rattle.std.specs.Prelude.{codes, decimal}
use Rattle.desc_types.specs.Descriptions.{DescOf}
use Rattle.view_meaning.specs.declared.aside.Aside.{Aside}
use Rattle.depot_script.specs.Names.{feed_name, table_name}
use Rattle.depot_script.specs.Texts.{aside_line_text, line_end}
use Rattle.depot_script.proofs.listings.with_aside.Goals as goal

-- the pieces of the line, put there one by one, are the line
aside_line_text-append : (desc : DescOf) (feed : ℕ) (line : List ℕ) (aside : Aside)
    → line ++ codes "aside " ++ feed_name desc feed ++ codes " " ++ decimal aside.number
    ++ codes " record " ++ decimal aside.row ++ codes " table " ++ table_name desc aside.table
    ++ codes " part " ++ decimal aside.part ++ line_end
    ≡ line ++ aside_line_text desc feed aside
aside_line_text-append desc feed line aside = simp append_assoc

pub returns : goal.returns
returns c = grind (
  arith,
  aside_line_text-append c.args.served.now.desc c.args.feed c.args.line c.args.aside.now,
)
