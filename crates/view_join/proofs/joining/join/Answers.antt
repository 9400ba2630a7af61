use Rattle.std.proofs.Common.{◌≡◌, ◌∙◌, List, subst}
use Rattle.std.specs.Prelude.{IfOk}
use Rattle.depot_cell.specs.declared.cell.Cell.{Cell}
use Rattle.view_meaning.specs.Parts.{rows_in}
use Rattle.view_join.proofs.PairLemmas.{paired-joined_rows}
use Rattle.view_join.proofs.joining.join.Goals as goal

pub returns : goal.returns
returns g c = record {
  exact = subst
      (λ (shown : List (List Cell)). IfOk c.paired.result (λ rows. rows ≡ shown))
      (paired-joined_rows c.args.on.now c.deref-2.result.now c.deref.result.now
      c.in_ok-index.index.entries (rows_in g.L.Part.rows c.args.left.now) (rows_in g.R.Part.rows c.args.right.now)
      (c.deref-2.ensures.value ∙ c.in_ok-left_columns.ensures.exact)
      (c.deref.ensures.value ∙ c.in_ok-right_columns.ensures.exact)
      c.in_ok-index.ensures.exact)
      c.paired.ensures.exact;
}
