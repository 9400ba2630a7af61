-- The groups of some rows are made of their index.
use Rattle.std.proofs.Common.{◌≡◌, ◌∙◌, List, ap, map, subst, IfOk}
use Rattle.depot_cell.specs.declared.cell.Cell.{Cell}
use Rattle.view_meaning.specs.Operations.{group_row}
use Rattle.view_meaning.specs.Parts.{rows_in}
use Rattle.row_index.proofs.IndexLemmas.{map-keyed}
use Rattle.view_group.proofs.grouping.group.Goals as goal

pub returns : goal.returns
returns g c = record {
  exact = subst (λ (wanted : List (List Cell)). IfOk c.group_rows.result (λ rows. rows ≡ wanted))
      (ap (map (λ entry. group_row c.args.aggs.now entry.0 entry.1)) c.in_ok-index.ensures.exact
      ∙ map-keyed c.args.keys.now c.args.aggs.now (rows_in g.P.Part.rows c.args.source.now))
      c.group_rows.ensures.exact;
}
