-- One row more lies in the partition.
use Rattle.std.proofs.Common.{◌≡◌, ◌∙◌, ℕ, ap, arith, sym}
use Rattle.std.specs.Prelude.{true}
use Rattle.std.proofs.lemmas.List.Elements.{All-more}
use Rattle.desc_types.specs.Tables.{TableOf}
use Rattle.partition_map.specs.Partitions.{end_of, start_of}
use Rattle.view_meaning.specs.TableRows.{lies_in_table}
use Rattle.raw_load.proofs.LyingLemmas.{lies_in_table-between}
use Rattle.raw_load.proofs.stretches.run_len.Goals as goal

pub loop-row-preserved : goal.loop-row-preserved
loop-row-preserved c = record {
  counted = omega (arith, c.loop-row.invariant.counted);
  each = All-more (λ row. lies_in_table c.args.table.now c.args.key row ≡ true) c.args.rows.now
      c.loop-row.row-index c.row-item.result c.loop-row-test.true c.loop-row.invariant.each
      (rw (← c.row-item.is)
      (lies_in_table-between c.args.table.now c.args.key c.row-item.result _ _
      (ap (λ (width : ℕ). start_of width c.args.key.part)
      (c.ticks.ensures.value ∙ ap (λ (table : TableOf). table.width) c.table.view_is))
      (c.part_end-end.ensures.exact
      ∙ ap (λ (table : TableOf). end_of table.width c.args.key.part) c.table.view_is)
      (sym c.lies_between.ensures.exact ∙ c.if-not-lies_between.false)));
}
