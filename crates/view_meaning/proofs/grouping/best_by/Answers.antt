use Rattle.std.proofs.Common.{◌∙◌, sym}
use Rattle.view_meaning.proofs.OperationLemmas.{best_by-take}
use Rattle.view_meaning.proofs.grouping.best_by.Goals as goal

pub loop-row-preserved : goal.loop-row-preserved
loop-row-preserved c =
    let more = best_by-take c.args.op c.args.column c.rows-row-items.result.now
    c.loop-row.row-index c.row-item.result c.loop-row-test.true c.row-item.is in
    rw (c.loop-row.invariant, c.cell_at.ensures.exact) at c.better-best.ensures.exact ∙ sym more
