use Rattle.view_join.proofs.PairLemmas.{paired-step}
use Rattle.view_join.proofs.joining.push_paired.Goals as goal

pub loop-place-preserved : goal.loop-place-preserved
loop-place-preserved g c =
    paired-step c.args.columns.now c.args.index.now.entries c.args.rows.now c.loop-place.rows
    c.push_row.new.rows (g.L.Part.rows c.args.part.now) c.loop-place.place c.row.result.now
    (rw (← c.len-place-end.ensures.exact) c.loop-place-test.true)
    c.row.ensures.exact c.loop-place.invariant c.in_ok-push_row.ensures.ok
