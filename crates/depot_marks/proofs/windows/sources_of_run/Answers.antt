-- The run of the source is that of the span from the first window's start to the last one's end.
use Rattle.std.proofs.Common.{arith, rules, w64, FitsSigned, to_z-of_z}
use Rattle.depot_marks.proofs.WindowLemmas.{has-sources_of_run}
use Rattle.depot_marks.proofs.windows.sources_of_run.Goals as goal

pub returns-clause-exact : goal.returns-clause-exact
returns-clause-exact c =
    let lo : FitsSigned w64 c.args.span.lo = search rules in
    let hi : FitsSigned w64 c.args.span.hi = search rules in
    let from = rw (to_z-of_z lo, c.ticks.ensures.value) at c.tick_after-from.ensures.exact in
    let to = rw (to_z-of_z hi, c.ticks-2.ensures.value) at c.tick_after.ensures.exact in
    λ source. has-sources_of_run c.args.width c.args.source_width c.args.span c.args.parts
    c.tick_after-from.result c.min-to.result c.parts_of_span.result.first
    c.parts_of_span.result.count source c.requires.in_time.some c.requires.no_gaps from
    (omega (arith, to, c.min-to.ensures)) (rw c.min.ensures at c.parts_of_span.ensures.exact)
