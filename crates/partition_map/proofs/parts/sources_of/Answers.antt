use Rattle.std.proofs.Common.{◌+◌, ◌*◌, arith, rules, refl, w64, FitsSigned, to_z-of_z}
use Rattle.partition_map.proofs.SourceLemmas.{source_parts-empty, source_parts-few}
use Rattle.partition_map.proofs.parts.sources_of.Goals as goal

pub returns-then-to-from-clause-exact : goal.returns-then-to-from-clause-exact
returns-then-to-from-clause-exact c =
    let lo : FitsSigned w64 c.args.span.lo = search rules in
    let hi : FitsSigned w64 c.args.span.hi = search rules in
    let from = rw (to_z-of_z lo) at c.tick_after-from.ensures.exact in
    let to = rw (to_z-of_z hi) at c.tick_after.ensures.exact in
    source_parts-empty c.args.width c.args.source_width c.args.span c.args.part
    (c.args.part * c.ticks.result) (c.args.part * c.ticks.result + c.ticks-2.result)
    c.tick_after-from.result c.min-to.result
    (rw c.ticks.ensures.value refl)
    (omega (arith, c.ticks-2.ensures.value))
    from
    (omega (arith, to, c.min-to.ensures))
    c.if-to-from.true

pub returns-clause-few : goal.returns-clause-few
returns-clause-few c =
    let lo : FitsSigned w64 c.args.span.lo = search rules in
    let hi : FitsSigned w64 c.args.span.hi = search rules in
    let from = rw (to_z-of_z lo) at c.tick_after-from.ensures.exact in
    let to = rw (to_z-of_z hi) at c.tick_after.ensures.exact in
    source_parts-few c.args.width c.args.source_width c.args.span c.args.part
    (c.args.part * c.ticks.result) (c.args.part * c.ticks.result + c.ticks-2.result)
    c.tick_after-from.result c.min-to.result c.parts_of_span.result.first
    c.parts_of_span.result.count
    c.requires.fits
    (rw c.ticks.ensures.value refl)
    (omega (arith, c.ticks-2.ensures.value))
    from
    (omega (arith, to, c.min-to.ensures))
    (omega (arith, c.if-to-from.false))
    c.parts_of_span.ensures.exact
