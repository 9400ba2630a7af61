use Rattle.std.proofs.Common.{◌*◌, arith, rules, refl, w64, FitsSigned, to_z-of_z}
use Rattle.std.proofs.lemmas.Int.{ints}
use Rattle.partition_map.proofs.DependentLemmas.{dependent_parts-before, has_ends}
use Rattle.partition_map.proofs.DependentLemmas.{dependent_parts-run, dependent_parts-empty}
use Rattle.partition_map.proofs.DependentLemmas.{dependents-few}
use Rattle.partition_map.proofs.parts.dependents_of.Goals as goal

pub returns-then-from-clause-exact : goal.returns-then-from-clause-exact
returns-then-from-clause-exact c =
    let lo : FitsSigned w64 c.args.span.lo = search rules in
    let offset = rw (to_z-of_z lo) at c.from-2.ensures in
    let begin = rw c.ticks.ensures.value at c.from.ensures in
    dependent_parts-before c.args.width c.args.source_width c.args.span c.args.part
    c.requires.fits
    (omega (arith, ints, offset, begin, c.if-from.true))

pub returns-then-last-first-clause-exact : goal.returns-then-last-first-clause-exact
returns-then-last-first-clause-exact c =
    let lo : FitsSigned w64 c.args.span.lo = search rules in
    let hi : FitsSigned w64 c.args.span.hi = search rules in
    let back = rw (to_z-of_z lo) at c.tick_before.ensures.exact in
    let earliest = rw (to_z-of_z hi) at c.tick_before-earliest.ensures.exact in
    let offset = rw (to_z-of_z lo) at c.from-2.ensures in
    dependent_parts-empty c.args.width c.args.source_width c.args.span c.args.part
    c.min-latest.result c.tick_before-earliest.result
    (has_ends c.args.width c.args.source_width c.args.span c.args.part
    (c.args.part * c.ticks.result) c.min-latest.result c.tick_before-earliest.result
    c.ticks-2.ensures.in_range.some c.requires.fits
    (rw c.ticks.ensures.value c.requires.in_time) (rw c.ticks.ensures.value refl)
    (omega (arith, ints, offset, c.from.ensures, c.if-from.false))
    (omega (arith, back, c.min-latest.ensures))
    earliest)
    (rw (c.ticks-2.ensures.value, c.ticks-3.ensures.value) at c.if-last-first.true)

pub returns-clause-exact : goal.returns-clause-exact
returns-clause-exact c =
    let lo : FitsSigned w64 c.args.span.lo = search rules in
    let hi : FitsSigned w64 c.args.span.hi = search rules in
    let back = rw (to_z-of_z lo) at c.tick_before.ensures.exact in
    let earliest = rw (to_z-of_z hi) at c.tick_before-earliest.ensures.exact in
    let offset = rw (to_z-of_z lo) at c.from-2.ensures in
    rw (c.ticks-2.ensures.value, c.ticks-3.ensures.value)
    (dependent_parts-run c.args.width c.args.source_width c.args.span c.args.part
    c.min-latest.result c.tick_before-earliest.result
    (has_ends c.args.width c.args.source_width c.args.span c.args.part
    (c.args.part * c.ticks.result) c.min-latest.result c.tick_before-earliest.result
    c.ticks-2.ensures.in_range.some c.requires.fits
    (rw c.ticks.ensures.value c.requires.in_time) (rw c.ticks.ensures.value refl)
    (omega (arith, ints, offset, c.from.ensures, c.if-from.false))
    (omega (arith, back, c.min-latest.ensures))
    earliest)
    (rw (c.ticks-2.ensures.value, c.ticks-3.ensures.value) at c.if-last-first.false))

pub returns-clause-few : goal.returns-clause-few
returns-clause-few c =
    let lo : FitsSigned w64 c.args.span.lo = search rules in
    let hi : FitsSigned w64 c.args.span.hi = search rules in
    let back = rw (to_z-of_z lo) at c.tick_before.ensures.exact in
    let earliest = rw (to_z-of_z hi) at c.tick_before-earliest.ensures.exact in
    let offset = rw (to_z-of_z lo) at c.from-2.ensures in
    rw (c.ticks-2.ensures.value, c.ticks-3.ensures.value)
    (dependents-few c.args.width c.args.source_width c.args.span c.args.part
    c.min-latest.result c.tick_before-earliest.result
    (has_ends c.args.width c.args.source_width c.args.span c.args.part
    (c.args.part * c.ticks.result) c.min-latest.result c.tick_before-earliest.result
    c.ticks-2.ensures.in_range.some c.requires.fits
    (rw c.ticks.ensures.value c.requires.in_time) (rw c.ticks.ensures.value refl)
    (omega (arith, ints, offset, c.from.ensures, c.if-from.false))
    (omega (arith, back, c.min-latest.ensures))
    earliest))
