use Rattle.std.proofs.Common.{arith}
use Rattle.std.proofs.lemmas.Grind.{common_steps}
use Rattle.depot_cell.proofs.NumberLemmas.{value_from-take, value_from-take-lt}
use Rattle.depot_cell.proofs.number.read_number.Goals as goal

pub overflow_mul-value : goal.overflow_mul-value
overflow_mul-value c =
    let before = c.loop-byte.invariant in
    omega (
      arith,
      before.exact,
      value_from-take-lt c.args.bytes.now c.loop-byte.byte-index (omega arith) before.digits,
    )

pub overflow_add-value : goal.overflow_add-value
overflow_add-value c =
    let before = c.loop-byte.invariant in
    omega (
      arith,
      before.exact,
      value_from-take-lt c.args.bytes.now c.loop-byte.byte-index (omega arith) before.digits,
    )

pub loop-byte-preserved : goal.loop-byte-preserved
loop-byte-preserved c = grind (arith, common_steps, value_from-take)
