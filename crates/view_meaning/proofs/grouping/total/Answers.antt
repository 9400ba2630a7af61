use Rattle.std.proofs.Common.{rules, arith, ℕ, ◌≡◌, ◌<◌, ◌≤◌, ◌∙◌, ◌+ℤ◌, ◌*◌, ◌^◌, refl}
use Rattle.std.specs.Prelude.{FitsSigned, unsigned_abs}
use Rattle.std.specs.Int.{w64, w128}
use Rattle.std.proofs.lemmas.Int.{to_z-of_z}
use Rattle.view_meaning.proofs.OperationLemmas.{total-take, sum-fits, sum-within}
use Rattle.view_meaning.proofs.grouping.total.Goals as goal

-- the number that is added is that of the row
added : (c : goal.After-from-sum) → c.from-sum.result ≡ c.number_at.result
added c = c.from-sum.ensures ∙ to_z-of_z w64 c.number_at.result (search rules)

-- the sum so far is within its bound
within : (c : goal.After-from-sum) → unsigned_abs c.loop-row.sum ≤ c.loop-row.row-index * 2 ^ 63
within c = rw c.loop-row.sum-is at c.loop-row.invariant.within

-- fewer than all are few
few : (index many : ℕ) → index < many → many < 2 ^ 44 → index < 2 ^ 63
few index many below least = omega arith

-- the sum with the next row is an int of 128 bits
fits : (c : goal.After-from-sum) → FitsSigned w128 (c.loop-row.sum +ℤ c.number_at.result)
fits c =
    sum-fits c.loop-row.sum c.number_at.result c.loop-row.row-index (within c) (search rules)
    (few c.loop-row.row-index _ c.loop-row-test.true
    (rw c.rows-row-items.ensures.exact c.rows-row-items.ensures.within))

pub overflow_add-sum : goal.overflow_add-sum
overflow_add-sum c =
    rw (c.loop-row.sum-is, to_z-of_z w128 c.from-sum.result (search rules), added c) (fits c)

pub loop-row-preserved : goal.loop-row-preserved
loop-row-preserved c =
    let more = total-take c.args.column c.rows-row-items.result.now c.loop-row.row-index
    c.row-item.result c.loop-row-test.true c.row-item.is in
    rw (
      c.loop-row.sum-is,
      to_z-of_z w128 c.from-sum.result (search rules),
      added c,
      to_z-of_z w128 (c.loop-row.sum +ℤ c.number_at.result) (fits c),
    )
    (record {
      summed = rw (
        more,
        ← c.loop-row.invariant.summed,
        ← c.number_at.ensures.exact,
        c.loop-row.sum-is,
      ) refl;
      within = sum-within c.loop-row.sum c.number_at.result c.loop-row.row-index (within c)
          (search rules);
    })
