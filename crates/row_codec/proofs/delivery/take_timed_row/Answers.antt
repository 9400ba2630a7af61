use Rattle.std.proofs.Common.{arith}
use Rattle.row_codec.specs.Deliveries.{timed_wants}
use Rattle.row_codec.specs.Reading.{row_at}
use Rattle.row_codec.proofs.LoopLemmas.{Takes-passed, length-timed_wants, row-end, row-step}
use Rattle.row_codec.proofs.LoopLemmas.{row-stop, timed_wants-at}
use Rattle.row_codec.proofs.delivery.take_timed_row.Goals as goal

pub returns-in_err-cell : goal.returns-in_err-cell
returns-in_err-cell c =
    let wants = timed_wants c.args.time c.args.columns.now in
    let i = c.loop-number.number in
    let want = c.column_wanted-wanted.result in
    let many = length-timed_wants c.args.time c.args.columns.now in
    let total = row_at wants c.args.bytes.now in
    let is = timed_wants-at c.args.time c.args.columns.now i c.index-columns-number.result want
    c.loop-number-test.true c.index-columns-number.is c.column_wanted-wanted.ensures.exact in
    record {
      exact = Takes-passed (λ taken. (taken.0, taken.1.now)) c.from_residual-in_err-cell.result
          c.in_err-cell.field-0.0 total c.from_residual-in_err-cell.ensures.1
          (row-stop wants i want c.loop-number.row c.loop-number.rest.now
          c.in_err-cell.field-0.0 total (omega (arith, many, c.loop-number-test.true)) is
          c.in_err-cell.ensures.exact c.loop-number.invariant);
    }

pub loop-number-preserved : goal.loop-number-preserved
loop-number-preserved c =
    let wants = timed_wants c.args.time c.args.columns.now in
    let i = c.loop-number.number in
    let want = c.column_wanted-wanted.result in
    let many = length-timed_wants c.args.time c.args.columns.now in
    let is = timed_wants-at c.args.time c.args.columns.now i c.index-columns-number.result want
    c.loop-number-test.true c.index-columns-number.is c.column_wanted-wanted.ensures.exact in
    rw c.in-Ok.ensures.ok (row-step wants i want c.loop-number.row c.loop-number.rest.now
    c.in_ok-cell.cell c.in_ok-cell.after.now (row_at wants c.args.bytes.now)
    (omega (arith, many, c.loop-number-test.true)) is c.in_ok-cell.ensures.exact
    c.loop-number.invariant)

pub returns : goal.returns
returns c =
    let wants = timed_wants c.args.time c.args.columns.now in
    let many = length-timed_wants c.args.time c.args.columns.now in
    record {
      exact = row-end wants c.loop-number.number c.loop-number.row c.loop-number.rest.now
          (row_at wants c.args.bytes.now) (omega (arith, many, c.loop-number-test.false))
          c.loop-number.invariant;
    }
