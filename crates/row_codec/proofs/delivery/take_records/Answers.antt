use Rattle.row_codec.specs.Deliveries.{records_at}
use Rattle.row_codec.proofs.LoopLemmas.{Takes-passed, records-end, records-step, records-stop}
use Rattle.row_codec.proofs.delivery.take_records.Goals as goal

pub returns-in_err-row : goal.returns-in_err-row
returns-in_err-row c =
    let desc = c.args.accepted.now.desc in
    let total = records_at desc c.args.feed c.args.count 0 c.args.bytes.now in
    record {
      exact = Takes-passed (λ taken. (taken.0.items, taken.1.now)) c.from_residual.result
          c.in_err-row.field-0.0 total c.from_residual.ensures.1
          (records-stop desc c.args.feed c.args.count c.loop.counter c.loop.before
          c.loop.rows.items c.loop.rest.now c.in_err-row.field-0.0 total c.loop-test.true
          c.in_err-row.ensures.exact c.loop.invariant);
    }

pub loop-preserved : goal.loop-preserved
loop-preserved c =
    let desc = c.args.accepted.now.desc in
    rw c.in-Ok.ensures.items (records-step desc c.args.feed c.args.count c.loop.counter
    c.loop.before c.loop.rows.items c.loop.rest.now c.in_ok-row.row c.in_ok-row.after.now
    (records_at desc c.args.feed c.args.count 0 c.args.bytes.now) c.loop-test.true
    c.in_ok-row.ensures.exact c.loop.invariant)

pub returns : goal.returns
returns c =
    let desc = c.args.accepted.now.desc in
    record {
      exact = rw c.shrink_to_fit.ensures.items (records-end desc c.args.feed c.args.count
          c.loop.counter c.loop.before c.loop.rows.items c.loop.rest.now
          (records_at desc c.args.feed c.args.count 0 c.args.bytes.now) c.loop-test.false
          c.loop.invariant);
    }
