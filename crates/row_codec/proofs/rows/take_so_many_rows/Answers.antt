use Rattle.std.proofs.Common.{map}
use Rattle.row_codec.specs.Reading.{so_many_rows_at, wanted_of}
use Rattle.row_codec.proofs.LoopLemmas.{Takes-passed, rows-end, rows-step, rows-stop}
use Rattle.row_codec.proofs.rows.take_so_many_rows.Goals as goal

pub returns-in_err-row : goal.returns-in_err-row
returns-in_err-row c =
    let wants = map wanted_of c.args.types.now in
    let total = so_many_rows_at wants c.args.count c.args.bytes.now in
    record {
      exact = Takes-passed (λ taken. (taken.0, taken.1.now)) c.from_residual.result
          c.in_err-row.field-0.0 total c.from_residual.ensures.1
          (rows-stop wants c.args.count c.loop.counter c.loop.rows c.loop.rest.now
          c.in_err-row.field-0.0 total c.loop-test.true c.in_err-row.ensures.exact
          c.loop.invariant);
    }

pub loop-preserved : goal.loop-preserved
loop-preserved c =
    let wants = map wanted_of c.args.types.now in
    rw c.in-Ok.ensures.ok (rows-step wants c.args.count c.loop.counter c.loop.rows
    c.loop.rest.now c.in_ok-row.row c.in_ok-row.after.now
    (so_many_rows_at wants c.args.count c.args.bytes.now) c.loop-test.true
    c.in_ok-row.ensures.exact c.loop.invariant)

pub returns : goal.returns
returns c =
    let wants = map wanted_of c.args.types.now in
    record {
      exact = rows-end wants c.args.count c.loop.counter c.loop.rows c.loop.rest.now
          (so_many_rows_at wants c.args.count c.args.bytes.now) c.loop-test.false
          c.loop.invariant;
    }
