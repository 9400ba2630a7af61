use Rattle.std.proofs.Common.{arith, map}
use Rattle.std.proofs.lemmas.List.{length-map}
use Rattle.depot_cell.specs.declared.cell.Ty.TheVariants.{Int}
use Rattle.row_codec.specs.Reading.{row_at, wanted_of}
use Rattle.row_codec.proofs.LoopLemmas.{Takes-passed, row-end, row-step, row-stop, typed_wants-at}
use Rattle.row_codec.proofs.field.take_row.Goals as goal

pub returns-in_err-cell : goal.returns-in_err-cell
returns-in_err-cell c =
    let types = c.args.types.now in
    let i = c.loop-ty.ty-index in
    let want = c.wanted_of.result in
    let many = length-map types wanted_of in
    let total = row_at (map wanted_of types) c.args.bytes.now in
    let is = typed_wants-at types i Int want c.loop-ty-test.true c.wanted_of.ensures.exact in
    record {
      exact = Takes-passed (λ taken. (taken.0, taken.1.now)) c.from_residual-in_err-cell.result
          c.in_err-cell.field-0.0 total c.from_residual-in_err-cell.ensures.1
          (row-stop (map wanted_of types) i want c.loop-ty.row c.loop-ty.rest.now
          c.in_err-cell.field-0.0 total (omega (arith, many, c.loop-ty-test.true)) is
          c.in_err-cell.ensures.exact c.loop-ty.invariant);
    }

pub loop-ty-preserved : goal.loop-ty-preserved
loop-ty-preserved c =
    let types = c.args.types.now in
    let i = c.loop-ty.ty-index in
    let want = c.wanted_of.result in
    let many = length-map types wanted_of in
    let is = typed_wants-at types i Int want c.loop-ty-test.true c.wanted_of.ensures.exact in
    rw c.in-Ok.ensures.ok (row-step (map wanted_of types) i want c.loop-ty.row c.loop-ty.rest.now
    c.in_ok-cell.cell c.in_ok-cell.after.now (row_at (map wanted_of types) c.args.bytes.now)
    (omega (arith, many, c.loop-ty-test.true)) is c.in_ok-cell.ensures.exact c.loop-ty.invariant)

pub returns : goal.returns
returns c =
    let types = c.args.types.now in
    let i = c.loop-ty.ty-index in
    let many = length-map types wanted_of in
    record {
      exact = row-end (map wanted_of types) i c.loop-ty.row c.loop-ty.rest.now
          (row_at (map wanted_of types) c.args.bytes.now)
          (omega (arith, many, c.loop-ty-test.false)) c.loop-ty.invariant;
    }
