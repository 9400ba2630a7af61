use Rattle.std.proofs.Common.{◌≡◌, ◌∙◌, ◌+◌, ◌++◌, ◌∷◌, [], drop, sym, arith}
use Rattle.std.proofs.lemmas.Grind.{common_steps}
use Rattle.csv.proofs.RecordFacts.{field-there}
use Rattle.csv.specs.Records.{fields_of}
use Rattle.feed_csv.proofs.BodyLemmas.{ReadsCells-push, ReadsCells-bad, field_at-drop}
use Rattle.feed_csv.proofs.body.read_cells.Goals as goal

pub unreachable-requires : goal.unreachable-requires
unreachable-requires c =
    field-there (fields_of c.args.fields.now) (c.loop-place.place + 1) (omega arith)
    (sym (rw c.in_default.is at c.get.ensures.value))

pub returns-in-Err : goal.returns-in-Err
returns-in-Err c = record {
  exact = ReadsCells-bad c.args.time c.args.columns.now (drop 1 (fields_of c.args.fields.now))
      c.loop-place.place c.loop-place.cells c.index-columns-place.result c.in-Some.field.now
      c.in-Err.cause
      c.loop-place.invariant c.loop-place-test.true (sym c.index-columns-place.is)
      (sym (c.in-Some.ensures.value
      ∙ field_at-drop (fields_of c.args.fields.now) c.loop-place.place))
      (rw c.in-Err.is at c.in_ok-cell.ensures.exact);
}

pub loop-place-preserved : goal.loop-place-preserved
loop-place-preserved c =
    let pushed : c.push.new.self ≡ c.loop-place.cells ++ c.in-Ok.cell ∷ [] =
    grind (arith, common_steps) in
    rw pushed (ReadsCells-push c.args.time c.args.columns.now
    (drop 1 (fields_of c.args.fields.now))
    c.loop-place.place c.loop-place.cells c.index-columns-place.result c.in-Some.field.now
    c.in-Ok.cell c.loop-place.invariant c.loop-place-test.true (sym c.index-columns-place.is)
    (sym (c.in-Some.ensures.value
    ∙ field_at-drop (fields_of c.args.fields.now) c.loop-place.place))
    (rw c.in-Ok.is at c.in_ok-cell.ensures.exact))
