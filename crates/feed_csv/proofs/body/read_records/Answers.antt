use Rattle.std.proofs.Common.{◌≡◌, ◌∙◌, ◌++◌, ◌∷◌, [], Ok, ap, sym, true, false, arith}
use Rattle.std.proofs.lemmas.Grind.{common_steps}
use Rattle.csv.specs.Records.{fields_of}
use Rattle.feed_csv.proofs.CsvRecords.{Yields-start}
use Rattle.feed_csv.proofs.BodyLemmas.{ReadsRows-bad, ReadsRows-empty, ReadsRows-push}
use Rattle.feed_csv.proofs.BodyLemmas.{ReadsRows-skip, ReadsRows-start}
use Rattle.feed_csv.proofs.body.read_records.Goals as goal
use Rattle.feed_csv.proofs.body.read_records.Goals.{then-has_header, else-has_header}

pub loop-number-init : goal.loop-number-init
loop-number-init c =
    let start = c.requires.start in
    let yields = Yields-start _ c.args.reader _ start.plain start.ready start.config start.state
    start.source in
    rw c.new-rows.ensures.items
    (elim c.if-has_header.branch [
      | then-has_header w ↦ rw w.first-is (ReadsRows-start _ _ _ _ _ true
          (rw w.if-has_header.true at c.has_header.ensures.exact) yields)
      | else-has_header w ↦ rw w.first-is (ReadsRows-start _ _ _ _ _ false
          (rw w.if-has_header.false at c.has_header.ensures.exact) yields)
    ])

pub returns-in-Ok-false : goal.returns-in-Ok-false
returns-in-Ok-false c =
    let before = c.loop-number.invariant in
    let read = rw c.in-Ok-false.field-0-test
    at (c.in-Ok-false.ensures.reads before.yields.plain before.yields.ready) in
    record {
      exact = ReadsRows-empty _ _ _ _ c.loop-number.reader c.read_byte_record.new.self _ _
          (fields_of c.read_byte_record.new.row) before read
          ∙ ap Ok (sym c.shrink_to_fit.ensures.items);
    }

pub returns-in-Err-2 : goal.returns-in-Err-2
returns-in-Err-2 c =
    let before = c.loop-number.invariant in
    let read = rw c.in-Ok-true.field-0-test
    at (c.in-Ok-true.ensures.reads before.yields.plain before.yields.ready) in
    record {
      exact = ReadsRows-bad _ _ _ _ c.loop-number.reader c.read_byte_record.new.self _ _
          (fields_of c.read_byte_record.new.row) c.in-Err-2.cause (omega arith) before read
          (c.in-Ok-true.ensures.ready before.yields.plain)
          (rw c.in-Err-2.is at c.in_ok-row.ensures.exact);
    }

pub loop-number-preserved-then-number-eq0 : goal.loop-number-preserved-then-number-eq0
loop-number-preserved-then-number-eq0 c =
    let before = c.loop-number.invariant in
    let read = rw c.in-Ok-true.field-0-test
    at (c.in-Ok-true.ensures.reads before.yields.plain before.yields.ready) in
    ReadsRows-skip _ _ _ _ c.loop-number.reader c.read_byte_record.new.self _ _
    (fields_of c.read_byte_record.new.row) c.if-number-eq0.true before read
    (c.in-Ok-true.ensures.ready before.yields.plain)

pub loop-number-preserved : goal.loop-number-preserved
loop-number-preserved c =
    let before = c.loop-number.invariant in
    let read = rw c.in-Ok-true.field-0-test
    at (c.in-Ok-true.ensures.reads before.yields.plain before.yields.ready) in
    let pushed : c.push.new.self.items ≡ c.loop-number.rows.items ++ c.in-Ok.row ∷ [] =
    grind (arith, common_steps) in
    rw pushed (ReadsRows-push _ _ _ _ c.loop-number.reader c.read_byte_record.new.self _ _
    (fields_of c.read_byte_record.new.row) c.in-Ok.row (omega arith) before read
    (c.in-Ok-true.ensures.ready before.yields.plain)
    (rw c.in-Ok.is at c.in_ok-row.ensures.exact))
