-- the rows so far, and those that the records to come are, are those of the body
use Rattle.std.proofs.Common.{Some}
use Rattle.csv.specs.Reading.{reader_source}
use Rattle.feed_csv.proofs.BodyLemmas.{ReadsRows}
use Rattle.feed_csv.proofs.body.read_records.Given as goal

abbrev pub invariant-loop-number : goal.invariant-loop-number
invariant-loop-number l =
    ReadsRows (λ text. Some text.now) l.fn.served.desc l.fn.feed (reader_source l.fn.reader).now
    l.reader l.number l.rows.items
