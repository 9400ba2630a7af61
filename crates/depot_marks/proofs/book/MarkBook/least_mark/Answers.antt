-- The lower one of the least so far and the least of one run more.
use Rattle.std.proofs.Common.{sym}
use Rattle.view_meaning.specs.RawMarks.{raw_mark}
use Rattle.view_meaning.proofs.ListLemmas.{All-from_flat_map}
use Rattle.depot_marks.specs.MarkBooks.{IsRawPart}
use Rattle.depot_marks.specs.Runs.{keys_of_run}
use Rattle.depot_marks.proofs.LeastLemmas.{least-take}
use Rattle.depot_marks.proofs.book.MarkBook.least_mark.Goals as goal

pub run_mark-requires : goal.run_mark-requires
run_mark-requires c = record {
  raw = All-from_flat_map (IsRawPart c.args.served.now.desc) keys_of_run c.args.runs.now
      c.requires.raw c.loop-run.run-index _ c.loop-run-test.true;
}

pub loop-run-preserved : goal.loop-run-preserved
loop-run-preserved c = λ accepted tells.
    rw (
      c.lower-least.ensures.exact,
      c.loop-run.invariant accepted tells,
      c.run_mark.ensures.exact accepted tells,
    )
    (sym (least-take (raw_mark c.args.served.now.desc accepted) c.args.runs.now
    c.loop-run.run-index _ c.loop-run-test.true))
