-- The partitions of the runs are those below, each once or more.
use Rattle.std.proofs.Common.{◌∙◌}
use Rattle.view_meaning.specs.RawBelow.{raw_below}
use Rattle.view_meaning.specs.RawMarks.{raw_mark}
use Rattle.depot_marks.specs.Runs.{keys_in}
use Rattle.depot_marks.proofs.LeastLemmas.{least-same}
use Rattle.depot_marks.proofs.book.MarkBook.below_mark.Goals as goal

pub returns : goal.returns
returns c = record {
  exact = λ accepted tells.
      c.least_mark.ensures.exact accepted tells
      ∙ rw c.deref.ensures.value
      (least-same (raw_mark c.args.served.now.desc accepted) (keys_in c.in_ok-runs.runs.items)
      (raw_below c.args.served.now.desc c.args.key) c.in_ok-runs.ensures.exact);
}
