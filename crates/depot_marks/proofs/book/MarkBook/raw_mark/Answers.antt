-- The least mark of one partition is its own.
use Rattle.std.proofs.Common.{◌∙◌}
use Rattle.view_meaning.specs.RawMarks.{raw_mark}
use Rattle.depot_marks.proofs.LeastLemmas.{least-one}
use Rattle.depot_marks.proofs.book.MarkBook.raw_mark.Goals as goal

pub returns : goal.returns
returns c = record {
  exact = λ accepted tells. c.run_mark.ensures.exact accepted tells
      ∙ least-one (raw_mark c.args.served.now.desc accepted c.args.key);
}
