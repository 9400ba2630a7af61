-- As many feeds as turns, all without deliveries.
use Rattle.std.proofs.Common.{◌≡◌}
use Rattle.std.specs.Prelude.{All, vec_len}
use Rattle.depot_marks.specs.FeedMarks.{HasNothing}
use Rattle.depot_marks.proofs.book.empty_feeds.Given as goal

abbrev pub invariant-loop : goal.invariant-loop
invariant-loop l = record {
  count : vec_len l.feeds ≡ l.counter;
  empty : All HasNothing l.feeds.items;
}
