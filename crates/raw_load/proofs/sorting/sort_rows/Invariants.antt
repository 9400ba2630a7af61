-- The rows so far were sorted.
use Rattle.std.proofs.Common.{◌≤◌, ◌-◌, length, map}
use Rattle.raw_load.specs.Feeds.{feed_of}
use Rattle.raw_load.specs.Sorting.{SortsRows}
use Rattle.raw_load.proofs.sorting.sort_rows.Given as goal

abbrev pub invariant-loop-first : goal.invariant-loop-first
invariant-loop-first l = record {
  within : l.first ≤ length l.delivery.rows;
  sorts : SortsRows l.desc (map feed_of l.feeds) l.delivery l.first l.sorted;
}

abbrev pub decreases-loop-first : goal.decreases-loop-first
decreases-loop-first l = length l.delivery.rows - l.first
