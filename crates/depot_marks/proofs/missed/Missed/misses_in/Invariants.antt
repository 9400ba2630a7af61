-- The entries that are left tell the answer, and each is of a partition.
use Rattle.std.proofs.Common.{◌≡◌}
use Rattle.std.specs.Prelude.{All}
use Rattle.std.specs.List.{list_any}
use Rattle.depot_marks.specs.Missed.{is_missed_when}
use Rattle.depot_marks.specs.Runs.{IsPartOf, keys_of_run}
use Rattle.depot_marks.proofs.MissedLemmas.{is_entry_missed}
use Rattle.depot_marks.proofs.missed.Missed.misses_in.Given as goal

abbrev pub invariant-loop-key : goal.invariant-loop-key
invariant-loop-key l = record {
  exact : list_any (is_entry_missed l.fn.closings.items l.fn.width) l.key-iterator
      ≡ list_any (is_missed_when l.fn.self l.fn.closings.items l.fn.width) (keys_of_run l.fn.run);
  parts : All (λ entry. IsPartOf l.fn.width entry.0) l.key-iterator;
}
