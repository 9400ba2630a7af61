-- The runs are of one table, and neither begins after the end of the other.
use Rattle.std.proofs.Common.{◌∙◌, ◌-◌, ℕ, ap}
use Rattle.std.specs.Prelude.{◌||◌}
use Rattle.std.specs.List.{list_any}
use Rattle.depot_marks.specs.Below.{keys_of_waiting}
use Rattle.depot_marks.specs.Runs.{run_of}
use Rattle.depot_marks.proofs.WindowLemmas.{list_any-joined}
use Rattle.depot_marks.proofs.below.joined.Goals as goal

pub returns : goal.returns
returns c =
    let run = c.args.run in
    let next = c.args.next in
    record {
      exact = λ test. rw (c.min.ensures, c.max.ensures)
          (list_any-joined test run.table run.first run.end next.first next.end
          c.if-run-next-2.false c.if-next-run.false
          ∙ ap (λ (table : ℕ). list_any test (keys_of_waiting run)
          || list_any test (run_of table next.first (next.end - next.first)))
          c.if-run-next.false);
    }
