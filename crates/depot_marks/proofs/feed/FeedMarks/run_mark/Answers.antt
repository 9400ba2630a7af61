-- The last partition of the run tells.
use Rattle.std.proofs.Common.{◌+◌, ◌-◌, arith, sym}
use Rattle.depot_marks.specs.Runs.{IsPartOf, keys_of_run}
use Rattle.depot_marks.proofs.RunLemmas.{All-run_of, IsInTime-parts, is_met-starts}
use Rattle.depot_marks.proofs.RunLemmas.{run_of-fits}
use Rattle.depot_marks.proofs.RunMarkLemmas.{least-closed_run, least-open_run}
use Rattle.depot_marks.proofs.feed.FeedMarks.run_mark.Goals as goal

pub overflow_add-last : goal.overflow_add-last
overflow_add-last c =
    omega (
      arith,
      run_of-fits c.args.run.table c.args.run.parts.first c.args.run.parts.count
          (IsInTime-parts c.args.width (keys_of_run c.args.run) c.requires.parts) (omega arith),
    )

pub part_end-requires : goal.part_end-requires
part_end-requires c =
    let part = c.args.run.parts.first + (c.args.run.parts.count - 1) in
    record {
      in_time = is_met-starts c.args.width part
          (All-run_of (IsPartOf c.args.width) c.args.run.table c.args.run.parts.first
          c.args.run.parts.count part c.requires.parts (omega arith)
          (omega (arith, c.requires.some)));
    }

pub returns-in-Some : goal.returns-in-Some
returns-in-Some c =
    let part = c.args.run.parts.first + (c.args.run.parts.count - 1) in
    record {
      exact = rw c.closed_mark.ensures.exact
          (sym (least-closed_run c.args.self.now c.args.width c.args.run.table
          c.args.run.parts.first c.args.run.parts.count part c.in-Some.greatest (record {
            rises = c.greatest_at.ensures.kept.numbers;
            begins = omega arith;
            ends = omega (arith, c.requires.some);
            found = sym (rw c.part_end.ensures.exact at c.in-Some.ensures.exact);
          })));
    }

pub returns-in-None : goal.returns-in-None
returns-in-None c =
    let part = c.args.run.parts.first + (c.args.run.parts.count - 1) in
    record {
      exact = sym (least-open_run c.args.self.now c.args.width c.args.run.table
          c.args.run.parts.first c.args.run.parts.count part (omega arith)
          (omega (arith, c.requires.some))
          (sym (rw c.part_end.ensures.exact at c.in-None.ensures.exact)));
    }
