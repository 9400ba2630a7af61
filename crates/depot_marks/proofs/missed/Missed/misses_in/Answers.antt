-- Each entry at a partition of the run is looked at.
use Rattle.std.proofs.Common.{◌∙◌, ℕ, arith, refl, sym}
use Rattle.std.specs.Prelude.{Option}
use Rattle.std.proofs.lemmas.List.Elements.{All-tail}
use Rattle.desc_types.specs.declared.table.Key.{Key}
use Rattle.depot_marks.specs.Runs.{IsPartOf, keys_of_run}
use Rattle.depot_marks.proofs.MissedLemmas.{is_entry_missed, list_any-hit, list_any-miss}
use Rattle.depot_marks.proofs.MissedLemmas.{list_any-missed}
use Rattle.depot_marks.proofs.RunLemmas.{All-entries_at, IsInTime-parts, is_met-starts}
use Rattle.depot_marks.proofs.RunLemmas.{run_of-fits}
use Rattle.depot_marks.proofs.missed.Missed.misses_in.Goals as goal

pub entries_in-key-items-requires : goal.entries_in-key-items-requires
entries_in-key-items-requires c = record {
  fits = run_of-fits c.args.run.table c.args.run.parts.first c.args.run.parts.count
      (IsInTime-parts c.args.width (keys_of_run c.args.run) c.requires.parts) (omega arith);
}

pub loop-key-init : goal.loop-key-init
loop-key-init c = record {
  exact = rw (
    c.into_iter-key-iterator.ensures.into_iter_gives,
    c.entries_in-key-items.ensures.exact,
    ← c.self.view_is,
  )
      (list_any-missed c.self.inside.parts.entries c.args.closings.now.items c.args.width
      (keys_of_run c.args.run)
      (rw c.entries_in-key-items.ensures.exact at c.entries_in-key-items.ensures.found));
  parts = rw (
    c.into_iter-key-iterator.ensures.into_iter_gives,
    c.entries_in-key-items.ensures.exact,
  )
      (All-entries_at (IsPartOf c.args.width) (keys_of_run c.args.run) c.self.inside.parts.entries
      c.requires.parts);
}

pub part_end-requires : goal.part_end-requires
part_end-requires c = record {
  in_time = is_met-starts c.args.width c.in-Some.key.now.part
      ((rw c.in-Some.ensures.steps at c.loop-key.invariant.parts) 0
      (c.in-Some.key.now, c.in-Some.least.now) (omega arith));
}

pub returns-then-is_least_in : goal.returns-then-is_least_in
returns-then-is_least_in c = record {
  exact = list_any-hit (is_entry_missed c.args.closings.now.items c.args.width)
      (c.in-Some.key.now, c.in-Some.least.now) c.loop-key.key-iterator c.next.new.self _
      c.in-Some.ensures.steps
      (rw (← c.part_end.ensures.exact, ← c.greatest_at-expected.ensures.exact)
      (sym c.is_least_in.ensures.exact ∙ c.if-is_least_in.true))
      c.loop-key.invariant.exact;
}

pub loop-key-preserved : goal.loop-key-preserved
loop-key-preserved c = record {
  exact = list_any-miss (is_entry_missed c.args.closings.now.items c.args.width)
      (c.in-Some.key.now, c.in-Some.least.now) c.loop-key.key-iterator c.next.new.self _
      c.in-Some.ensures.steps
      (rw (← c.part_end.ensures.exact, ← c.greatest_at-expected.ensures.exact)
      (sym c.is_least_in.ensures.exact ∙ c.if-is_least_in.false))
      c.loop-key.invariant.exact;
  parts = All-tail (λ (entry : Key × Option ℕ). IsPartOf c.args.width entry.0)
      (c.in-Some.key.now, c.in-Some.least.now) c.next.new.self
      (rw c.in-Some.ensures.steps at c.loop-key.invariant.parts);
}

pub returns : goal.returns
returns c = record {
  exact = sym (sym c.loop-key.invariant.exact ∙ rw c.in-None.ensures.steps.0 refl);
}
