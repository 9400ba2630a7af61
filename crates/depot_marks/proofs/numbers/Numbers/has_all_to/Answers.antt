-- The number is below the first that is missing.
use Rattle.std.proofs.Common.{arith, sym}
use Rattle.depot_marks.proofs.NumberLemmas.{list_all-missing}
use Rattle.depot_marks.proofs.numbers.Numbers.has_all_to.Goals as goal

pub returns : goal.returns
returns c = record {
  exact = rw (← c.self.view_is, c.from.ensures)
      (sym (list_all-missing _ c.args.last (omega arith) c.self.invariant));
}
