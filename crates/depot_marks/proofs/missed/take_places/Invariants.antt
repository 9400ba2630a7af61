-- The partitions of the rows so far have places, and nothing more is missed.
use Rattle.std.proofs.Common.{◌≡◌, ℕ, take}
use Rattle.std.specs.Prelude.{All}
use Rattle.desc_types.specs.declared.table.Key.{Key}
use Rattle.depot_marks.specs.Missed.{HasPartOf, is_missed_to}
use Rattle.depot_marks.proofs.missed.take_places.Given as goal

abbrev pub invariant-loop-aside : goal.invariant-loop-aside
invariant-loop-aside l = record {
  places : All (HasPartOf l.parts.entries) (take l.aside-index l.asides);
  kept : (key : Key) (last : ℕ)
      → is_missed_to l.parts.entries key last ≡ is_missed_to l.fn.parts.entries key last;
}
