-- The rows so far are missed too, and no partition loses its place.
use Rattle.std.proofs.Common.{◌≡◌, ℕ, take}
use Rattle.std.specs.Prelude.{◌||◌}
use Rattle.std.specs.List.{list_any}
use Rattle.desc_types.specs.declared.table.Key.{Key}
use Rattle.view_meaning.specs.RawMarks.{is_missed}
use Rattle.depot_marks.specs.Missed.{HasPart, is_missed_to}
use Rattle.depot_marks.proofs.missed.note_all.Given as goal

abbrev pub invariant-loop-aside : goal.invariant-loop-aside
invariant-loop-aside l = record {
  places : (key : Key) → HasPart l.fn.parts.entries key → HasPart l.parts.entries key;
  exact : (key : Key) (last : ℕ) → is_missed_to l.parts.entries key last
      ≡ (is_missed_to l.fn.parts.entries key last
      || list_any (is_missed key last) (take l.aside-index l.asides));
}
