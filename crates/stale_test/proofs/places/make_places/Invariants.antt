-- Those so far have a place, and nothing else has changed.
use Rattle.std.proofs.Common.{take}
use Rattle.std.specs.Prelude.{All}
use Rattle.stale_test.specs.Places.{HasPlace, KeepsValues}
use Rattle.stale_test.proofs.places.make_places.Given as goal

abbrev pub invariant-loop-key : goal.invariant-loop-key
invariant-loop-key g l = record {
  places : All (HasPlace l.map.entries) (take l.key-index l.keys);
  kept : KeepsValues l.empty l.fn.map.entries l.map.entries;
}
