-- Each partition keeps its pieces, and those so far have room.
use Rattle.std.specs.Prelude.{All}
use Rattle.std.specs.Borrow.{Bor}
use Rattle.desc_types.specs.declared.table.Key.{Key}
use Rattle.raw_load.specs.Pieces.{HasPieceRoom, KeepsPieces}
use Rattle.raw_load.proofs.parts.make_room.Given as goal

abbrev pub invariant-loop-key : goal.invariant-loop-key
invariant-loop-key l = record {
  rooms : All (λ (key : Bor Key). HasPieceRoom l.parts.entries key.now) l.yielded;
  kept : KeepsPieces l.fn.parts.entries l.parts.entries;
}
