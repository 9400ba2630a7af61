-- The pieces that are there, and those to come, are those that each partition gains.
use Rattle.std.proofs.Common.{◌≡◌, ◌++◌, length}
use Rattle.desc_types.specs.declared.table.Key.{Key}
use Rattle.raw_load.specs.Stretches.{found_at}
use Rattle.raw_load.specs.Pieces.{AreOrdered, HasPieceRooms, piece_of, pieces_at}
use Rattle.raw_load.proofs.parts.push_pieces.Given as goal

abbrev pub invariant-loop-key : goal.invariant-loop-key
invariant-loop-key l = record {
  whole : (key : Key)
      → pieces_at l.parts.entries key ++ piece_of l.delivery (found_at l.found.entries key)
      ≡ pieces_at l.fn.parts.entries key ++ piece_of l.delivery (found_at l.fn.found.entries key);
  room : HasPieceRooms l.parts.entries l.found.entries;
  ordered : AreOrdered l.fn.parts.entries → AreOrdered l.parts.entries;
}

abbrev pub decreases-loop-key : goal.decreases-loop-key
decreases-loop-key l = length l.found.entries
