-- The pieces so far were lent.
use Rattle.std.proofs.Common.{◌≡◌, ◌++◌, take}
use Rattle.std.specs.Prelude.{flat_map}
use Rattle.raw_load.specs.Books.{rows_of}
use Rattle.raw_load.specs.Pieces.{piece_rows}
use Rattle.raw_load.proofs.lending.lend_pieces.Given as goal

abbrev pub invariant-loop-piece : goal.invariant-loop-piece
invariant-loop-piece l = rows_of l.parts.items
    ≡ rows_of l.fn.parts.items ++ flat_map (piece_rows l.deliveries) (take l.piece-index l.pieces)
