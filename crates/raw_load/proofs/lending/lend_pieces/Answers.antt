-- If there is no memory for a piece, the rows from before stand in front of those so far.
use Rattle.std.proofs.Common.{rules}
use Rattle.view_meaning.proofs.ListLemmas.{BeginsWith-append}
use Rattle.raw_load.specs.Books.{rows_of}
use Rattle.raw_load.proofs.lending.lend_pieces.Goals as goal

pub returns-in_err-lend_piece-clause-err : goal.returns-in_err-lend_piece-clause-err
returns-in_err-lend_piece-clause-err c =
    let kept = BeginsWith-append (rows_of c.args.parts.now.items) _
    (rows_of c.lend_piece.new.parts.items)
    (rw c.loop-piece.invariant at c.in_err-lend_piece.ensures.err) in
    search rules
