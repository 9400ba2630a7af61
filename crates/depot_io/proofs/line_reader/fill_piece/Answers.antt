-- What the source gave stands after the front that was filled before.
use Rattle.std.proofs.Common.{rules, arith, ◌-◌, ◌≤◌, length}
use Rattle.std.proofs.KnownBytes.{Consumes-trans}
use borrow.Rule.Slice.PartMut.{same_len_mid}
use Rattle.depot_io.proofs.PieceLemmas.{take-put_mid-add}
use Rattle.depot_io.proofs.line_reader.fill_piece.Goals as goal

pub loop-filled-preserved : goal.loop-filled-preserved
loop-filled-preserved g c =
    let room = length c.loop-filled.piece - c.loop-filled.filled in
    let fits : c.in-Ok.count ≤ length c.take.new.into = omega (arith, c.in-Ok.ensures.within) in
    record {
      within = rw (same_len_mid c.loop-filled.filled room c.loop-filled.piece c.take.new.into
          (omega arith)) (omega arith);
      took = rw (take-put_mid-add c.loop-filled.filled room c.in-Ok.count c.loop-filled.piece
          c.take.new.into (omega arith) fits)
          (Consumes-trans _ _ _ _ _ c.loop-filled.invariant.took c.in-Ok.ensures.left.0);
      counted = search rules;
      kept = search rules;
      loan = search rules;
    }
