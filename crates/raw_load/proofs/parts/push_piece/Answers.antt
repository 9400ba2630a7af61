-- The piece stands at the end of those of its partition.
use Rattle.std.proofs.Common.{refl}
use Rattle.raw_load.proofs.PartLemmas.{GainsPiece-update}
use Rattle.raw_load.proofs.parts.push_piece.Goals as goal

pub returns : goal.returns
returns c = record {
  gained = GainsPiece-update c.args.key c.args.piece c.in-Some.pieces.now c.push.new.self _ _
      c.in-Some.ensures.value c.in-Ok.ensures.items
      ((c.get_mut.follows.holds c.push.new.self).3 (rw (← c.in-Some.ensures.value) refl)).0
      (c.get_mut.follows.holds c.push.new.self).4;
}
