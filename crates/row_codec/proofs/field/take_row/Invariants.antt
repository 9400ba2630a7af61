-- the cells so far, and after them what the rest gives, are the whole row
use Rattle.std.proofs.Common.{◌≡◌, drop, map}
use Rattle.row_codec.specs.Reading.{row_at, wanted_of}
use Rattle.row_codec.proofs.LoopLemmas.{with_front}
use Rattle.row_codec.proofs.field.take_row.Given as goal

abbrev pub invariant-loop-ty : goal.invariant-loop-ty
invariant-loop-ty l = with_front l.row (row_at (drop l.ty-index (map wanted_of l.types)) l.rest)
    ≡ row_at (map wanted_of l.types) l.fn.bytes
