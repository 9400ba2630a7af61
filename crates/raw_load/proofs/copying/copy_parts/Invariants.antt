-- The parts so far were copied.
use Rattle.std.proofs.Common.{◌≡◌, take}
use Rattle.raw_load.specs.Books.{rows_of}
use Rattle.raw_load.proofs.copying.copy_parts.Given as goal

abbrev pub invariant-loop-part : goal.invariant-loop-part
invariant-loop-part l = l.rows ≡ rows_of (take l.part-index l.parts)
