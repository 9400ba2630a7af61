-- The rows so far were copied.
use Rattle.std.proofs.Common.{◌≡◌, ◌++◌, take}
use Rattle.raw_load.proofs.copying.push_copies.Given as goal

abbrev pub invariant-loop-index : goal.invariant-loop-index
invariant-loop-index l = l.rows ≡ l.fn.rows ++ take l.index l.part
