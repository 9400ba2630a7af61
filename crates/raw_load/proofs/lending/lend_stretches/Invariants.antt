-- The stretches so far were lent.
use Rattle.std.proofs.Common.{◌≡◌, ◌++◌, take}
use Rattle.raw_load.specs.Books.{rows_of}
use Rattle.raw_load.specs.Stretches.{stretches_rows}
use Rattle.raw_load.proofs.lending.lend_stretches.Given as goal

abbrev pub invariant-loop-stretch : goal.invariant-loop-stretch
invariant-loop-stretch l = rows_of l.parts.items
    ≡ rows_of l.fn.parts.items ++ stretches_rows l.from (take l.stretch-index l.stretches)
