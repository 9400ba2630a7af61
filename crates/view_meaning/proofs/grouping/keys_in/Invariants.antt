use Rattle.std.proofs.Common.{◌≡◌, take}
use Rattle.view_meaning.specs.Operations.{keys_in}
use Rattle.view_meaning.proofs.grouping.keys_in.Given as goal

-- the keys are those of the rows so far
abbrev pub invariant-loop-row : goal.invariant-loop-row
invariant-loop-row l = l.keys.items ≡ keys_in l.columns (take l.row-index l.row-items)
