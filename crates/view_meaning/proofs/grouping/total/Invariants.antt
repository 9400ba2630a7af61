use Rattle.std.proofs.Common.{◌≡◌, ◌≤◌, ◌*◌, ◌^◌, take}
use Rattle.std.specs.Prelude.{unsigned_abs}
use Rattle.view_meaning.specs.Operations.{total}
use Rattle.view_meaning.proofs.grouping.total.Given as goal

-- the sum is that of the rows so far, and each of them adds at most 2^63
abbrev pub invariant-loop-row : goal.invariant-loop-row
invariant-loop-row l = record {
  summed : l.sum ≡ total l.column (take l.row-index l.row-items);
  within : unsigned_abs l.sum ≤ l.row-index * 2 ^ 63;
}
