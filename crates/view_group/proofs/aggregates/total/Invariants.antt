-- The sum is that of the rows so far, and each of them adds at most 2^63.
use Rattle.std.proofs.Common.{◌≡◌, ◌≤◌, ◌*◌, ◌^◌, map, take}
use Rattle.std.specs.Prelude.{unsigned_abs}
use Rattle.view_meaning.specs.Operations.{total}
use Rattle.view_group.proofs.aggregates.total.Given as goal

abbrev pub invariant-loop-member : goal.invariant-loop-member
invariant-loop-member l = record {
  summed : l.sum
      ≡ total l.column (map (λ member. member.now) (take l.member-index l.members));
  within : unsigned_abs l.sum ≤ l.member-index * 2 ^ 63;
}
