-- The best is that of the rows so far.
use Rattle.std.proofs.Common.{◌≡◌, map, take}
use Rattle.std.specs.Option.{option_copied}
use Rattle.view_meaning.specs.Operations.{best_by, column_of}
use Rattle.view_group.proofs.aggregates.best_by.Given as goal

abbrev pub invariant-loop-member : goal.invariant-loop-member
invariant-loop-member l = option_copied l.best ≡ best_by l.op
    (column_of l.column (map (λ member. member.now) (take l.member-index l.members)))
