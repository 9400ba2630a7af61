-- the words are different if those that are left are
use Rattle.std.proofs.Common.{◌≡◌, length, map}
use Rattle.desc_types.specs.Columns.{are_different}
use Rattle.desc_causes.proofs.named.are_different.Given as goal

abbrev pub invariant-loop-rest : goal.invariant-loop-rest
invariant-loop-rest l =
    are_different (map (λ word. word.now) l.words) ≡ are_different (map (λ word. word.now) l.rest)

abbrev pub decreases-loop-rest : goal.decreases-loop-rest
decreases-loop-rest l = length l.rest
