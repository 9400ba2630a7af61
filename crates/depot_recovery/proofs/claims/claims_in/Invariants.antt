-- The claims of the bodies so far stand there.
use Rattle.std.proofs.Common.{◌≡◌}
use Rattle.depot_recovery.proofs.ListedLemmas.{claims_upto}
use Rattle.depot_recovery.proofs.claims.claims_in.Given as goal

abbrev pub invariant-loop-number : goal.invariant-loop-number
invariant-loop-number l = l.claims.items ≡ claims_upto l.bodies l.number
