-- The claim is found in what is left.
use Rattle.std.proofs.Common.{drop, ◌≡◌}
use Rattle.machine_meaning.specs.Events.{claim_at}
use Rattle.claim_core.proofs.claims.find_claim.Given as goal

abbrev pub invariant-loop-claim : goal.invariant-loop-claim
invariant-loop-claim l = claim_at l.id l.claims ≡ claim_at l.id (drop l.claim-index l.claims)
