-- The partition is claimed exactly if it is so in what is left.
use Rattle.std.proofs.Common.{drop, ◌≡◌}
use Rattle.std.specs.List.{list_any}
use Rattle.view_meaning.specs.Partitions.{is_key}
use Rattle.machine_meaning.specs.declared.claim.Claim.{Claim}
use Rattle.claim_core.proofs.claims.is_claimed.Given as goal

abbrev pub invariant-loop-claim : goal.invariant-loop-claim
invariant-loop-claim l = list_any (λ (claim : Claim). is_key l.key claim.key) l.claims
    ≡ list_any (λ (claim : Claim). is_key l.key claim.key) (drop l.claim-index l.claims)
