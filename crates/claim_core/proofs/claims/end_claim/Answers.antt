-- The claims that stay are those of other ids.
use Rattle.std.proofs.Common.{rules}
use Rattle.std.proofs.lemmas.Fn.{filter_same}
use Rattle.claim_core.proofs.claims.end_claim.Goals as goal

pub returns : goal.returns
returns c = record {
  exact = filter_same _ _ _ (λ claim keeps after call. search rules) _ _ c.retain.ensures.filtered;
}
