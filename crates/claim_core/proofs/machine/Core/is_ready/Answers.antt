-- All tests but the last one were passed, and the last one tells whether the partition is claimed.
use Rattle.std.proofs.Common.{◌≡◌, ◌∙◌, ap, sym, true}
use Rattle.std.specs.List.{list_any}
use Rattle.std.proofs.lemmas.Bool.{both_ways}
use Rattle.view_meaning.specs.Partitions.{is_key, is_part}
use Rattle.stale_test.specs.Books.{TellsStale}
use Rattle.machine_meaning.specs.declared.claim.Claim.{Claim}
use Rattle.claim_core.proofs.ClaimingLemmas.{TellsReady-claimed}
use Rattle.claim_core.proofs.machine.Core.is_ready.Goals as goal
use Rattle.claim_core.proofs.machine.Core.is_ready.Goals.{else-is_part, else-is_stale}
use Rattle.claim_core.proofs.machine.Core.is_ready.Goals.{then-is_part, then-is_stale}

pub returns-then-has_settled_sources : goal.returns-then-has_settled_sources
returns-then-has_settled_sources c =
    let desc = c.args.self.now.desc in
    let state = c.args.self.now.state in
    let tells : TellsStale desc state.journal c.self.inside.stale =
    rw (← c.self.view_is) c.self.invariant.stale in
    let taken : c.is_claimed.result
    ≡ list_any (λ (claim : Claim). is_key c.args.key claim.key) state.claims =
    rw (← c.self.view_is) (c.is_claimed.ensures.exact
    ∙ ap (list_any (λ (claim : Claim). is_key c.args.key claim.key)) c.deref.ensures.value) in
    elim c.if-is_stale.branch [
      | then-is_stale ready ↦ elim c.if-is_part.branch [
        | then-is_part there ↦
            let part : is_part desc c.args.key ≡ true =
            sym c.is_part.ensures.exact ∙ there.if-is_part.true in
            record {
              exact = TellsReady-claimed desc state c.args.key c.is_claimed.result part
                  (sym (there.is_stale.ensures.exact desc state.journal tells part)
                  ∙ sym there.value-is ∙ ready.if-is_stale.true)
                  (sym ready.has_settled_sources.ensures.exact
                  ∙ sym ready.value-is ∙ c.if-has_settled_sources.true)
                  taken;
            }
        | else-is_part none ↦ absurd (both_ways c.if-is_part.value
            (none.value-is ∙ none.if-is_part.false) ready.if-is_stale.true)
      ]
      | else-is_stale fresh ↦ absurd (both_ways c.if-is_stale.value
          (fresh.value-is ∙ fresh.if-is_stale.false) c.if-has_settled_sources.true)
    ]
