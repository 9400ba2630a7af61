-- A body more: the claim that it tells is added, if it tells one.
use Rattle.std.proofs.Common.{◌∙◌, None, Some, arith, sym}
use Rattle.std.proofs.lemmas.List.{append-nil}
use Rattle.depot_recovery.proofs.ListedLemmas.{claims_upto, claims_upto-step}
use Rattle.depot_recovery.proofs.claims.claims_in.Goals as goal
use Rattle.depot_recovery.proofs.claims.claims_in.Goals.{in-Some+in_ok-push, in_default}

pub loop-number-preserved : goal.loop-number-preserved
loop-number-preserved c =
    let bodies = c.args.bodies.now in
    let number = c.loop-number.number in
    elim c.match-claim_of.branch [
      | in-Some+in_ok-push w ↦
          rw (w.claims-is, w.in_ok-push.ensures.items, c.loop-number.invariant)
          (sym (claims_upto-step bodies number (Some w.in-Some.claim) (omega arith) (omega arith)
          w.in-Some.ensures.exact))
      | in_default w ↦
          rw (w.claims-is, c.loop-number.invariant, ← append-nil (claims_upto bodies number))
          (sym (claims_upto-step bodies number None (omega arith) (omega arith)
          (sym w.in_default.is ∙ c.claim_of.ensures.exact)))
    ]
