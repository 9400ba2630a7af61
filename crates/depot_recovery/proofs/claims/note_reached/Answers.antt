-- Each claim at a place that was reached is noted, up to the first at a place to come.
use Rattle.std.proofs.Common.{◌≡◌, arith, length}
use Rattle.depot_recovery.proofs.MayClaimLemmas.{may_claim-found}
use Rattle.depot_recovery.proofs.NotedLemmas.{AreNoted-more, AreUpToDate-rest, noted_of}
use Rattle.depot_recovery.proofs.claims.note_reached.Goals as goal

pub returns-then-len-claim : goal.returns-then-len-claim
returns-then-len-claim c =
    let core = c.args.core.now in
    let ready = c.loop-claim.ready in
    let count : c.len.result ≡ length ready.items = omega arith in
    record {
      ok = AreUpToDate-rest core.desc core.state.journal (noted_of c.args.claims.now ready.items)
          c.in-Some.claim.now c.loop-claim.invariant (omega (arith, c.in-Some.ensures.lookup.3.0))
          (rw (← count) c.in-Some.ensures.lookup.1) (omega arith);
    }

pub loop-claim-preserved : goal.loop-claim-preserved
loop-claim-preserved c =
    let core = c.args.core.now in
    let ready = c.loop-claim.ready in
    let count : c.len.result ≡ length ready.items = omega arith in
    rw c.in_ok-push.ensures.items (AreNoted-more core.desc core.state.journal c.args.claims.now
    ready.items c.in-Some.claim.now c.is_ready.result c.loop-claim.invariant
    (omega (arith, c.in-Some.ensures.lookup.3.0))
    (rw (← count) c.in-Some.ensures.lookup.1) (omega arith)
    (may_claim-found core.desc core.state.journal core c.in-Some.claim.now.key
    c.is_ready.result c.requires.found c.is_ready.ensures.exact))
