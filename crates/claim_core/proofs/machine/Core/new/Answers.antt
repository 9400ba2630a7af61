-- At the start nothing is accepted, claimed, pinned or held.
use Rattle.std.proofs.Common.{refl}
use Rattle.claim_core.proofs.StartLemmas.{HoldsLatest-nothing, IsSound-start}
use Rattle.claim_core.proofs.machine.Core.new.Goals as goal

pub invariant_of-result : goal.invariant_of-result
invariant_of-result c =
    rw c.new-7.ensures.items
    (IsSound-start _ (rw (c.new-4.ensures.pins, c.new-6.ensures.items) refl) c.in-Ok.ensures.loads
    (HoldsLatest-nothing c.args.served.desc c.new-5.result c.new-5.ensures.empty
    c.new-5.ensures.newest)
    c.in-Ok.ensures.tells c.in-Ok-new.ensures.exact (c.new-3.ensures.exact c.args.served.desc))
