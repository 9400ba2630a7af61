-- Each unsettled partition that is found is ready, or it is passed.
use Rattle.std.proofs.Common.{arith}
use Rattle.claim_core.proofs.NextLemmas.{HasPassed-next, IsNextReady-found, IsNextReady-none}
use Rattle.claim_core.proofs.NextLemmas.{ahead-after, is_part-unsettled, part-below}
use Rattle.claim_core.proofs.machine.Core.next_ready.Goals as goal

pub returns-then-is_ready : goal.returns-then-is_ready
returns-then-is_ready c =
    record {
      exact = IsNextReady-found c.args.self.now.desc c.args.self.now.state c.args.from
          c.loop-key.from c.in-Some.key c.in-Some.ensures.earlier c.loop-key.invariant c.in-Some.ensures.exact
          c.if-is_ready.ensures.exact;
    }

pub overflow_add-from : goal.overflow_add-from
overflow_add-from c =
    omega (
      arith,
      part-below c.args.self.now.desc c.in-Some.key
          (is_part-unsettled c.args.self.now.desc c.args.self.now.state.journal c.in-Some.key
          c.in-Some.ensures.exact.among),
    )

pub loop-key-smaller : goal.loop-key-smaller
loop-key-smaller c =
    ahead-after c.args.self.now.desc c.loop-key.from c.in-Some.key
    (is_part-unsettled c.args.self.now.desc c.args.self.now.state.journal c.in-Some.key
    c.in-Some.ensures.exact.among) c.in-Some.ensures.exact.not_before

pub loop-key-preserved : goal.loop-key-preserved
loop-key-preserved c =
    HasPassed-next c.args.self.now.desc c.args.self.now.state c.args.from c.loop-key.from
    c.in-Some.key c.in-Some.ensures.earlier c.loop-key.invariant c.in-Some.ensures.exact
    c.if-is_ready.ensures.exact

pub returns : goal.returns
returns c =
    record {
      exact = IsNextReady-none c.args.self.now.desc c.args.self.now.state c.args.from
          c.loop-key.from c.in_default.ensures.earlier c.loop-key.invariant c.in_default.ensures.exact;
    }
