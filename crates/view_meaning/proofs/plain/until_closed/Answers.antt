use Rattle.std.proofs.Common.{sym, arith}
use Rattle.std.proofs.lemmas.List.{take_all}
use Rattle.view_meaning.proofs.UntilClosedLemmas.{until_closed-none, until_closed-take}
use Rattle.view_meaning.proofs.plain.until_closed.Goals as goal

pub returns-then-closes : goal.returns-then-closes
returns-then-closes c = record {
  exact = sym (until_closed-take c.args.desc.now c.args.key c.args.accepted.now c.loop-index.index
      c.index-accepted-index.result c.loop-index-test.true c.index-accepted-index.is
      c.loop-index.invariant (sym c.if-closes.ensures.exact));
}

pub returns : goal.returns
returns c =
    let all = take_all c.loop-index.index c.args.accepted.now (omega arith) in
    record {
      exact = sym (until_closed-none c.args.desc.now c.args.key c.args.accepted.now
          (rw all at c.loop-index.invariant));
    }
