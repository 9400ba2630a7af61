use Rattle.std.proofs.Common.{◌∙◌, sym}
use Rattle.std.proofs.lemmas.List.{take_rest}
use Rattle.desc_causes.proofs.DifferentLemmas.{are_different-none, are_different-same}
use Rattle.desc_causes.proofs.named.are_different.Goals as goal

pub returns-then-is_among : goal.returns-then-is_among
returns-then-is_among c =
    let among = rw (take_rest c.loop-rest.rest.now 1) at c.is_among.ensures.exact in
    record {
      exact = sym (c.loop-rest.invariant ∙ are_different-none c.loop-rest.rest.now _
          c.is_among.result c.in-len1-up.len_at_least among c.if-is_among.true);
    }

pub loop-rest-preserved : goal.loop-rest-preserved
loop-rest-preserved c =
    let among = rw (take_rest c.loop-rest.rest.now 1) at c.is_among.ensures.exact in
    rw (take_rest c.loop-rest.rest.now 1)
    (c.loop-rest.invariant ∙ are_different-same c.loop-rest.rest.now _ c.is_among.result
    c.in-len1-up.len_at_least among c.if-is_among.false)
