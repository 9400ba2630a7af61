use Rattle.std.proofs.Common.{◌∙◌, sym, arith}
use Rattle.std.proofs.lemmas.List.{take_all}
use Rattle.view_meaning.proofs.RawLemmas.{raw_version-none}
use Rattle.view_meaning.proofs.UntilClosedLemmas.{raw_version-until_closed}
use Rattle.view_meaning.proofs.plain.plain_version.Goals as goal

pub returns-in_default : goal.returns-in_default
returns-in_default c = record {
  exact = sym (raw_version-none c.args.desc.now c.args.accepted.now c.args.key
      (sym c.in_default.ensures.exact));
}

pub returns : goal.returns
returns c =
    let all = take_all c.loop-delivery.delivery-index c.until_closed-deliveries.result.now
    (omega arith) in
    record {
      exact = rw (all, c.until_closed-deliveries.ensures.exact)
          at c.loop-delivery.invariant.counted
          ∙ sym (raw_version-until_closed c.args.desc.now c.args.accepted.now c.args.key
          c.in-Some.table.now (sym c.in-Some.ensures.exact));
    }
