use Rattle.std.proofs.Common.{rules, ◌∙◌, ◌++◌, List, sym, ap, arith}
use Rattle.std.proofs.lemmas.List.{append-nil, take_all}
use Rattle.depot_cell.specs.declared.cell.Cell.{Cell}
use Rattle.view_meaning.proofs.ListLemmas.{BeginsWith-append}
use Rattle.view_meaning.proofs.RawLemmas.{raw_value-none}
use Rattle.view_meaning.proofs.UntilClosedLemmas.{raw_value-until_closed}
use Rattle.view_meaning.proofs.plain.push_raw.Goals as goal

pub returns-in_default-clause-ok : goal.returns-in_default-clause-ok
returns-in_default-clause-ok c =
    sym (ap (λ (rows : List (List Cell)). c.args.rows.now ++ rows)
    (raw_value-none c.args.desc.now c.args.accepted.now c.args.key (sym c.in_default.ensures.exact))
    ∙ append-nil c.args.rows.now)

pub returns-in_err-push_rows-clause-err : goal.returns-in_err-push_rows-clause-err
returns-in_err-push_rows-clause-err c =
    let kept = BeginsWith-append c.args.rows.now _ c.push_rows.new.rows
    (rw c.loop-delivery.invariant at c.in_err-push_rows.ensures.err) in
    search rules

pub returns-clause-ok : goal.returns-clause-ok
returns-clause-ok c =
    let all = take_all c.loop-delivery.delivery-index c.until_closed-deliveries.result.now
    (omega arith) in
    rw (raw_value-until_closed c.args.desc.now c.args.accepted.now c.args.key c.in-Some.table.now
    (sym c.in-Some.ensures.exact))
    (rw (all, c.until_closed-deliveries.ensures.exact) at c.loop-delivery.invariant)
