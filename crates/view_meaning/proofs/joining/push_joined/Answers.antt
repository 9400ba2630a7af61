use Rattle.std.proofs.Common.{rules}
use Rattle.view_meaning.proofs.ListLemmas.{BeginsWith-append}
use Rattle.view_meaning.proofs.joining.push_joined.Goals as goal

pub returns-in_err-push_beside-clause-err : goal.returns-in_err-push_beside-clause-err
returns-in_err-push_beside-clause-err c =
    let kept = BeginsWith-append c.args.rows.now _ c.push_beside-in-loop-row.new.rows
    (rw c.loop-row.invariant at c.in_err-push_beside.ensures.err) in
    search rules
