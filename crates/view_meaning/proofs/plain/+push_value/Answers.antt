use Rattle.std.proofs.Common.{[], refl, sym, ap, arith}
use Rattle.desc_types.specs.Tables.{TableOf}
use Rattle.desc_types.specs.KindValues.{Filter, Group, Join}
use Rattle.view_meaning.specs.Values.{value_within}
use Rattle.view_meaning.proofs.ValueLemmas.{rows_of_run-push, value_within-view}
use Rattle.view_meaning.proofs.plain.+push_value.Goals as goal

pub push_value-returns-in_ok-source-in-Filter-clause-ok :
    goal.push_value-returns-in_ok-source-in-Filter-clause-ok
push_value-returns-in_ok-source-in-Filter-clause-ok t c =
    let kind = Filter c.in-Filter.src c.in-Filter.conds.items c.in-Filter.keep.items in
    let value = value_within-view c.args.desc.now c.args.accepted.now c.args.depth c.args.key
    c.in-Some.table.now kind c.table.inside.width c.in_ok-source-in-Filter.source []
    (omega arith) (sym c.in-Some.ensures.exact)
    (rw (← c.table.view_is, c.in-Filter.is) refl) refl
    (ap (λ (table : TableOf). table.width) c.table.view_is)
    c.in_ok-source-in-Filter.ensures.exact refl in
    rw value (rw (c.deref.ensures.value, c.deref-in-Filter.ensures.value)
    at c.push_filtered.ensures.ok)

pub push_value-returns-in_ok-source-in-Group-clause-ok :
    goal.push_value-returns-in_ok-source-in-Group-clause-ok
push_value-returns-in_ok-source-in-Group-clause-ok t c =
    let kind = Group c.in-Group.src c.in-Group.keys.items c.in-Group.aggs.items in
    let value = value_within-view c.args.desc.now c.args.accepted.now c.args.depth c.args.key
    c.in-Some.table.now kind c.table.inside.width c.in_ok-source-in-Group.source []
    (omega arith) (sym c.in-Some.ensures.exact)
    (rw (← c.table.view_is, c.in-Group.is) refl) refl
    (ap (λ (table : TableOf). table.width) c.table.view_is)
    c.in_ok-source-in-Group.ensures.exact refl in
    rw value (rw (c.deref-in-Group.ensures.value, c.deref-in-Group-2.ensures.value)
    at c.push_groups.ensures.ok)

pub push_value-returns-in_ok-right-in-Join-clause-ok :
    goal.push_value-returns-in_ok-right-in-Join-clause-ok
push_value-returns-in_ok-right-in-Join-clause-ok t c =
    let kind = Join c.in-Join.left c.in-Join.right c.in-Join.on.items in
    let value = value_within-view c.args.desc.now c.args.accepted.now c.args.depth c.args.key
    c.in-Some.table.now kind c.table.inside.width c.in_ok-left-in-Join.left
    c.in_ok-right-in-Join.right (omega arith) (sym c.in-Some.ensures.exact)
    (rw (← c.table.view_is, c.in-Join.is) refl) refl
    (ap (λ (table : TableOf). table.width) c.table.view_is)
    c.in_ok-left-in-Join.ensures.exact c.in_ok-right-in-Join.ensures.exact in
    rw value (rw c.deref-in-Join.ensures.value at c.push_joined.ensures.ok)

pub source_rows-loop-part-preserved : goal.source_rows-loop-part-preserved
source_rows-loop-part-preserved t c =
    rows_of_run-push (value_within c.args.depth c.args.desc.now c.args.accepted.now)
    c.args.src.table c.source_parts-read.result.first c.loop-part.part c.loop-part.rows
    c.push_value.new.rows (omega arith) c.loop-part.invariant c.in_ok-push_value.ensures.ok
