use Rattle.std.proofs.Common.{◌≡◌, ap, refl, arith}
use Rattle.std.proofs.lemmas.Result.{on_ok_weaker}
use Rattle.desc_types.specs.Tables.{TableOf}
use Rattle.desc_types.specs.KindValues.{Join}
use Rattle.stale_test.specs.PartLists.{lists_of}
use Rattle.view_meaning.proofs.ListLemmas.{BeginsWith-step}
use Rattle.stale_test.proofs.PartListLemmas.{Gains-both}
use Rattle.stale_test.proofs.reached.push_above.Goals as goal

pub push_readers-requires-in-Join-2-clause-fits : goal.push_readers-requires-in-Join-2-clause-fits
push_readers-requires-in-Join-2-clause-fits c =
    let width = ap (λ (table : TableOf). table.width) c.table.view_is in
    let kind : c.args.table.now.kind
    ≡ Join c.in-Join.left c.in-Join.right c.in-Join.on.items =
    rw (← c.table.view_is, c.in-Join.is) refl in
    rw width ((rw kind at c.requires.fits) 1 c.in-Join.right (omega arith))

pub returns-in_ok-push_readers-in-Join-clause-ok :
    goal.returns-in_ok-push_readers-in-Join-clause-ok
returns-in_ok-push_readers-in-Join-clause-ok c =
    let width = ap (λ (table : TableOf). table.width) c.table.view_is in
    let kind : c.args.table.now.kind
    ≡ Join c.in-Join.left c.in-Join.right c.in-Join.on.items =
    rw (← c.table.view_is, c.in-Join.is) refl in
    rw (kind, ← width)
    (on_ok_weaker c.push_readers-in-Join-2.result
    (Gains-both c.args.desc.now (lists_of c.args.lists.now) c.table.inside.width c.in-Join.left
    c.in-Join.right c.args.parts.now.items c.push_readers-in-Join.new.parts.items
    c.push_readers-in-Join-2.new.parts.items c.in_ok-push_readers-in-Join.ensures.ok)
    c.push_readers-in-Join-2.ensures.ok)

pub returns-in_ok-push_readers-in-Join-clause-kept :
    goal.returns-in_ok-push_readers-in-Join-clause-kept
returns-in_ok-push_readers-in-Join-clause-kept c =
    BeginsWith-step c.args.parts.now.items c.push_readers-in-Join.new.parts.items
    c.push_readers-in-Join-2.new.parts.items c.push_readers-in-Join.ensures.kept
    c.push_readers-in-Join-2.ensures.kept
