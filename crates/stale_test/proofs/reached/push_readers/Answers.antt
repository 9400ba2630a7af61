use Rattle.std.proofs.lemmas.Result.{on_ok_weaker}
use Rattle.stale_test.specs.PartLists.{lists_of}
use Rattle.stale_test.proofs.PartListLemmas.{All-in_time, Gains-dependents}
use Rattle.stale_test.proofs.reached.push_readers.Goals as goal

pub push_dependents-requires-clause-in_time : goal.push_dependents-requires-clause-in_time
push_dependents-requires-clause-in_time c =
    rw (c.width_of.ensures.exact, c.parts_of.ensures.exact)
    (All-in_time c.args.desc.now (lists_of c.args.lists.now) c.args.src.now.table
    c.requires.in_time)

pub returns-clause-ok : goal.returns-clause-ok
returns-clause-ok c =
    let told = rw (c.width_of.ensures.exact, c.parts_of.ensures.exact)
    at c.push_dependents.ensures.ok in
    on_ok_weaker c.push_dependents.result
    (λ pushed. Gains-dependents c.args.desc.now c.args.width c.args.src.now
    (lists_of c.args.lists.now) c.args.parts.now.items c.push_dependents.new.parts.items pushed)
    told
