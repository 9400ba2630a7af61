use Rattle.std.proofs.lemmas.Slice.Zip.{Zip-more, either_empty_from_Zip}
use Rattle.table_desc.proofs.WritingLemmas.{aggs_spelled-none, aggs_spelled-step}
use Rattle.table_desc.proofs.writing.spelling.aggs_spelled.Goals as goal

pub loop-column-preserved : goal.loop-column-preserved
loop-column-preserved c =
    let more = Zip-more c.loop-column.column-iterator c.next.new.self c.next.result _ c.in-Some.is
    c.next.ensures.steps in
    aggs_spelled-step c.args.columns.now c.loop-column.made.items _ more.0 more.1
    c.agg_spelled.ensures.exact c.in_ok-push.ensures.items c.loop-column.invariant

pub returns : goal.returns
returns c =
    let none = either_empty_from_Zip c.loop-column.column-iterator c.next.new.self c.next.result
    c.in-None.is c.next.ensures.steps in
    record {
      exact = aggs_spelled-none c.args.columns.now _ _ c.loop-column.made.items _ none
          c.loop-column.invariant;
    }
