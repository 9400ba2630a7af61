-- A partition of the run is one of its table, and its mark is told.
use Rattle.std.proofs.Common.{◌∙◌, List, ◌++◌, ◌∷◌, [], ap, arith}
use Rattle.desc_types.specs.declared.table.Key.{Key}
use Rattle.view_meaning.specs.declared.request.Mark.{Mark}
use Rattle.view_meaning.specs.declared.request.MarkItem.{MarkItem}
use Rattle.view_meaning.specs.Marks.{mark_of}
use Rattle.claim_core.proofs.MarkingLemmas.{told_each-step}
use Rattle.claim_core.proofs.PinningLemmas.{is_part-asked, item-in_time}
use Rattle.claim_core.proofs.machine.Core.push_marks.Goals as goal

pub mark-requires : goal.mark-requires
mark-requires c = record {
  part = is_part-asked c.args.self.now.desc c.args.item c.parts_of-asked.result.first
      c.parts_of-asked.result.count c.loop-part.part (item-in_time c.args.item c.requires.range)
      c.parts_of-asked.ensures.exact c.loop-part.auto.part
      (omega (arith, c.loop-part-test.true, c.loop-part.auto.part-end));
}

pub loop-part-preserved : goal.loop-part-preserved
loop-part-preserved c =
    let desc = c.args.self.now.desc in
    let journal = c.args.self.now.state.journal in
    let key : Key = record { table = c.args.item.table; part = c.loop-part.part } in
    let with_mark : Mark → List MarkItem =
    λ mark. c.loop-part.marks.items ++ record { key = key; mark = mark } ∷ [] in
    told_each-step (λ (key : Key). record { key = key; mark = mark_of desc journal key })
    (λ part. record { table = c.args.item.table; part = part })
    c.parts_of-asked.result.first c.loop-part.part c.args.marks.now.items c.loop-part.marks.items
    c.push.new.self.items c.loop-part.auto.part c.loop-part.invariant
    (c.in_ok-push.ensures.items ∙ ap with_mark c.in_ok-mark.ensures.exact)
