-- A partition of the run is one of its table, and one more is told if it has the level.
use Rattle.std.proofs.Common.{arith}
use Rattle.view_meaning.specs.Shown.{has_level}
use Rattle.claim_core.specs.Cores.{shown_item}
use Rattle.claim_core.proofs.PinningLemmas.{is_part-asked, item-in_time, told_to-step}
use Rattle.claim_core.proofs.machine.Core.push_shown.Goals as goal

pub push_at_level-requires : goal.push_at_level-requires
push_at_level-requires c = record {
  part = is_part-asked c.args.self.now.desc c.args.item c.parts_of-asked.result.first
      c.parts_of-asked.result.count c.loop-part.part (item-in_time c.args.item c.requires.range)
      c.parts_of-asked.ensures.exact c.loop-part.auto.part
      (omega (arith, c.loop-part-test.true, c.loop-part.auto.part-end));
}

pub loop-part-preserved : goal.loop-part-preserved
loop-part-preserved c =
    told_to-step (has_level c.args.self.now.desc c.args.self.now.state.journal c.args.item.level)
    (shown_item c.args.self.now.desc c.args.self.now.state.journal)
    (λ part. record { table = c.args.item.table; part = part })
    c.parts_of-asked.result.first c.loop-part.part c.args.items.now.items c.loop-part.items.items
    c.push_at_level.new.items.items c.loop-part.auto.part c.loop-part.invariant
    c.in_ok-push_at_level.ensures.ok
