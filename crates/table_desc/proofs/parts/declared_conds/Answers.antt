use Rattle.std.proofs.Common.{sym}
use Rattle.table_desc.specs.Declarations.{declared_cond}
use Rattle.desc_types.proofs.ListLemmas.{filter_map-take}
use Rattle.table_desc.proofs.parts.declared_conds.Goals as goal

pub loop-cond-preserved : goal.loop-cond-preserved
loop-cond-preserved c =
    rw (
      c.in_ok-push_some.ensures.ok,
      c.in_ok-declared_cond.ensures.exact,
      c.cond-item.is,
      c.loop-cond.invariant,
    )
    (sym (filter_map-take (declared_cond c.args.columns.now) c.args.conds.now
    c.loop-cond.cond-index c.cond-item.result c.loop-cond-test.true))
