-- Two sources are joined.
use Rattle.std.proofs.Common.{◌≡◌, refl, ap}
use Rattle.desc_types.specs.KindValues.{Join}
use Rattle.desc_types.specs.Tables.{TableOf}
use Rattle.stale_test.proofs.StandingLemmas.{IsWorst-both}
use Rattle.stale_test.proofs.kept.Kept.worst_below.Goals as goal

pub returns-in-Join : goal.returns-in-Join
returns-in-Join c =
    let width = ap (λ (table : TableOf). table.width) c.table.view_is in
    let kind : c.args.table.now.kind ≡ Join c.in-Join.left c.in-Join.right c.in-Join.on.items =
    rw (← c.table.view_is, c.in-Join.is) refl in
    rw (kind, ← width, c.worse.ensures.exact)
    record {
      exact = IsWorst-both c.args.desc.now c.args.self.now.parts.entries
          c.args.self.now.unsettled.entries c.args.at c.table.inside.width c.args.part
          c.in-Join.left c.in-Join.right c.worst_read-standing.result c.worst_read-in-Join.result
          c.worst_read-standing.ensures.exact c.worst_read-in-Join.ensures.exact;
    }
