-- What is read of the file of a latest install is kept.
use Rattle.std.proofs.Common.{◌∙◌, sym}
use Rattle.std.specs.Arc.{arc_value}
use Rattle.version_store.specs.Shelves.{kept_in}
use Rattle.depot_recovery.specs.Replaying.{depot_by}
use Rattle.depot_recovery.specs.Shelving.{latest_in}
use Rattle.table_desc.proofs.TextLemmas.{Err-passed}
use Rattle.depot_recovery.proofs.ShelvedLemmas.{rows_found-fault, rows_found-kept}
use Rattle.depot_recovery.proofs.shelving.shelve_next.Goals as goal

pub returns-in_err-rows-clause-exact : goal.returns-in_err-rows-clause-exact
returns-in_err-rows-clause-exact g c =
    rw (Err-passed c.from_residual.result c.in_err-rows.field-0.0 c.from_residual.ensures.1)
    (rows_found-fault (g.D.Disk.state c.args.disk.now).holds c.args.core.now.desc
    c.served.result.now.desc c.args.number c.in-Some.latest
    (latest_in (depot_by c.args.bodies.now c.args.core.now) c.args.number)
    c.in_err-rows.field-0.0 c.served.ensures.exact
    (sym c.in-Some.is ∙ c.latest_at.ensures.exact) c.in_err-rows.ensures.exact)

pub returns-clause-exact : goal.returns-clause-exact
returns-clause-exact g c =
    rows_found-kept (g.D.Disk.state c.args.disk.now).holds c.args.core.now.desc
    c.served.result.now.desc c.args.number c.in-Some.latest
    (latest_in (depot_by c.args.bodies.now c.args.core.now) c.args.number)
    (arc_value c.in_ok-rows.rows) (kept_in c.reserve.new.self) (kept_in c.adopt.new.self)
    c.served.ensures.exact (sym c.in-Some.is ∙ c.latest_at.ensures.exact) c.adopt.ensures.kept
    c.in_ok-rows.ensures.exact
