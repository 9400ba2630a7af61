-- A fault of the files of latest installs is one of the image.
use Rattle.std.specs.Prelude.{Err, Ok}
use Rattle.table_desc.proofs.TextLemmas.{Err-passed}
use Rattle.depot_recovery.specs.Replaying.{depot_by}
use Rattle.depot_recovery.proofs.FoundLemmas.{fault-found}
use Rattle.depot_recovery.proofs.ReadingLemmas.{IsLogReading-both, IsLogReading-err}
use Rattle.depot_recovery.proofs.found.recover.Goals as goal

pub returns-in_err-shelf-clause-exact : goal.returns-in_err-shelf-clause-exact
returns-in_err-shelf-clause-exact g c =
    let fault = c.in_err-shelf.field-0.0 in
    rw (Err-passed c.from_residual-in_err-shelf.result fault c.from_residual-in_err-shelf.ensures.1)
    (fault-found (g.D.Disk.state c.args.disk.now).holds (g.D.Disk.state c.open.new.disk).holds
    (g.D.Disk.state c.read_journal.new.disk).holds c.in_ok-log.log c.in_ok-log.bodies
    (depot_by c.in_ok-log.bodies c.in_ok-core.core) fault c.in_ok-log.ensures.reading.same.held
    c.in_ok-core.ensures.reading.same.held c.in_ok-log.ensures.exact c.in_ok-core.ensures.exact
    c.in_err-shelf.ensures.exact)

pub returns-in_err-shelf-clause-reading : goal.returns-in_err-shelf-clause-reading
returns-in_err-shelf-clause-reading g c =
    let old = g.D.Disk.state c.args.disk.now in
    let mid = g.D.Disk.state c.open.new.disk in
    let read = g.D.Disk.state c.read_journal.new.disk in
    let new = g.D.Disk.state c.shelve.new.disk in
    let fault = c.in_err-shelf.field-0.0 in
    rw (Err-passed c.from_residual-in_err-shelf.result fault c.from_residual-in_err-shelf.ensures.1)
    (IsLogReading-both old read new (Err fault)
    (IsLogReading-both old mid read (Ok c.in_ok-core.core) c.in_ok-log.ensures.reading
    c.in_ok-core.ensures.reading)
    (IsLogReading-err read new fault c.in_err-shelf.ensures.reading))
