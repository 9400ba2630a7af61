-- What has to be kept of the entries so far is, and their files were fine.
use Rattle.std.proofs.Common.{◌≡◌}
use Rattle.std.specs.Prelude.{⊤, IfSome, Ok}
use Rattle.catalog_journal.specs.Answers.{IsLogReading}
use Rattle.version_store.specs.Shelves.{kept_in}
use Rattle.depot_recovery.specs.Replaying.{depot_by}
use Rattle.depot_recovery.specs.Shelving.{ReadsBefore, ShelvesBefore}
use Rattle.depot_recovery.proofs.shelving.shelve.Given as goal

abbrev pub invariant-loop-number : goal.invariant-loop-number
invariant-loop-number g l = record {
  kept : ShelvesBefore (depot_by l.bodies l.core) l.number (kept_in l.shelf);
  read : IfSome (g.D.Disk.state l.fn.disk).holds (λ image.
      ReadsBefore image (depot_by l.bodies l.core) l.number (kept_in l.shelf));
  reading : IsLogReading {T = ⊤} (g.D.Disk.state l.fn.disk) (g.D.Disk.state l.disk) (Ok tt);
  loan : g.D.Disk.loan l.disk ≡ g.D.Disk.loan l.fn.disk;
}
