-- The first so many records were read, and those from this number on are still to come.
use Rattle.std.proofs.Common.{◌≡◌}
use Rattle.std.specs.Prelude.{⊤, Ok}
use Rattle.catalog_journal.specs.Answers.{IsLogReading}
use Rattle.depot_recovery.proofs.ReadOnLemmas.{ReadsOn}
use Rattle.depot_recovery.proofs.replay.read_journal.Given as goal

abbrev pub invariant-loop-number : goal.invariant-loop-number
invariant-loop-number g l = record {
  reads : ReadsOn (g.D.Disk.state l.fn.disk).holds l.bodies l.number l.replay;
  reading : IsLogReading {T = ⊤} (g.D.Disk.state l.fn.disk) (g.D.Disk.state l.disk) (Ok tt);
  loan : g.D.Disk.loan l.disk ≡ g.D.Disk.loan l.fn.disk;
}
