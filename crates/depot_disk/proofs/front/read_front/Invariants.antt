-- The piece has the file's first bytes, as many as were read so far.
use Rattle.std.proofs.Common.{◌≡◌, ◌-◌, ◌≤◌, length}
use Rattle.std.specs.Prelude.{IfSome, Ok}
use Rattle.depot_disk.specs.declared.disk.DiskFailed.{DiskFailed}
use Rattle.depot_disk.specs.Image.{bytes_in}
use Rattle.depot_disk.specs.Front.{HasFront}
use Rattle.depot_disk.specs.State.{IsReading}
use Rattle.depot_disk.proofs.front.read_front.Given as goal

abbrev pub invariant-loop-count : goal.invariant-loop-count
invariant-loop-count g l = record {
  fits : l.done ≤ length l.into;
  front : IfSome (g.D.Disk.state l.fn.disk).holds (λ image.
      HasFront (bytes_in image l.file) l.done l.into);
  reading : IsReading {E = DiskFailed} (g.D.Disk.state l.fn.disk)
      (g.D.Disk.state l.disk) (Ok l.done);
  loan : g.D.Disk.loan l.disk ≡ g.D.Disk.loan l.fn.disk;
}

abbrev pub decreases-loop-count : goal.decreases-loop-count
decreases-loop-count g l = length l.into - l.done
