-- All files before the next number are swept.
use Rattle.std.proofs.Common.{◌≡◌, ◌-◌, ◌^◌, Some, None}
use Rattle.std.specs.Prelude.{IfSome, Option}
use Rattle.std.proofs.Common.{ℕ}
use Rattle.depot_recovery.specs.Sweeping.{IsSweptUpTo, Sweeps}
use Rattle.depot_recovery.proofs.sweeping.sweep.Given as goal

abbrev pub invariant-loop-next : goal.invariant-loop-next
invariant-loop-next g l = record {
  swept : IfSome (g.D.Disk.state l.disk).holds (IsSweptUpTo l.core.state.journal l.next);
  sweeps : Sweeps l.core.state.journal (g.D.Disk.state l.fn.disk) (g.D.Disk.state l.disk);
  faults : (g.D.Disk.state l.disk).faults ≡ (g.D.Disk.state l.fn.disk).faults;
  loan : g.D.Disk.loan l.disk ≡ g.D.Disk.loan l.fn.disk;
}

abbrev pub decreases-loop-next : goal.decreases-loop-next
decreases-loop-next g l = left l.next
  where
    left : Option ℕ → ℕ
    left (Some from) = 2 ^ 64 - from
    left None = 0
