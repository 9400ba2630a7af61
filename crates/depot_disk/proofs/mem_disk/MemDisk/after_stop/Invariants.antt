-- The files of the steps so far are as the pick leaves them, and no fault was counted.
use Rattle.std.proofs.Common.{◌≡◌, take}
use Rattle.depot_disk.specs.MemDisk.{steps_of}
use Rattle.depot_disk.specs.After.{HasPicked}
use Rattle.depot_disk.proofs.mem_disk.MemDisk.after_stop.Given as goal

abbrev pub invariant-loop-step : goal.invariant-loop-step
invariant-loop-step l = record {
  picked : HasPicked l.pick (steps_of l.self-inside.steps.items)
      (steps_of (take l.step-index l.self-inside.steps.items)) l.disk.steps;
  faults : l.disk.faults ≡ 0;
}
