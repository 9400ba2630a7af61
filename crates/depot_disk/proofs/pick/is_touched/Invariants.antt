-- The answer is that of the steps so far.
use Rattle.std.proofs.Common.{◌≡◌, take}
use Rattle.depot_disk.specs.Picks.{is_touched}
use Rattle.depot_disk.specs.Record.{life_of}
use Rattle.depot_disk.specs.MemDisk.{steps_of}
use Rattle.depot_disk.proofs.pick.is_touched.Given as goal

abbrev pub invariant-loop-step : goal.invariant-loop-step
invariant-loop-step l = l.touched
    ≡ is_touched (life_of l.file (steps_of (take l.step-index l.steps))) l.place
