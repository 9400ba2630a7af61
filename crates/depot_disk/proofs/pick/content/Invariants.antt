-- The content is that after the steps so far.
use Rattle.std.proofs.Common.{◌≡◌, take}
use Rattle.std.specs.Prelude.{option_map, vec_items}
use Rattle.depot_disk.specs.Life.{content_of}
use Rattle.depot_disk.specs.Record.{life_of}
use Rattle.depot_disk.specs.MemDisk.{steps_of}
use Rattle.depot_disk.proofs.pick.content.Given as goal

abbrev pub invariant-loop-step : goal.invariant-loop-step
invariant-loop-step l = option_map vec_items l.content
    ≡ content_of (life_of l.file (steps_of (take l.step-index l.steps)))
