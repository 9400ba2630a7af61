-- The new bytes are those of the places so far.
use Rattle.std.proofs.Common.{◌≡◌, take}
use Rattle.depot_disk.specs.Picks.{is_touched, scrambled}
use Rattle.depot_disk.specs.Record.{life_of}
use Rattle.depot_disk.specs.MemDisk.{steps_of}
use Rattle.depot_disk.proofs.pick.scramble.Given as goal

abbrev pub invariant-loop-place : goal.invariant-loop-place
invariant-loop-place l = l.new.items
    ≡ scrambled (is_touched (life_of l.file (steps_of l.steps))) l.pick 0 (take l.place l.bytes)
