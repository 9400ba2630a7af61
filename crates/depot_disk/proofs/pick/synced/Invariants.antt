-- Before so many steps the file held what it held at the last sync so far.
use Rattle.std.proofs.Common.{◌≡◌, ◌≤◌, take}
use Rattle.depot_disk.specs.Life.{content_of}
use Rattle.depot_disk.specs.Picks.{before_of}
use Rattle.depot_disk.specs.Record.{life_of}
use Rattle.depot_disk.specs.MemDisk.{steps_of}
use Rattle.depot_disk.proofs.pick.synced.Given as goal

abbrev pub invariant-loop-index : goal.invariant-loop-index
invariant-loop-index l = record {
  within : l.count ≤ l.index;
  held : content_of (life_of l.file (steps_of (take l.count l.steps)))
      ≡ before_of (life_of l.file (steps_of (take l.index l.steps)));
}
