-- What a disk in memory keeps: the files as they are, and the steps that made them so.
use Rattle.std.specs.Prelude.{◌≡◌, ℕ, List, map, reverse, Vec, vec_items, option_map}
use Rattle.std.specs.declared.alloc.Global.{Global}
use Rattle.std.specs.Ordering.{nat_cmp}
use Rattle.std.specs.BTreeMap.{BTreeMap, get}
use Rattle.depot_disk.specs.declared.step.Act.{Act}
use Rattle.depot_disk.specs.declared.step.Act.TheVariants.{Write, Sync, Remove}
use Rattle.depot_disk.specs.declared.step.Step.{Step}
use Rattle.depot_disk.specs.Image.{Image}
use Rattle.depot_disk.specs.Life.{Change, Removed, Synced, Wrote}
use Rattle.depot_disk.specs.Record.{held_by}

-- the change that an act is
abbrev pub change_of : Act → Change
change_of (Write at bytes) = Wrote at bytes.items
change_of Sync = Synced
change_of Remove = Removed

-- the file of a step, and what was done to it
abbrev pub step_of : Step → ℕ × Change
step_of step = (step.file, change_of step.act)

-- the steps, the last one first
abbrev pub steps_of : List Step → List (ℕ × Change)
steps_of steps = reverse (map step_of steps)

-- the image that a map of files is
abbrev pub image_of : BTreeMap ℕ (Vec ℕ Global) → Image
image_of files file = option_map vec_items (get nat_cmp files file)

-- the files are those that the steps made
abbrev pub AreMadeBy : List Step → BTreeMap ℕ (Vec ℕ Global) → Type 0
AreMadeBy steps files = (file : ℕ) → image_of files file ≡ held_by (steps_of steps) file

-- each file is as in the other image
abbrev pub SameImage : Image → Image → Type 0
SameImage old new = (file : ℕ) → new file ≡ old file
