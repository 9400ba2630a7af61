-- A disk that counts faults of its own tells all else as the disk below it.
use Rattle.std.proofs.Common.{◌≡◌, ℕ}
use Rattle.std.specs.Prelude.{None, Some, IfSome}
use Rattle.std.specs.declared.option.Option.{Option}
use Rattle.depot_disk.specs.Image.{Image}
use Rattle.depot_disk.specs.State.{DiskState, Unchanged}
use Rattle.depot_disk.specs.Listed.{counting}

-- what is unchanged below it, if a file was absent, is unchanged
pub Unchanged-counting : (file before now : ℕ) (old new : DiskState) (holds : Option Image)
    → IfSome holds (λ image. image file ≡ None → Unchanged old new)
    → IfSome holds (λ image. image file ≡ None
    → Unchanged (counting before old) (counting now new))
Unchanged-counting file before now old new None same = tt
Unchanged-counting file before now old new (Some image) same = λ absent. record {
  held = (same absent).held;
  no_more = (same absent).no_more;
  no_fewer = (same absent).no_fewer;
}
