use Rattle.std.proofs.Common.{◌≡◌, take}
use Rattle.std.specs.Prelude.{false}
use Rattle.view_meaning.specs.Closing.{is_closed_in}
use Rattle.view_meaning.proofs.plain.until_closed.Given as goal

-- none of the deliveries so far closed the partition
abbrev pub invariant-loop-index : goal.invariant-loop-index
invariant-loop-index l = is_closed_in l.desc (take l.index l.accepted) l.key ≡ false
