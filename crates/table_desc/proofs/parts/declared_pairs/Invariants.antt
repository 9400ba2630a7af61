-- the pairs so far are the first ones
use Rattle.std.proofs.Common.{◌≡◌, map, take}
use Rattle.table_desc.specs.Declarations.{declared_pair}
use Rattle.table_desc.proofs.parts.declared_pairs.Given as goal

abbrev pub invariant-loop-pair : goal.invariant-loop-pair
invariant-loop-pair l =
    l.made.items ≡ map (declared_pair l.left l.right) (take l.pair-index l.on)
