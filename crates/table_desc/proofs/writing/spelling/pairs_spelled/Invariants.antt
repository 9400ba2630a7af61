-- the pairs so far are the first ones
use Rattle.std.proofs.Common.{◌≡◌, map, take}
use Rattle.table_desc.specs.Canonical.{pair_spelled}
use Rattle.table_desc.proofs.writing.spelling.pairs_spelled.Given as goal

abbrev pub invariant-loop-pair : goal.invariant-loop-pair
invariant-loop-pair l =
    l.made.items ≡ map (pair_spelled l.left l.right) (take l.pair-index l.on)
