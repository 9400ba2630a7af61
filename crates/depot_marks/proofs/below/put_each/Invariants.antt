-- What waits is what waited, and what the partitions so far read.
use Rattle.std.proofs.Common.{◌∷◌, []}
use Rattle.depot_marks.specs.Below.{Puts, keys_read_by}
use Rattle.depot_marks.proofs.below.put_each.Given as goal

abbrev pub invariant-loop-index : goal.invariant-loop-index
invariant-loop-index l = Puts
    (keys_read_by l.served.desc l.width (record { first = l.parts.first; count = l.index })
    (l.src ∷ [])) l.fn.waiting.keys l.waiting.keys
