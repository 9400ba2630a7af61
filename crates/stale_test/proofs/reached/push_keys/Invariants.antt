use Rattle.std.proofs.Common.{◌≡◌, ◌++◌, map, take}
use Rattle.view_meaning.specs.Partitions.{key_of}
use Rattle.stale_test.proofs.reached.push_keys.Given as goal

-- the keys are those from before, and those of the numbers so far
abbrev pub invariant-loop-part : goal.invariant-loop-part
invariant-loop-part l = l.keys.items
    ≡ l.fn.keys.items ++ map (key_of l.table) (take l.part-index l.parts)
