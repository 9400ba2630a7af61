use Rattle.std.proofs.Common.{◌≡◌, ◌-◌, ◌++◌}
use Rattle.std.specs.List.{range_with_len}
use Rattle.stale_test.proofs.reached.push_run.Given as goal

-- the numbers are those from before, and those of the run so far
abbrev pub invariant-loop-part : goal.invariant-loop-part
invariant-loop-part l = l.parts.items ≡ l.fn.parts.items
    ++ range_with_len l.initial.part (l.part - l.initial.part)
