use Rattle.std.proofs.Common.{◌≡◌, ◌-◌, ◌+◌, ◌*◌}
use Rattle.view_meaning.specs.Values.{value_within}
use Rattle.view_meaning.proofs.ValueLemmas.{rows_of_run}
use Rattle.view_meaning.proofs.plain.+push_value.Given as goal

-- a source stands one table further down
abbrev pub decreases-push_value : goal.decreases-push_value
decreases-push_value l = 2 * l.depth

abbrev pub decreases-source_rows : goal.decreases-source_rows
decreases-source_rows l = 2 * l.depth + 1

-- the rows are those of the source partitions so far
abbrev pub invariant-source_rows-loop-part : goal.invariant-source_rows-loop-part
invariant-source_rows-loop-part l = l.rows
    ≡ rows_of_run (value_within l.depth l.desc l.accepted) l.src.table l.initial.part
    (l.part - l.initial.part)
