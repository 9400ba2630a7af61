-- The rows are those of the keys so far.
use Rattle.std.proofs.Common.{◌≡◌, ◌++◌, map}
use Rattle.view_meaning.specs.Operations.{group_row}
use Rattle.view_group.proofs.grouping.group_rows.Given as goal

abbrev pub invariant-loop-key : goal.invariant-loop-key
invariant-loop-key l =
    l.rows ++ map (λ entry. group_row l.aggs entry.0 entry.1) l.key-iterator
    ≡ map (λ entry. group_row l.aggs entry.0 entry.1) l.index.entries
