use Rattle.std.proofs.Common.{◌≡◌, ◌++◌, take}
use Rattle.view_meaning.specs.TableRows.{lies_in_table, cells_where}
use Rattle.view_meaning.proofs.plain.push_rows.Given as goal

-- the rows are those from before, and copies of the delivery's so far that lie in the partition
abbrev pub invariant-loop-row : goal.invariant-loop-row
invariant-loop-row l = l.rows
    ≡ l.fn.rows ++ cells_where (lies_in_table l.table l.key) (take l.row-index l.row-items)
