use Rattle.std.proofs.Common.{◌≡◌, take}
use Rattle.std.specs.Prelude.{fold}
use Rattle.row_index.specs.Index.{with_row}
use Rattle.row_index.proofs.index.add_rows.Given as goal

-- the index has the entries from before, and the rows so far
abbrev pub invariant-loop-place : goal.invariant-loop-place
invariant-loop-place g l = l.index.entries
    ≡ fold (with_row l.columns) l.fn.index.entries (take l.place (g.P.Part.rows l.part))
