use Rattle.std.proofs.Common.{◌≡◌, take}
use Rattle.view_meaning.specs.Parts.{rows_in}
use Rattle.row_index.specs.Index.{keyed}
use Rattle.row_index.proofs.index.index_rows.Given as goal

-- the index has the rows of the parts so far
abbrev pub invariant-loop-part : goal.invariant-loop-part
invariant-loop-part g l = l.index.entries
    ≡ keyed l.columns (rows_in g.P.Part.rows (take l.part-index l.parts))
