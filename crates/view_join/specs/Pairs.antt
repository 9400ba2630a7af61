-- Left rows beside the right rows that stand by their key.
use Rattle.std.specs.Prelude.{ℕ, List, flat_map}
use Rattle.depot_cell.specs.declared.cell.Cell.{Cell}
use Rattle.view_meaning.specs.Operations.{beside, cut_to}
use Rattle.row_index.specs.Index.{rows_by}

-- a row beside each row that stands by its key, in their order
abbrev pub row_paired : (columns : List ℕ) → List (List Cell × List (List Cell)) → List Cell
    → List (List Cell)
row_paired columns entries cells = beside cells (rows_by entries (cut_to columns cells))

-- each row beside each row that stands by its key, in the order of the first, then of the others
abbrev pub paired : (columns : List ℕ) → List (List Cell × List (List Cell)) → List (List Cell)
    → List (List Cell)
paired columns entries rows = flat_map (row_paired columns entries) rows
