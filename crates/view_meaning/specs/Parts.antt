-- Rows that are kept in parts. What a part is, and which rows it has, the trait `Part` tells.
use Rattle.std.specs.Prelude.{List, flat_map}
use Rattle.depot_cell.specs.declared.cell.Cell.{Cell}

-- the rows of some parts, part by part
abbrev pub rows_in : {Part : Type 0} → (rows : Part → List (List Cell)) → List Part
    → List (List Cell)
rows_in rows parts = flat_map rows parts
