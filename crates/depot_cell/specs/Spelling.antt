-- The text of a cell, and that it is read as the cell again.
use Rattle.std.specs.Prelude.{List, ℕ, Ok, ◌≡◌}
use Rattle.std.specs.Fmt.{signed_decimal}
use Rattle.depot_cell.specs.declared.cell.Cell.{Cell}
use Rattle.depot_cell.specs.declared.cell.Cell.TheVariants.{Int, Text}
use Rattle.depot_cell.specs.Cells.{ty_of, IsCell}
use Rattle.depot_cell.specs.Reading.{cell_of}

-- the bytes of a text, and the shortest decimal form of an int
abbrev pub text_of : Cell → List ℕ
text_of (Int number) = signed_decimal number
text_of (Text bytes) = bytes

-- the text of a cell is read as that cell
abbrev pub HasExactTexts : Type 0
HasExactTexts = (cell : Cell) → IsCell cell → cell_of (ty_of cell) (text_of cell) ≡ Ok cell
