-- Which cells there can be, their types, and how two of them compare.
use Rattle.std.specs.Prelude.{Bool, List, FitsSigned, false, nat_eq}
use Rattle.std.specs.Int.{w64}
use Rattle.std.specs.declared.cmp.Ordering.{Ordering}
use Rattle.std.specs.declared.cmp.Ordering.TheVariants.{Less, Greater}
use Rattle.std.specs.Ordering.{int_cmp, int_eq, nat_cmp}
use Rattle.std.specs.Ordering.{is_eq, is_ne, is_lt, is_le, is_gt, is_ge}
use Rattle.std.specs.Cmp.Lexicographic.{pointwise, slice_cmp}
use Rattle.depot_cell.specs.declared.cell.Cell.{Cell}
use Rattle.depot_cell.specs.declared.cell.Cell.TheVariants.{Int, Text}
use Rattle.depot_cell.specs.declared.cell.Ty.{Ty}
use Rattle.depot_cell.specs.declared.cell.Ty.TheVariants as ty
use Rattle.depot_cell.specs.declared.cell.Op.{Op}
use Rattle.depot_cell.specs.declared.cell.Op.TheVariants.{Eq, Ne, Lt, Le, Gt, Ge}
use Rattle.depot_cell.specs.ShortText.{IsShortText}

-- the type of a cell
abbrev pub ty_of : Cell → Ty
ty_of (Int number) = ty.Int
ty_of (Text bytes) = ty.Text

-- a cell that there can be: an int of 64 bits, a short text
abbrev pub IsCell : Cell → Type 0
IsCell (Int number) = FitsSigned w64 number
IsCell (Text bytes) = IsShortText bytes

-- whether two cells are the same: two ints of one value, or two texts of the same bytes
abbrev pub same_cell : Cell → Cell → Bool
same_cell (Int left) (Int right) = int_eq left right
same_cell (Int left) (Text right) = false
same_cell (Text left) (Int right) = false
same_cell (Text left) (Text right) = pointwise nat_eq left right

-- whether two lists of cells are the same, cell by cell
abbrev pub same_cells : List Cell → List Cell → Bool
same_cells left right = pointwise same_cell left right

-- ints by their value and texts by their bytes; an int stands before each text
abbrev pub cell_cmp : Cell → Cell → Ordering
cell_cmp (Int left) (Int right) = int_cmp left right
cell_cmp (Int left) (Text right) = Less
cell_cmp (Text left) (Int right) = Greater
cell_cmp (Text left) (Text right) = slice_cmp nat_cmp left right

-- an operator holds of two cells in this order
abbrev pub passes : Op → Ordering → Bool
passes Eq order = is_eq order
passes Ne order = is_ne order
passes Lt order = is_lt order
passes Le order = is_le order
passes Gt order = is_gt order
passes Ge order = is_ge order
