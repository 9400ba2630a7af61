-- Which cell some bytes are.
use Rattle.std.specs.Prelude.{List, Option, Result, ℕ, ℤ, Some, None, Ok, Err, ◌≡◌, if◌then◌else◌}
use Rattle.std.specs.Prelude.{length, nat_lt}
use Rattle.std.specs.Str.{is_utf8}
use Rattle.depot_cell.specs.declared.cell.Cell.{Cell}
use Rattle.depot_cell.specs.declared.cell.Cell.TheVariants.{Int, Text}
use Rattle.depot_cell.specs.declared.cell.Ty.{Ty}
use Rattle.depot_cell.specs.declared.cell.Ty.TheVariants as ty
use Rattle.depot_cell.specs.declared.cell.CellFault.{CellFault}
use Rattle.depot_cell.specs.declared.cell.CellFault.TheVariants.{BadInt, LongText, NotUtf8, Memory}
use Rattle.depot_cell.specs.Cells.{IsCell, ty_of}
use Rattle.depot_cell.specs.Numbers.{int_of}

-- the cell of an int that was read
abbrev pub int_cell : Option ℤ → Result Cell CellFault
int_cell (Some number) = Ok (Int number)
int_cell None = Err BadInt

-- the cell of a text: at most 255 bytes of UTF-8
abbrev pub text_cell : List ℕ → Result Cell CellFault
text_cell bytes =
    if nat_lt 255 (length bytes) then Err LongText
    else if is_utf8 bytes then Ok (Text bytes) else Err NotUtf8

-- what bytes are as a cell of a type: the cell, or why they are none
abbrev pub cell_of : Ty → List ℕ → Result Cell CellFault
cell_of ty.Int bytes = int_cell (int_of bytes)
cell_of ty.Text bytes = text_cell bytes

-- a cell that takes memory
abbrev pub IsOwning : Result Cell CellFault → Type 0
IsOwning (Ok (Text bytes)) = Unit {0}
IsOwning (Ok (Int number)) = ⊥
IsOwning (Err fault) = ⊥

-- an answer is the reading, or Memory if the reading is a text
abbrev pub Gives : Result Cell CellFault → Result Cell CellFault → Type 0
Gives (Ok cell) reading = reading ≡ Ok cell
Gives (Err BadInt) reading = reading ≡ Err BadInt
Gives (Err LongText) reading = reading ≡ Err LongText
Gives (Err NotUtf8) reading = reading ≡ Err NotUtf8
Gives (Err Memory) reading = IsOwning reading

-- a cell of this type that there can be
pub record IsCellOf (ty : Ty) (cell : Cell) : Type 0 where
  pub typed : ty_of cell ≡ ty
  pub is_cell : IsCell cell

-- what bytes are read as is a cell of the type: an int in range, or a short text
abbrev pub GivesCells : Type 0
GivesCells = (ty : Ty) (bytes : List ℕ) (cell : Cell) → cell_of ty bytes ≡ Ok cell
    → IsCellOf ty cell
