-- The bytes of rows and of deliveries. A number stands with its highest byte first.
use Rattle.std.specs.Prelude.{ℕ, List, ◌∷◌, ◌++◌, flat_map, length}
use Rattle.std.specs.Int.{w64, cast_unsigned}
use Rattle.byteorder.specs.Endian.{big_bytes}
use Rattle.depot_cell.specs.declared.cell.Cell.{Cell}
use Rattle.depot_cell.specs.declared.cell.Cell.TheVariants.{Int, Text}
use Rattle.desc_types.specs.declared.delivery.DRow.{DRow}
use Rattle.desc_types.specs.Deliveries.{DeliveryOf}

-- a number in so many bytes
unfoldable pub number_bytes : (size number : ℕ) → List ℕ
number_bytes size number = big_bytes size number

-- an int is eight bytes, in two's complement; a text is its length in one byte, and its bytes
abbrev pub cell_bytes : Cell → List ℕ
cell_bytes (Int number) = number_bytes 8 (cast_unsigned w64 number)
cell_bytes (Text text) = length text ∷ text

-- a row is its cells
abbrev pub row_bytes : List Cell → List ℕ
row_bytes cells = flat_map cell_bytes cells

-- rows are their count in eight bytes, and each row
abbrev pub rows_bytes : List (List Cell) → List ℕ
rows_bytes rows = number_bytes 8 (length rows) ++ flat_map row_bytes rows

-- a row of a delivery is the number of its record in four bytes, its table in two, and its cells
abbrev pub record_bytes : DRow → List ℕ
record_bytes row =
    number_bytes 4 row.number ++ number_bytes 2 row.table ++ row_bytes row.cells

-- a delivery is its feed in two bytes, its number in four, the tick up to which it closes the feed
-- in eight, the count of its rows in four, and each row
abbrev pub delivery_bytes : DeliveryOf → List ℕ
delivery_bytes delivery =
    number_bytes 2 delivery.feed ++ number_bytes 4 delivery.number
    ++ number_bytes 8 delivery.closes ++ number_bytes 4 (length delivery.rows)
    ++ flat_map record_bytes delivery.rows
