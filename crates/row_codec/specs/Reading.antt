-- What bytes begin with, read from left to right, and which rows they are.
--
-- A value that can be read stands beside the bytes after it. If a field cannot be read, the error
-- counts the bytes from its first one to the end.
use Rattle.std.specs.Prelude.{ℕ, zero, suc, ◌-◌, ◌==◌, ◌&&◌, List, [], ◌∷◌, Result, Ok, Err}
use Rattle.std.specs.Prelude.{Bool, false, pos, negsuc, length, take, drop, map, nat_le, nat_lt}
use Rattle.std.specs.Prelude.{if◌then◌else◌}
use Rattle.std.specs.Int.{w64, cast_signed}
use Rattle.std.specs.Str.{is_utf8}
use Rattle.byteorder.specs.Endian.{big_number}
use Rattle.depot_cell.specs.declared.cell.Cell.{Cell}
use Rattle.depot_cell.specs.declared.cell.Cell.TheVariants.{Int, Text}
use Rattle.depot_cell.specs.declared.cell.Ty.{Ty}
use Rattle.depot_cell.specs.declared.cell.Ty.TheVariants as ty
use Rattle.partition_map.specs.Time.{END}
use Rattle.row_codec.specs.declared.field.Wanted.{Wanted}
use Rattle.row_codec.specs.declared.field.Wanted.TheVariants as wanted

-- what reads a value at the front of bytes
abbrev pub Reader : Type 0 → Type 0
Reader A = List ℕ → Result (A × List ℕ) ℕ

-- a step, and the next one if the first could be read
infixl 10 ◌>>=◌
abbrev pub ◌>>=◌ : {A B : Type 0} → Result A ℕ → (A → Result B ℕ) → Result B ℕ
(Ok value) >>= next = next value
(Err left) >>= next = Err left

-- a value that passes a test
abbrev pub checked : {A : Type 0} → (A → Bool) → Reader A → Reader A
checked test at bytes = do
  value ← at bytes
  if test value.0 then Ok value else Err (length bytes)

-- a number in so many bytes
unfoldable pub number_at : (size : ℕ) → Reader ℕ
number_at size bytes =
    if nat_lt (length bytes) size then Err (length bytes)
    else Ok (big_number size bytes, drop size bytes)

-- an int
unfoldable pub int_at : Reader Cell
int_at bytes = do
  number ← number_at 8 bytes
  Ok (Int (cast_signed w64 number.0), number.1)

-- a text: a byte that is its length, and so many bytes of UTF-8
unfoldable pub text_at : Reader Cell
text_at [] = Err 0
text_at (size ∷ bytes) =
    if nat_le size (length bytes) && is_utf8 (take size bytes)
    then Ok (Text (take size bytes), drop size bytes)
    else Err (length (size ∷ bytes))

-- whether a cell is a tick: an int from 0 up to, but not including, END
abbrev pub is_tick : Cell → Bool
is_tick (Int (pos tick)) = nat_lt tick END
is_tick (Int (negsuc _)) = false
is_tick (Text _) = false

-- a cell that is wanted
abbrev pub cell_at : Wanted → Reader Cell
cell_at wanted.Int = int_at
cell_at wanted.Text = text_at
cell_at wanted.Tick = checked is_tick int_at

-- a row with a cell for each that is wanted
unfoldable pub row_at : List Wanted → Reader (List Cell)
row_at [] bytes = Ok ([], bytes)
row_at (wanted ∷ others) bytes = do
  cell ← cell_at wanted bytes
  cells ← row_at others cell.1
  Ok (cell.0 ∷ cells.0, cells.1)

-- so many rows
unfoldable pub so_many_rows_at : List Wanted → (count : ℕ) → Reader (List (List Cell))
so_many_rows_at wanted zero bytes = Ok ([], bytes)
so_many_rows_at wanted (suc count) bytes = do
  row ← row_at wanted bytes
  rows ← so_many_rows_at wanted count row.1
  Ok (row.0 ∷ rows.0, rows.1)

-- as many rows as the number in front says
unfoldable pub rows_at : List Wanted → Reader (List (List Cell))
rows_at wanted bytes = do
  count ← number_at 8 bytes
  so_many_rows_at wanted count.0 count.1

-- what a column of a type wants
abbrev pub wanted_of : Ty → Wanted
wanted_of ty.Int = wanted.Int
wanted_of ty.Text = wanted.Text

-- a value with nothing after it
abbrev pub last : {A : Type 0} → A × List ℕ → Result A ℕ
last value = if length value.1 == 0 then Ok value.0 else Err (length value.1)

-- how many bytes stand before what could not be read
abbrev pub with_place : {A : Type 0} → (size : ℕ) → Result A ℕ → Result A ℕ
with_place size (Ok value) = Ok value
with_place size (Err left) = Err (size - left)

-- the value that bytes are, or the place of the first field that cannot be read, or of the first
-- byte after the value
abbrev pub whole : {A : Type 0} → Reader A → List ℕ → Result A ℕ
whole at bytes = with_place (length bytes) (at bytes >>= last)

-- the rows of these types that bytes are
abbrev pub read_rows : List Ty → List ℕ → Result (List (List Cell)) ℕ
read_rows types = whole (rows_at (map wanted_of types))
