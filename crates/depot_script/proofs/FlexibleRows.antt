-- A writer that takes records of different lengths writes what the default one does.
use Rattle.std.proofs.Common.{◌≡◌, ℕ, List, [], ◌∷◌, refl, true}
use Rattle.std.specs.Prelude.{flat_map, map}
use Rattle.csv.specs.Writing.{default_writer, escaped, fields_text, is_blank, row_text}
use Rattle.csv.specs.Writing.{with_flexible}
use Rattle.csv.specs.declared.writer.WriterBuilder.{WriterBuilder}
use Rattle.depot_cell.specs.declared.cell.Cell.{Cell}
use Rattle.depot_cell.specs.Spelling.{text_of}
use Rattle.depot_script.specs.Texts.{rows_text}

-- the default setup, but that records may differ in length
abbrev pub flexible_writer : WriterBuilder
flexible_writer = with_flexible default_writer true

-- the text of rows by that setup
abbrev pub flexible_rows : List (List Cell) → List ℕ
flexible_rows rows = flat_map (λ row. row_text flexible_writer (map text_of row)) rows

-- the bytes between quotes are the same
escaped-flexible : (field : List ℕ) → escaped flexible_writer field ≡ escaped default_writer field
unfolding escaped
escaped-flexible [] = refl
escaped-flexible (byte ∷ field) = rw (escaped-flexible field) refl

-- so are the fields after the first
fields_text-flexible : (fields : List (List ℕ))
    → fields_text flexible_writer fields ≡ fields_text default_writer fields
unfolding fields_text
fields_text-flexible [] = refl
fields_text-flexible (field ∷ fields) =
    rw (escaped-flexible field, fields_text-flexible fields) refl

-- so is whether a record shows no byte
is_blank-flexible : (fields : List (List ℕ))
    → is_blank flexible_writer fields ≡ is_blank default_writer fields
unfolding is_blank
is_blank-flexible [] = refl
is_blank-flexible (field ∷ []) = rw (escaped-flexible field) refl
is_blank-flexible (field ∷ next ∷ fields) = refl

-- so is a record
row_text-flexible : (fields : List (List ℕ))
    → row_text flexible_writer fields ≡ row_text default_writer fields
row_text-flexible [] = rw (is_blank-flexible []) refl
row_text-flexible (field ∷ fields) =
    rw (is_blank-flexible (field ∷ fields), escaped-flexible field, fields_text-flexible fields)
    refl

-- the text of rows is that of the default setup
pub rows-flexible : (rows : List (List Cell)) → flexible_rows rows ≡ rows_text rows
rows-flexible [] = refl
rows-flexible (row ∷ rows) = rw (row_text-flexible (map text_of row), rows-flexible rows) refl
