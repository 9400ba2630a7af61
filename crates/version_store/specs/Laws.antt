-- What a file holds is what is read of it.
use Rattle.std.specs.Prelude.{◌≡◌, ℕ, List, Ok, length}
use Rattle.depot_cell.specs.declared.cell.Cell.{Cell}
use Rattle.depot_cell.specs.declared.cell.Ty.{Ty}
use Rattle.depot_disk.specs.Image.{Image}
use Rattle.row_codec.specs.Laws.{AreRowsOf}
use Rattle.row_codec.specs.Spelling.{rows_bytes}
use Rattle.version_store.specs.Files.{HoldsFront}
use Rattle.version_store.specs.Reading.{front_of, rows_in}

-- what a file begins with is read at its length, and nothing else is; and rows by their spelling
pub record FilesAreReadAgain : Type 0 where
  pub again : (image : Image) (file : ℕ) (bytes : List ℕ) → HoldsFront file bytes image
      → front_of image file (length bytes) ≡ Ok bytes
  pub alone : (image : Image) (file len : ℕ) (bytes : List ℕ) → front_of image file len ≡ Ok bytes
      → HoldsFront file bytes image × (length bytes ≡ len)
  pub rows : (image : Image) (types : List Ty) (file : ℕ) (rows : List (List Cell))
      → AreRowsOf types rows → HoldsFront file (rows_bytes rows) image
      → rows_in image types file (length (rows_bytes rows)) ≡ Ok rows
