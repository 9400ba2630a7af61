-- Rows, deliveries and bodies have one spelling each: it is read as them, and nothing else is.
use Rattle.std.specs.Prelude.{ℕ, ◌≡◌, ◌<◌, ◌≤◌, ◌^◌, List, Result, Ok, Err, All, length, slice_index}
use Rattle.std.specs.List.{AllZip}
use Rattle.depot_cell.specs.declared.cell.Cell.{Cell}
use Rattle.depot_cell.specs.declared.cell.Ty.{Ty}
use Rattle.depot_cell.specs.Reading.{IsCellOf}
use Rattle.desc_types.specs.Accepted.{IsAccepted}
use Rattle.desc_types.specs.Descriptions.{DescOf}
use Rattle.row_codec.specs.Reading.{read_rows}
use Rattle.row_codec.specs.Spelling.{rows_bytes, delivery_bytes}
use Rattle.row_codec.specs.Deliveries.{IsDelivery, read_delivery}
use Rattle.row_codec.specs.Bodies.{IsBody, body_bytes, read_body}

-- each is below 256
abbrev pub AreBytes : List ℕ → Type 0
AreBytes bytes = (i : ℕ) → slice_index bytes i < 256

-- the bytes of a value are read as it, what is read has these bytes, and a fault is not past the end
pub record HasOneSpelling {A : Type 0} (Is : A → Type 0) (spelled : A → List ℕ)
    (read : List ℕ → Result A ℕ) : Type 0 where
  pub again : (value : A) → Is value → read (spelled value) ≡ Ok value
  pub alone : (bytes : List ℕ) (value : A) → AreBytes bytes → read bytes ≡ Ok value
      → Is value × (bytes ≡ spelled value)
  pub within : (bytes : List ℕ) (place : ℕ) → read bytes ≡ Err place → place ≤ length bytes

-- rows of these types, so few that eight bytes count them
pub record AreRowsOf (types : List Ty) (rows : List (List Cell)) : Type 0 where
  pub few : length rows < 2 ^ 64
  pub each : All (AllZip IsCellOf types) rows

abbrev pub RowsHaveOneSpelling : Type 0
RowsHaveOneSpelling = (types : List Ty)
    → HasOneSpelling (AreRowsOf types) rows_bytes (read_rows types)

abbrev pub DeliveriesHaveOneSpelling : Type 0
DeliveriesHaveOneSpelling = (desc : DescOf) → IsAccepted desc
    → HasOneSpelling (IsDelivery desc) delivery_bytes (read_delivery desc)

abbrev pub BodiesHaveOneSpelling : Type 0
BodiesHaveOneSpelling = HasOneSpelling IsBody body_bytes read_body
