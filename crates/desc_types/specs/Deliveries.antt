-- What contracts see of a delivery.
use Rattle.std.specs.Prelude.{ℕ, List}
use Rattle.desc_types.specs.declared.delivery.DRow.{DRow}

-- a delivery with a list of rows
pub record DeliveryOf : Type 0 where
  pub feed : ℕ
  pub number : ℕ
  pub closes : ℕ
  pub rows : List DRow
