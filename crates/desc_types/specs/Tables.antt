-- What contracts see of a table.
use Rattle.std.specs.Prelude.{ℕ, List}
use Rattle.desc_types.specs.declared.table.Column.{Column}
use Rattle.desc_types.specs.KindValues.{KindOf}

-- a table with lists for vectors
pub record TableOf : Type 0 where
  pub name : List ℕ
  pub columns : List Column
  pub width : ℕ
  pub kind : KindOf
