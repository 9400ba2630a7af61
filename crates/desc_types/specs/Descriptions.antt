-- What contracts see of a description.
use Rattle.std.specs.Prelude.{List}
use Rattle.desc_types.specs.declared.table.Feed.{Feed}
use Rattle.desc_types.specs.Tables.{TableOf}

-- a description with lists for vectors
pub record DescOf : Type 0 where
  pub feeds : List Feed
  pub tables : List TableOf
