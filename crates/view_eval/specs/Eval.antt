-- What a table makes of the rows of its sources.
use Rattle.std.specs.Prelude.{List, [], Option, Some, None}
use Rattle.depot_cell.specs.declared.cell.Cell.{Cell}
use Rattle.desc_types.specs.Tables.{TableOf}
use Rattle.view_meaning.specs.Operations.{operation}

-- what a table makes of the rows of its left and right source, and nothing if there is no table
abbrev pub made_by : Option TableOf → (left right : List (List Cell)) → List (List Cell)
made_by None left right = []
made_by (Some table) left right = operation table.kind left right
