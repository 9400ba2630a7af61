-- the columns so far are those of the first columns
use Rattle.std.proofs.Common.{◌≡◌, map, take}
use Rattle.table_desc.specs.Declarations.{declared_column}
use Rattle.table_desc.proofs.parts.declared_columns.Given as goal

abbrev pub invariant-loop-column : goal.invariant-loop-column
invariant-loop-column l = l.made.items ≡ map declared_column (take l.column-index l.columns)
