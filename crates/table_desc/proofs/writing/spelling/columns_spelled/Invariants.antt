-- the columns so far are the first ones
use Rattle.std.proofs.Common.{◌≡◌, map, take}
use Rattle.table_desc.specs.Canonical.{column_spelled}
use Rattle.table_desc.proofs.writing.spelling.columns_spelled.Given as goal

abbrev pub invariant-loop-column : goal.invariant-loop-column
invariant-loop-column l = l.made.items ≡ map column_spelled (take l.column-index l.columns)
