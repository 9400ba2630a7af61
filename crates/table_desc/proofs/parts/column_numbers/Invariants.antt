-- the numbers so far are those of the first names
use Rattle.std.proofs.Common.{◌≡◌, map, take}
use Rattle.table_desc.specs.Declarations.{column_number}
use Rattle.table_desc.proofs.parts.column_numbers.Given as goal

abbrev pub invariant-loop-name : goal.invariant-loop-name
invariant-loop-name l = l.numbers.items
    ≡ map (column_number l.columns) (map (λ name. name.now) (take l.name-index l.names))
