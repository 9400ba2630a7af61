-- the names so far are those of the first numbers
use Rattle.std.proofs.Common.{◌≡◌, map, take}
use Rattle.table_desc.specs.Canonical.{column_name}
use Rattle.table_desc.proofs.writing.spelling.column_names.Given as goal

abbrev pub invariant-loop-number : goal.invariant-loop-number
invariant-loop-number l = map (λ name. name.now) l.names.items
    ≡ map (column_name l.columns) (take l.number-index l.numbers)
