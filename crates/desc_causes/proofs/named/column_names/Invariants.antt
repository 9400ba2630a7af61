-- the names so far are those of the columns so far
use Rattle.std.proofs.Common.{◌≡◌, map, take}
use Rattle.desc_lines.specs.Written.{WrittenColumnOf}
use Rattle.desc_causes.proofs.named.column_names.Given as goal

abbrev pub invariant-loop-column : goal.invariant-loop-column
invariant-loop-column l =
    map (λ name. name.now) l.names.items
    ≡ map (λ (column : WrittenColumnOf). column.name) (take l.column-index l.columns)
