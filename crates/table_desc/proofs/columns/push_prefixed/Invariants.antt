-- the columns that there were, and after them the first ones under the prefix
use Rattle.std.proofs.Common.{◌≡◌, ◌++◌, map, take}
use Rattle.desc_types.specs.Columns.{prefixed}
use Rattle.table_desc.proofs.columns.push_prefixed.Given as goal

abbrev pub invariant-loop-column : goal.invariant-loop-column
invariant-loop-column l = l.made.items
    ≡ l.fn.made.items ++ map (prefixed l.prefix) (take l.column-index l.columns)
