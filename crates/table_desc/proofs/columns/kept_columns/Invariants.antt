-- the columns so far are those of the numbers so far
use Rattle.std.proofs.Common.{◌≡◌, take}
use Rattle.desc_types.specs.Columns.{kept_columns}
use Rattle.table_desc.proofs.columns.kept_columns.Given as goal

abbrev pub invariant-loop-number : goal.invariant-loop-number
invariant-loop-number l =
    l.kept.items ≡ kept_columns l.columns (take l.number-index l.numbers)
