-- the columns so far are those of the keys, and after them those of the first aggregates
use Rattle.std.proofs.Common.{◌≡◌, ◌++◌, map, take}
use Rattle.table_desc.specs.Declarations.{agg_column}
use Rattle.desc_types.specs.Columns.{kept_columns}
use Rattle.table_desc.proofs.columns.group_columns.Given as goal

abbrev pub invariant-loop-agg : goal.invariant-loop-agg
invariant-loop-agg l = l.made.items
    ≡ kept_columns l.columns l.keys ++ map (agg_column l.columns) (take l.agg-index l.aggs)
