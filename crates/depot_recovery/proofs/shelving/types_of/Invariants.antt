-- The types of the columns so far.
use Rattle.std.proofs.Common.{◌≡◌, take}
use Rattle.desc_types.specs.Accepted.{column_types}
use Rattle.desc_types.specs.Lookups.{table_columns}
use Rattle.depot_recovery.proofs.shelving.types_of.Given as goal

abbrev pub invariant-loop-column : goal.invariant-loop-column
invariant-loop-column l = record {
  all : l.column-items ≡ table_columns l.served.desc l.table;
  made : l.types.items ≡ column_types (take l.column-index l.column-items);
}
