-- the aggregates so far, and then those that are left, are all of them
use Rattle.std.proofs.Common.{◌≡◌, ◌++◌}
use Rattle.std.specs.Iterator.Adapters.{zip_first, zip_second}
use Rattle.std.specs.Slice.Iter.{iter_rest}
use Rattle.table_desc.specs.Canonical.{aggs_spelled}
use Rattle.table_desc.proofs.writing.spelling.aggs_spelled.Given as goal

abbrev pub invariant-loop-column : goal.invariant-loop-column
invariant-loop-column l = l.made.items ++ aggs_spelled l.columns
    (iter_rest (zip_first l.column-iterator)) (iter_rest (zip_second l.column-iterator))
    ≡ aggs_spelled l.columns l.own l.aggs
