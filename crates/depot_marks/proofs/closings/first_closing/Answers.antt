-- Those before the index closed not as far, and those from it on did.
use Rattle.std.proofs.Common.{rules}
use Rattle.std.proofs.lemmas.List.Sorted.{IsPartitionedBy-ltb, IsPartitionPoint-from_clause}
use Rattle.depot_marks.specs.Closings.{closes_of}
use Rattle.depot_marks.proofs.ClosingLemmas.{greatest_at-point, is_short_of}
use Rattle.depot_marks.proofs.closings.first_closing.Goals as goal

pub returns : goal.returns
returns c = record {
  exact = greatest_at-point c.args.end c.args.closings.now c.partition_point.result
      (IsPartitionPoint-from_clause (is_short_of c.args.end) _ _
      c.partition_point.ensures.partitioned
      (IsPartitionedBy-ltb closes_of _ c.args.end c.requires.rising) (λ a r q k. search rules));
}
