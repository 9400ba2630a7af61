use Rattle.partition_map.proofs.PartitionLemmas.{is_covered-div}
use Rattle.partition_map.proofs.parts.part_of.Goals as goal

pub returns : goal.returns
returns c = record {
  exact = λ part. rw c.ticks.ensures.value
      (is_covered-div c.args.width part c.args.tick c.ticks.ensures.in_range.some
      c.requires.in_time);
}
