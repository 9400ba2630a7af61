use Rattle.std.proofs.Common.{◌≡◌, length, take}
use Rattle.std.specs.Prelude.{vec_len}
use Rattle.stale_test.specs.PartLists.{AreGained, lists_of}
use Rattle.view_meaning.specs.Partitions.{is_among}
use Rattle.stale_test.proofs.reached.gained_parts.Given as goal

-- the lists have the numbers of the partitions so far
abbrev pub invariant-loop-key : goal.invariant-loop-key
invariant-loop-key l = record {
  each : vec_len l.lists ≡ length l.desc.tables;
  exact : AreGained (is_among (take l.key-index l.gained)) (lists_of l.lists.items);
}
