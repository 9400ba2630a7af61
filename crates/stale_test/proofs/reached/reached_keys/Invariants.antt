use Rattle.std.proofs.Common.{◌≡◌, length}
use Rattle.std.specs.Prelude.{vec_len}
use Rattle.stale_test.specs.PartLists.{AreUpTo, lists_of}
use Rattle.view_meaning.specs.Partitions.{is_among}
use Rattle.stale_test.proofs.reached.reached_keys.Given as goal

-- the lists and the keys are those of the tables so far
abbrev pub invariant-loop-parts : goal.invariant-loop-parts
invariant-loop-parts l = record {
  each : vec_len l.reached ≡ length l.yielded;
  up_to : AreUpTo l.desc (is_among l.gained) (lists_of l.reached.items) l.keys.items;
}
