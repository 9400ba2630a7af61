use Rattle.std.proofs.Common.{◌<◌, length, get_or, take, arith}
use Rattle.std.proofs.lemmas.List.{take_more}
use Rattle.view_meaning.specs.Partitions.{key_of}
use Rattle.stale_test.specs.PartLists.{lists_of}
use Rattle.view_meaning.proofs.KeyLemmas.{is_part-table}
use Rattle.stale_test.proofs.PartListLemmas.{AreGained-push, length-lists_of}
use Rattle.stale_test.proofs.reached.gained_parts.Goals as goal

pub loop-key-preserved : goal.loop-key-preserved
loop-key-preserved c =
    let gained = c.args.gained.now in
    let index = c.loop-key.key-index in
    let default = key_of 0 0 in
    let key = get_or gained index default in
    let lists = c.loop-key.lists.items in
    let within : key.table < length (lists_of lists) = omega (
      arith,
      is_part-table c.args.desc.now key (c.requires.parts index default c.loop-key-test.true),
      length-lists_of lists,
      c.loop-key.lists.ok.0,
    ) in
    record {
      each = omega (arith, c.in_ok-push_part.ensures.kept);
      exact = rw (
        c.in_ok-push_part.ensures.ok,
        c.from.ensures,
        take_more gained index default c.loop-key-test.true,
      )
          (AreGained-push (take index gained) key (lists_of lists) within
          c.loop-key.invariant.exact);
    }
