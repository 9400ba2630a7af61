-- What waits from the first partition of the table on is of that table.
use Rattle.std.proofs.Common.{◌≡◌, refl, true}
use Rattle.std.proofs.lemmas.List.Concat.{flat_map-append}
use Rattle.std.proofs.lemmas.Result.{on_ok_weaker}
use Rattle.view_meaning.specs.Partitions.{is_part}
use Rattle.depot_marks.specs.declared.below.Search.{Search}
use Rattle.depot_marks.specs.Below.{keys_of_waiting, keys_waiting}
use Rattle.depot_marks.proofs.SearchLemmas.{All-back, IsSearchOf-step}
use Rattle.depot_marks.proofs.below.pass_table.Goals as goal

pub look_at_all-requires : goal.look_at_all-requires
look_at_all-requires c = record {
  parts = All-back (λ key. is_part c.args.served.now.desc key ≡ true)
      (keys_waiting c.split_off.new.self.keys) (keys_waiting c.in_ok-here.here.keys)
      (rw (
        ← flat_map-append keys_of_waiting c.split_off.new.self.keys c.in_ok-here.here.keys,
        ← c.in_ok-here.ensures.parts,
      ) c.requires.parts);
}

pub returns : goal.returns
returns c =
    let split : Search = record {
      found = c.args.search.now.found;
      waiting = c.split_off.new.self;
    } in
    record {
      ok = on_ok_weaker c.look_at_all.result
          (λ looks key search. IsSearchOf-step c.args.served.now.desc key c.args.table
          c.args.search.now split c.look_at_all.new.search c.in_ok-here.here.keys search refl
          c.in_ok-here.ensures.parts c.in_ok-here.ensures.all_below looks)
          c.look_at_all.ensures.ok;
    }
