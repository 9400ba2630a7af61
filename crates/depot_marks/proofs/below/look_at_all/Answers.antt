-- The next run is joined to the run at hand, or that one is looked at.
use Rattle.std.proofs.Common.{◌≡◌, ◌++◌, [], arith, true}
use Rattle.std.proofs.lemmas.Grind.{common_steps}
use Rattle.std.proofs.lemmas.Result.{on_ok_weaker}
use Rattle.view_meaning.specs.Partitions.{is_part}
use Rattle.depot_marks.specs.Below.{keys_of_waiting, keys_waiting}
use Rattle.depot_marks.proofs.SearchLemmas.{All-front, IsOnItsWay-end, IsOnItsWay-joined}
use Rattle.depot_marks.proofs.SearchLemmas.{IsOnItsWay-step}
use Rattle.depot_marks.proofs.below.look_at_all.Goals as goal

pub loop-next-preserved-in-Some-joined : goal.loop-next-preserved-in-Some-joined
loop-next-preserved-in-Some-joined c =
    IsOnItsWay-joined c.args.served.now.desc (keys_waiting c.args.here.keys) c.args.search.now
    (keys_of_waiting c.loop-next.run) (keys_of_waiting c.in-Some-pop_first.next)
    (keys_of_waiting c.in-Some-joined.both) (keys_waiting c.pop_first-in-loop-next.new.self.keys)
    c.loop-next.search c.in-Some-joined.ensures.exact
    (rw c.in-Some-pop_first.ensures.removal at c.loop-next.invariant)

pub look_at-requires : goal.look_at-requires
look_at-requires c = record {
  parts = All-front (λ key. is_part c.args.served.now.desc key ≡ true)
      (keys_of_waiting c.loop-next.run) (keys_waiting c.loop-next.here.keys)
      c.loop-next.invariant.parts;
}

pub loop-next-preserved : goal.loop-next-preserved
loop-next-preserved c =
    IsOnItsWay-step c.args.served.now.desc (keys_waiting c.args.here.keys) c.args.search.now
    (keys_of_waiting c.loop-next.run) (keys_of_waiting c.in-Some-pop_first.next
    ++ keys_waiting c.pop_first-in-loop-next.new.self.keys) c.loop-next.search
    c.look_at.new.search
    (rw c.in-Some-pop_first.ensures.removal at c.loop-next.invariant)
    c.in_ok-look_at-in-None.ensures.ok

pub returns : goal.returns
returns c =
    let none : c.loop-next.here.keys ≡ [] =
    grind (arith, common_steps, c.in_default-pop_first.ensures.variant) in
    let way = rw none at c.loop-next.invariant in
    record {
      ok = on_ok_weaker c.look_at-2.result
          (λ looks. IsOnItsWay-end c.args.served.now.desc (keys_waiting c.args.here.keys)
          c.args.search.now c.look_at-2.new.search
          (IsOnItsWay-step c.args.served.now.desc (keys_waiting c.args.here.keys)
          c.args.search.now (keys_of_waiting c.loop-next.run) [] c.loop-next.search
          c.look_at-2.new.search way looks))
          c.look_at-2.ensures.ok;
    }
