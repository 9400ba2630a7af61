use Rattle.std.proofs.Common.{◌≡◌, ◌∙◌, [], ◌∷◌, length, arith}
use Rattle.std.specs.Prelude.{true}
use Rattle.std.proofs.lemmas.List.{length-append}
use Rattle.std.proofs.lemmas.Iterator.Adapters.{YieldsList-from_vec}
use Rattle.std.proofs.lemmas.Iterator.Consumers.{YieldsList-turn, YieldsList-end}
use Rattle.stale_test.specs.PartLists.{lists_of}
use Rattle.view_meaning.specs.Partitions.{is_among, is_part}
use Rattle.view_meaning.proofs.AmongLemmas.{All-is_among}
use Rattle.stale_test.proofs.PartListLemmas.{length-lists_of}
use Rattle.stale_test.proofs.ReachedListLemmas.{AreInTime-AllReached, AreUpTo-turn}
use Rattle.stale_test.proofs.ReachedListLemmas.{reached_of-all}
use Rattle.stale_test.proofs.reached.reached_keys.Goals as goal

pub push_above-requires-clause-in_time : goal.push_above-requires-clause-in_time
push_above-requires-clause-in_time c =
    rw c.deref.ensures.value
    (AreInTime-AllReached c.args.desc.now (is_among c.args.gained.now)
    (lists_of c.loop-parts.reached.items) c.loop-parts.invariant.up_to.listed)

pub push_above-requires-clause-earlier : goal.push_above-requires-clause-earlier
push_above-requires-clause-earlier c =
    let number : length c.deref.result.now ≡ c.len-number.result = omega arith in
    rw number (c.requires.earlier c.len-number.result c.nth_table-table.result.now
    c.nth_table-table.ensures.exact)

pub push_above-requires-clause-fits : goal.push_above-requires-clause-fits
push_above-requires-clause-fits c =
    c.requires.fits c.len-number.result c.nth_table-table.result.now
    c.nth_table-table.ensures.exact

pub loop-parts-preserved : goal.loop-parts-preserved
loop-parts-preserved c =
    let own = c.in_ok-parts-items.parts-items in
    let begun = c.into_iter-parts-iterator.ensures.into_iter_gives in
    let turn = YieldsList-turn
    (YieldsList-from_vec own.items begun.0 (begun.1 ∙ own.ok.0)) c.loop-parts.yielded
    c.loop-parts.parts-iterator c.loop-parts.yielded_by c.next.result c.next.new.self
    c.in-Some.parts c.in-Some.is c.next.ensures.steps in
    let yielded : c.len-number.result ≡ length c.loop-parts.yielded = omega arith in
    record {
      each = omega (
        arith,
        c.in_ok-push_list.ensures.gained,
        length-append c.loop-parts.yielded (c.in-Some.parts ∷ []),
      );
      up_to = rw (
        c.in_ok-push_list.ensures.ok,
        c.in_ok-push_view_keys.ensures.ok,
        c.deref-in-loop-parts.ensures.value,
      )
          (AreUpTo-turn c.args.desc.now (is_among c.args.gained.now) c.loop-parts.reached.items
          c.loop-parts.keys.items c.len-number.result c.nth_table-table.result.now own.items
          c.in-Some.parts c.push_above.new.parts.items c.sort_parts.new.parts.items
          c.requires.earlier
          (λ key. All-is_among (λ key. is_part c.args.desc.now key ≡ true) c.args.gained.now key
          c.requires.parts)
          record {
            there = c.nth_table-table.ensures.exact;
            last = omega (arith, c.loop-parts.reached.ok.0);
            within = (rw (← yielded) at turn).0;
            own = (rw (← yielded) at turn).1;
            exact = c.in_ok-parts-items.ensures.exact;
            gains = rw c.deref.ensures.value at c.in_ok-push_above.ensures.ok;
            rising = c.sort_parts.ensures.rising;
            same = c.sort_parts.ensures.same;
          }
          c.loop-parts.invariant.up_to);
    }

pub returns : goal.returns
returns c =
    let own = c.in_ok-parts-items.parts-items in
    let begun = c.into_iter-parts-iterator.ensures.into_iter_gives in
    let all = YieldsList-from_vec own.items begun.0 (begun.1 ∙ own.ok.0) in
    let end = YieldsList-end all c.loop-parts.yielded c.loop-parts.parts-iterator
    c.loop-parts.yielded_by c.next.result c.next.new.self c.in-None.is c.next.ensures.steps in
    let each : length (lists_of c.loop-parts.reached.items) ≡ length c.args.desc.now.tables =
    omega (
      arith,
      length-lists_of c.loop-parts.reached.items,
      c.loop-parts.reached.ok.0,
      c.in_ok-parts-items.ensures.each,
      own.ok.0,
    ) in
    record {
      exact = rw each at c.loop-parts.invariant.up_to.told
          ∙ reached_of-all c.args.desc.now (is_among c.args.gained.now);
    }
