-- Those of one table more, up to all.
use Rattle.std.proofs.Common.{◌≡◌, ℕ, length, ap, subst, arith}
use Rattle.std.specs.Prelude.{true}
use Rattle.desc_types.specs.Descriptions.{DescOf}
use Rattle.view_meaning.specs.Partitions.{is_among, is_part}
use Rattle.view_meaning.proofs.AmongLemmas.{All-is_among}
use Rattle.stale_test.specs.PartLists.{lists_of}
use Rattle.stale_test.proofs.ReaderLemmas.{AreInTime-AreGained, AreReaders-all, AreReadersBelow}
use Rattle.stale_test.proofs.ReaderLemmas.{AreReadersBelow-push, AreReadersBelow-start, has-readers}
use Rattle.stale_test.proofs.readers.reader_keys.Goals as goal

pub loop-number-init : goal.loop-number-init
loop-number-init c =
    rw c.new-readers.ensures.items (AreReadersBelow-start c.args.desc.now c.args.keys.now)

pub push_above-requires-clause-in_time : goal.push_above-requires-clause-in_time
push_above-requires-clause-in_time c =
    rw c.deref.ensures.value
    (AreInTime-AreGained c.args.desc.now (is_among c.args.keys.now)
    (lists_of c.in_ok-lists.lists.items)
    (λ key. All-is_among (λ key. is_part c.args.desc.now key ≡ true) c.args.keys.now key
    c.requires.parts) c.in_ok-lists.ensures.exact)

pub push_above-requires-clause-earlier : goal.push_above-requires-clause-earlier
push_above-requires-clause-earlier c = λ index default within.
    let tables = ap (λ (desc : DescOf). length desc.tables) c.desc.view_is in
    let earlier = c.requires.earlier c.loop-number.number c.nth_table.result.now
    c.nth_table.ensures.exact index default within in
    omega (
      arith,
      tables,
      earlier,
      c.desc.inside.tables.ok.0,
      c.loop-number-test.true,
      c.len-number-end.ensures,
      c.deref.ensures.len,
      c.in_ok-lists.ensures.each,
    )

pub push_above-requires-clause-fits : goal.push_above-requires-clause-fits
push_above-requires-clause-fits c =
    c.requires.fits c.loop-number.number c.nth_table.result.now c.nth_table.ensures.exact

pub loop-number-preserved : goal.loop-number-preserved
loop-number-preserved c =
    rw (c.in_ok-push_keys.ensures.ok, c.deref-in-loop-number.ensures.value)
    (AreReadersBelow-push c.args.desc.now c.args.keys.now c.loop-number.number
    c.loop-number.readers.items c.sort_parts.new.parts.items c.loop-number.invariant
    (has-readers c.args.desc.now c.args.keys.now (lists_of c.in_ok-lists.lists.items)
    c.loop-number.number c.nth_table.result.now c.push_above.new.parts.items
    c.sort_parts.new.parts.items c.nth_table.ensures.exact c.in_ok-lists.ensures.exact
    (rw (c.deref.ensures.value, c.new-parts.ensures.items) at c.in_ok-push_above.ensures.ok)
    c.sort_parts.ensures.same))

pub returns : goal.returns
returns c =
    let tables = ap (λ (desc : DescOf). length desc.tables) c.desc.view_is in
    let all : c.loop-number.number ≡ length c.args.desc.now.tables =
    omega (
      arith,
      tables,
      c.loop-number-test.false,
      c.loop-number.auto.number-end,
      c.len-number-end.ensures,
      c.desc.inside.tables.ok.0,
    ) in
    record {
      exact = AreReaders-all c.args.desc.now c.args.keys.now c.loop-number.readers.items
          (subst (λ (limit : ℕ). AreReadersBelow c.args.desc.now c.args.keys.now limit
          c.loop-number.readers.items) all c.loop-number.invariant);
    }
