-- The first entry that is unsettled is that of the first partition.
use Rattle.std.proofs.Common.{◌≡◌, ◌∙◌, sym, ap, Some, None, Option}
use Rattle.std.specs.Prelude.{find, not}
use Rattle.std.specs.BTreeMap.Range.{entries_between}
use Rattle.std.specs.Option.{option_map}
use Rattle.std.specs.Ordering.{is_gt}
use Rattle.std.specs.declared.ops.Bound.TheVariants.{Included, Unbounded}
use Rattle.desc_types.specs.declared.table.Key.{Key}
use Rattle.desc_types.specs.Keys.{key_cmp}
use Rattle.stale_test.specs.declared.standing.Standing.{Standing}
use Rattle.stale_test.specs.Standings.{Standings, unsettled_keys}
use Rattle.stale_test.proofs.UnsettledLemmas.{find-open, find-settled, find-unsettled_keys, is_open}
use Rattle.stale_test.proofs.standing.first_unsettled.Goals as goal

-- what the entries that are left tell, if those of a whole range tell it too
told : (from : Key) (entries range left : Standings) (found : Option (Key × Standing))
    → range ≡ entries_between key_cmp (Included from) Unbounded entries
    → find is_open range ≡ find is_open left → find is_open left ≡ found
    → option_map (λ (entry : Key × Standing). entry.0) found
    ≡ find (λ key. not (is_gt (key_cmp from key))) (unsettled_keys entries)
told from entries range left found all so_far is =
    ap (λ (found : Option (Key × Standing)). option_map (λ (entry : Key × Standing). entry.0) found)
    (sym is ∙ sym so_far ∙ ap (λ (range : Standings). find is_open range) all)
    ∙ find-unsettled_keys from entries

pub loop-key-preserved : goal.loop-key-preserved
loop-key-preserved c =
    c.loop-key.invariant
    ∙ ap (λ (left : Standings). find is_open left) c.in-Some.ensures.steps
    ∙ find-settled c.in-Some.key.now c.in-Some.standing.now c.next.new.self
    (sym c.is_unsettled.ensures.exact ∙ c.if-is_unsettled.false)

pub returns-then-is_unsettled : goal.returns-then-is_unsettled
returns-then-is_unsettled c = record {
  exact = told c.args.from c.args.unsettled.now.entries c.into_iter-key-iterator.result
      c.loop-key.key-iterator (Some (c.in-Some.key.now, c.in-Some.standing.now))
      (c.into_iter-key-iterator.ensures.into_iter_gives ∙ c.range-key-items.ensures.between tt)
      c.loop-key.invariant
      (ap (λ (left : Standings). find is_open left) c.in-Some.ensures.steps
      ∙ find-open c.in-Some.key.now c.in-Some.standing.now c.next.new.self
      (sym c.is_unsettled.ensures.exact ∙ c.if-is_unsettled.true));
  ordered = c.range-key-items.ensures.ordered;
}

pub returns : goal.returns
returns c = record {
  exact = told c.args.from c.args.unsettled.now.entries c.into_iter-key-iterator.result
      c.loop-key.key-iterator None
      (c.into_iter-key-iterator.ensures.into_iter_gives ∙ c.range-key-items.ensures.between tt)
      c.loop-key.invariant
      (ap (λ (left : Standings). find is_open left) c.in-None.ensures.steps.0);
  ordered = c.range-key-items.ensures.ordered;
}
