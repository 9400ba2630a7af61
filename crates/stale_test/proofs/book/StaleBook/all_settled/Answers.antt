-- There is a first unsettled partition exactly if there is any.
use Rattle.std.proofs.Common.{◌≡◌, ◌∙◌, List, [], ◌∷◌, length, refl, sym, ap, arith}
use Rattle.std.specs.Prelude.{Option, find, is_some, nat_eq, not, true}
use Rattle.std.specs.Ordering.{is_gt}
use Rattle.std.proofs.lemmas.Bool.{ne_eqb}
use Rattle.std.proofs.lemmas.Bool.Decides.{nat_tests}
use Rattle.std.proofs.Math.Bool.{not-not}
use Rattle.desc_types.specs.declared.table.Key.{Key}
use Rattle.desc_types.specs.Keys.{key_cmp}
use Rattle.view_meaning.specs.Drains.{unsettled}
use Rattle.view_meaning.specs.Partitions.{key_of}
use Rattle.stale_test.proofs.book.StaleBook.all_settled.Goals as goal

-- no key stands before the first one that there is
not_before-start : (key : Key) → not (is_gt (key_cmp (key_of 0 0) key)) ≡ true
not_before-start key = grind (arith, nat_tests)

-- so from it on there is a first one in any list that is not empty
find-start : (keys : List Key)
    → is_some (find (λ key. not (is_gt (key_cmp (key_of 0 0) key))) keys)
    ≡ not (nat_eq (length keys) 0)
find-start [] = refl
find-start (key ∷ keys) =
    rw (not_before-start key, ne_eqb (length (key ∷ keys)) 0 (λ same. omega arith)) refl

pub returns : goal.returns
returns c = record {
  exact = λ desc journal tells.
      sym (not-not c.is_none.result)
      ∙ ap not (sym c.is_none.ensures
      ∙ ap (λ (found : Option Key). is_some found)
      (c.next_unsettled.ensures.exact desc journal tells)
      ∙ find-start (unsettled desc journal))
      ∙ not-not (nat_eq (length (unsettled desc journal)) 0);
}
