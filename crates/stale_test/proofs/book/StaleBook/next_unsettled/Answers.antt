-- What is kept as unsettled is what is.
use Rattle.std.proofs.Common.{◌∙◌, List, ap}
use Rattle.std.specs.Prelude.{find, not}
use Rattle.std.specs.Ordering.{is_gt}
use Rattle.desc_types.specs.declared.table.Key.{Key}
use Rattle.desc_types.specs.Keys.{key_cmp}
use Rattle.stale_test.proofs.UnsettledLemmas.{unsettled_keys-unsettled}
use Rattle.stale_test.proofs.book.StaleBook.next_unsettled.Goals as goal

pub returns : goal.returns
returns c =
    rw (← c.self.view_is)
    record {
      exact = λ desc journal tells.
          c.first_unsettled.ensures.exact
          ∙ ap (λ (keys : List Key). find (λ key. not (is_gt (key_cmp c.args.from key))) keys)
          (unsettled_keys-unsettled desc journal _ c.first_unsettled.ensures.ordered tells);
    }
