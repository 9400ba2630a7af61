use Rattle.std.proofs.Common.{ℕ, Ok, not, rules, tests}
use Rattle.std.proofs.lemmas.Iterator.Consumers.{YieldsList-at, YieldsList-from_filter}
use Rattle.std.proofs.lemmas.Iterator.Consumers.{map_from_collect}
use Rattle.std.proofs.lemmas.Iterator.Splits.{YieldsList-from_slice_split}
use Rattle.desc_lines.specs.Words.{is_blank, is_empty}
use Rattle.desc_lines.proofs.words.words_of.Goals as goal

pub returns : goal.returns
returns c = record {
  exact = map_from_collect {E = ℕ} (Ok c.in_ok-collect.field-0) c.in_ok-collect.ensures.ran
      (YieldsList-from_filter _ (λ word. not (is_empty word))
      (YieldsList-at c.filter-words.ensures.source
      (YieldsList-from_slice_split _ is_blank c.args.line.now c.split.ensures.rest
      c.split.ensures.done
      c.split.ensures.closure (λ x r q k. search (rules, tests))))
      c.filter-words.ensures.closure (λ x r q k. search (rules, tests)));
}
