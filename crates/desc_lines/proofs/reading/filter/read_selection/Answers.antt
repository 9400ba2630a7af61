use Rattle.std.proofs.Common.{◌∙◌, sym}
use Rattle.std.proofs.lemmas.List.{take_rest}
use Rattle.std.proofs.lemmas.Result.{IfOk-weaker}
use Rattle.desc_lines.proofs.SelectionLemmas.{selection_of-last, selection_of-no_cond}
use Rattle.desc_lines.proofs.SelectionLemmas.{selection_of-none, selection_of-step}
use Rattle.desc_lines.proofs.reading.filter.read_selection.Goals as goal

pub returns-in-None : goal.returns-in-None
returns-in-None c =
    let none = selection_of-no_cond c.loop-words.words.now _ c.in-len4-up.len_at_least
    (sym (rw c.in-None.is at c.read_cond.ensures.exact)) in
    record { exact = rw none at c.loop-words.invariant }

pub returns-then-is_word : goal.returns-then-is_word
returns-then-is_word c =
    let last = selection_of-last c.loop-words.words.now _ c.loop-words.conds.items c.in-Some.cond
    c.in-len4-up.len_at_least (rw c.in-Some.is at c.read_cond.ensures.exact)
    (sym c.is_word.ensures.exact ∙ c.if-is_word.true) in
    record {
      exact = IfOk-weaker c.read_keep.result _ _ (λ selection made.
          made ∙ rw (c.in_ok-push-in-Some.ensures.items, take_rest c.loop-words.words.now 4)
          (sym last ∙ c.loop-words.invariant)) c.read_keep.ensures.exact;
    }

pub loop-words-preserved : goal.loop-words-preserved
loop-words-preserved c =
    let step = selection_of-step c.loop-words.words.now _ c.loop-words.conds.items c.in-Some.cond
    c.in-len4-up.len_at_least (rw c.in-Some.is at c.read_cond.ensures.exact)
    (sym c.is_word.ensures.exact ∙ c.if-is_word.false)
    (sym c.is_word-in-len4-up.ensures.exact ∙ c.if-not-is_word.false) in
    rw (c.in_ok-push-in-Some.ensures.items, take_rest c.loop-words.words.now 4)
    (sym step ∙ c.loop-words.invariant)

pub returns : goal.returns
returns c =
    record {
      exact = rw (selection_of-none c.loop-words.words.now c.in_default.len_below)
          at c.loop-words.invariant;
    }
