use Rattle.std.proofs.lemmas.List.{take_rest}
use Rattle.std.proofs.lemmas.Result.{IfOk-weaker}
use Rattle.desc_lines.proofs.WritingLemmas.{spaced_after-conds}
use Rattle.desc_lines.proofs.writing.line_words.LineWords.conds.Goals as goal

pub returns-in_ok-cond-in-len1-up : goal.returns-in_ok-cond-in-len1-up
returns-in_ok-cond-in-len1-up c = record {
  exact = IfOk-weaker c.more_conds.result _ _ (λ line made.
      spaced_after-conds c.args.self c.args.conds.now c.first-item.result _ _ line
      c.in-len1-up.len_at_least c.first-item.is (take_rest c.args.conds.now 1)
      c.in_ok-cond-in-len1-up.ensures.exact made) c.more_conds.ensures.exact;
}
