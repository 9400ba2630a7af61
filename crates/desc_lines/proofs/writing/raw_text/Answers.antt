use Rattle.std.proofs.Common.{◌∙◌, ◌++◌, ◌∷◌, [], ap, codes, map}
use Rattle.std.proofs.lemmas.Result.{IfOk-weaker}
use Rattle.desc_lines.specs.LineTexts.{column_word}
use Rattle.desc_lines.proofs.WritingLemmas.{spaced-append}
use Rattle.desc_lines.proofs.writing.raw_text.Goals as goal

pub returns : goal.returns
returns c =
    let front = c.args.name.now ∷ codes "feed" ∷ c.args.feed.now ∷ codes "width"
    ∷ c.args.width.now ∷ codes "time" ∷ c.args.time.now ∷ codes "cols" ∷ [] in
    let line = spaced-append (codes "raw") front (map column_word c.args.columns.now) _ _
    (spaced-append (codes "raw") [] front _ _ c.in_ok-new.ensures.exact c.in_ok-words.ensures.exact)
    c.in_ok-columns.ensures.exact in
    record {
      exact = IfOk-weaker c.end.result _ _
          (λ text made. made ∙ ap (λ line. line ++ 10 ∷ []) line) c.end.ensures.exact;
    }
