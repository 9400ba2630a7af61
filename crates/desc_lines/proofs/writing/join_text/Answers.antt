use Rattle.std.proofs.Common.{◌∙◌, ◌++◌, ◌∷◌, [], ap, codes, map}
use Rattle.std.proofs.lemmas.Result.{IfOk-weaker}
use Rattle.desc_lines.specs.LineTexts.{pair_word, source_words, view_front}
use Rattle.desc_lines.proofs.WritingLemmas.{spaced-append, spaced-list}
use Rattle.desc_lines.proofs.writing.join_text.Goals as goal

pub returns : goal.returns
returns c =
    let front = view_front c.args.name.now c.args.width.now (codes "join") c.args.left.now in
    let right = source_words c.args.right.now in
    let begun = spaced-append (codes "view") front right _ _ c.in_ok-view.ensures.exact
    c.in_ok-source.ensures.exact in
    let line = spaced-list (codes "view") (front ++ right) (codes "on")
    (map pair_word c.args.on.now) _ _ _ begun c.in_ok-word.ensures.exact
    c.in_ok-pairs.ensures.exact in
    record {
      exact = IfOk-weaker c.end.result _ _
          (λ text made. made ∙ ap (λ line. line ++ 10 ∷ []) line) c.end.ensures.exact;
    }
