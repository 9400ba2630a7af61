use Rattle.std.proofs.Common.{◌∙◌, ◌++◌, ◌∷◌, [], ap, codes, flat_map, map}
use Rattle.std.proofs.lemmas.Result.{IfOk-weaker}
use Rattle.desc_lines.specs.LineTexts.{agg_words, view_front}
use Rattle.desc_lines.proofs.WritingLemmas.{spaced-list}
use Rattle.desc_lines.proofs.writing.group_text.Goals as goal

pub returns : goal.returns
returns c =
    let front = view_front c.args.name.now c.args.width.now (codes "group") c.args.source.now in
    let keys = map (λ word. word.now) c.args.keys.now in
    let begun = spaced-list (codes "view") front (codes "by") keys _ _ _
    c.in_ok-view.ensures.exact c.in_ok-word.ensures.exact c.in_ok-words.ensures.exact in
    let line = spaced-list (codes "view") (front ++ codes "by" ∷ keys) (codes "agg")
    (flat_map agg_words c.args.aggs.now) _ _ _ begun c.in_ok-word-2.ensures.exact
    c.in_ok-aggs.ensures.exact in
    record {
      exact = IfOk-weaker c.end.result _ _
          (λ text made. made ∙ ap (λ line. line ++ 10 ∷ []) line) c.end.ensures.exact;
    }
