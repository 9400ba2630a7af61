-- the line has the conditions so far after it
use Rattle.std.proofs.Common.{◌≡◌, ◌++◌, ◌∷◌, codes, flat_map, take}
use Rattle.desc_lines.specs.LineTexts.{cond_words, spaced_after}
use Rattle.desc_lines.proofs.writing.line_words.LineWords.more_conds.Given as goal

abbrev pub invariant-loop-cond : goal.invariant-loop-cond
invariant-loop-cond l =
    l.line ≡ l.initial.line ++ spaced_after
    (flat_map (λ cond. codes "and" ∷ cond_words cond) (take l.cond-index l.conds))
