-- the line has the pairs so far after it
use Rattle.std.proofs.Common.{◌≡◌, ◌++◌, map, take}
use Rattle.desc_lines.specs.LineTexts.{pair_word, spaced_after}
use Rattle.desc_lines.proofs.writing.line_words.LineWords.pairs.Given as goal

abbrev pub invariant-loop-pair : goal.invariant-loop-pair
invariant-loop-pair l =
    l.line ≡ l.initial.line ++ spaced_after (map pair_word (take l.pair-index l.pairs))
