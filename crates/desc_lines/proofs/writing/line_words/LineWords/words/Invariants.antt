-- the line has the words so far after it
use Rattle.std.proofs.Common.{◌≡◌, ◌++◌, map, take}
use Rattle.desc_lines.specs.LineTexts.{spaced_after}
use Rattle.desc_lines.proofs.writing.line_words.LineWords.words.Given as goal

abbrev pub invariant-loop-word : goal.invariant-loop-word
invariant-loop-word l =
    l.line ≡ l.initial.line ++ spaced_after (map (λ word. word.now) (take l.word-index l.words))
