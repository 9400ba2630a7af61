-- the line has the columns so far after it
use Rattle.std.proofs.Common.{◌≡◌, ◌++◌, map, take}
use Rattle.desc_lines.specs.LineTexts.{column_word, spaced_after}
use Rattle.desc_lines.proofs.writing.line_words.LineWords.columns.Given as goal

abbrev pub invariant-loop-column : goal.invariant-loop-column
invariant-loop-column l =
    l.line ≡ l.initial.line ++ spaced_after (map column_word (take l.column-index l.columns))
