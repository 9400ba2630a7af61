-- the line has the aggregates so far after it
use Rattle.std.proofs.Common.{◌≡◌, ◌++◌, flat_map, take}
use Rattle.desc_lines.specs.LineTexts.{agg_words, spaced_after}
use Rattle.desc_lines.proofs.writing.line_words.LineWords.aggs.Given as goal

abbrev pub invariant-loop-agg : goal.invariant-loop-agg
invariant-loop-agg l =
    l.line ≡ l.initial.line ++ spaced_after (flat_map agg_words (take l.agg-index l.aggs))
