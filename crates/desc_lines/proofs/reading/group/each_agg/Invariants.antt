-- the aggregates so far, and after them those of the words that are left, are those of all words
use Rattle.std.proofs.Common.{◌≡◌, length, map}
use Rattle.desc_lines.specs.Lines.{each_agg_of}
use Rattle.desc_lines.proofs.FrontLemmas.{with_front}
use Rattle.desc_lines.proofs.reading.group.each_agg.Given as goal

abbrev pub invariant-loop-words : goal.invariant-loop-words
invariant-loop-words l =
    with_front l.aggs.items (each_agg_of (map (λ word. word.now) l.words))
    ≡ each_agg_of (map (λ word. word.now) l.fn.words)

abbrev pub decreases-loop-words : goal.decreases-loop-words
decreases-loop-words l = length l.words
