-- the pairs so far, and after them those of the words that are left, are the pairs of all
-- words
use Rattle.std.proofs.Common.{◌≡◌, drop, map}
use Rattle.desc_lines.specs.Cuts.{each_of}
use Rattle.desc_lines.specs.Lines.{pair_of}
use Rattle.desc_lines.proofs.FrontLemmas.{with_front}
use Rattle.desc_lines.proofs.reading.join.each_pair.Given as goal

abbrev pub invariant-loop-word : goal.invariant-loop-word
invariant-loop-word l =
    with_front l.pairs.items
    (each_of pair_of (map (λ word. word.now) (drop l.word-index l.words)))
    ≡ each_of pair_of (map (λ word. word.now) l.words)
