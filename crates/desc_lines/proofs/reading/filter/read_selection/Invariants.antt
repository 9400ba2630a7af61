-- the conditions so far, before what the words that are left say, are what all words say
use Rattle.std.proofs.Common.{◌≡◌, length, map}
use Rattle.desc_lines.specs.Lines.{selection_of}
use Rattle.desc_lines.proofs.SelectionLemmas.{with_conds}
use Rattle.desc_lines.proofs.reading.filter.read_selection.Given as goal

abbrev pub invariant-loop-words : goal.invariant-loop-words
invariant-loop-words l =
    with_conds l.conds.items (selection_of (map (λ word. word.now) l.words))
    ≡ selection_of (map (λ word. word.now) l.fn.words)

abbrev pub decreases-loop-words : goal.decreases-loop-words
decreases-loop-words l = length l.words
