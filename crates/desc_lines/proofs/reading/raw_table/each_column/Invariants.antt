-- the columns so far, and after them those of the words that are left, are the columns of all
-- words
use Rattle.std.proofs.Common.{◌≡◌, drop, map}
use Rattle.desc_lines.specs.Cuts.{each_of}
use Rattle.desc_lines.specs.Lines.{column_of}
use Rattle.desc_lines.proofs.FrontLemmas.{with_front}
use Rattle.desc_lines.proofs.reading.raw_table.each_column.Given as goal

abbrev pub invariant-loop-word : goal.invariant-loop-word
invariant-loop-word l =
    with_front l.columns.items
    (each_of column_of (map (λ word. word.now) (drop l.word-index l.words)))
    ≡ each_of column_of (map (λ word. word.now) l.words)
