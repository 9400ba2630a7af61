use Rattle.desc_lines.proofs.WordLemmas.{words-spaced}
use Rattle.desc_lines.proofs.laws.spaced_words_are_cut_again.Goals as goal

pub returns : goal.returns
returns c = record { law = words-spaced }
