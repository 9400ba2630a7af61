use Rattle.desc_lines.proofs.WordLemmas.{words-are_words}
use Rattle.desc_lines.proofs.laws.lines_are_cut_into_words.Goals as goal

pub returns : goal.returns
returns c = record { law = words-are_words }
