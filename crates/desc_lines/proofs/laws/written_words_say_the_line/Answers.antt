use Rattle.desc_lines.proofs.LineLemmas.{line_of-words}
use Rattle.desc_lines.proofs.laws.written_words_say_the_line.Goals as goal

pub returns : goal.returns
returns c = record { law = line_of-words }
