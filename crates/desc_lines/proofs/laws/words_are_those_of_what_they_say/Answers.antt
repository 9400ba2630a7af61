use Rattle.desc_lines.proofs.LineLemmas.{line_of-some}
use Rattle.desc_lines.proofs.laws.words_are_those_of_what_they_say.Goals as goal

pub returns : goal.returns
returns c = record { law = line_of-some }
