use Rattle.desc_lines.proofs.TextLemmas.{lines_of-texts}
use Rattle.desc_lines.proofs.laws.texts_have_the_written_lines.Goals as goal

pub returns : goal.returns
returns c = record { law = lines_of-texts }
