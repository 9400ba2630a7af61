use Rattle.desc_lines.proofs.TextLemmas.{lines_of-lack_lf}
use Rattle.desc_lines.proofs.laws.texts_are_cut_into_lines.Goals as goal

pub returns : goal.returns
returns c = record { law = lines_of-lack_lf }
