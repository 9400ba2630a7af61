use Rattle.row_codec.proofs.CellLemmas.{rows_law}
use Rattle.row_codec.proofs.laws.rows_have_one_spelling.Goals as goal

pub returns : goal.returns
returns c = record { law = rows_law }
