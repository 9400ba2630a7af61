use Rattle.row_codec.proofs.BodyLemmas.{bodies_law}
use Rattle.row_codec.proofs.laws.bodies_have_one_spelling.Goals as goal

pub returns : goal.returns
returns c = record { law = bodies_law }
