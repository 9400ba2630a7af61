use Rattle.row_codec.proofs.DeliveryLemmas.{deliveries_law}
use Rattle.row_codec.proofs.laws.deliveries_have_one_spelling.Goals as goal

pub returns : goal.returns
returns c = record { law = deliveries_law }
