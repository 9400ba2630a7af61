use Rattle.feed_csv.proofs.RowLemmas.{rows_fit}
use Rattle.feed_csv.proofs.body.rows_fit.Goals as goal

pub returns : goal.returns
returns c = record { law = rows_fit }
