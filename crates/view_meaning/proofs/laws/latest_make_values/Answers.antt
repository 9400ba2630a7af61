use Rattle.view_meaning.proofs.LatestLemmas.{values_of_latest}
use Rattle.view_meaning.proofs.laws.latest_make_values.Goals as goal

pub returns : goal.returns
returns c = record { law = values_of_latest }
