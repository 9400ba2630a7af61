use Rattle.view_meaning.proofs.UnsettledLemmas.{unsettled-with_loads}
use Rattle.view_meaning.proofs.laws.reached_are_unsettled.Goals as goal

pub returns : goal.returns
returns c = record { law = unsettled-with_loads }
