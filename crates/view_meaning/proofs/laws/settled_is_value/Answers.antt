use Rattle.view_meaning.proofs.ContentLemmas.{settled_values}
use Rattle.view_meaning.proofs.laws.settled_is_value.Goals as goal

pub returns : goal.returns
returns c = record { law = settled_values }
