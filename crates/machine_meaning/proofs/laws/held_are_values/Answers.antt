use Rattle.machine_meaning.proofs.ContentLemmas.{held_values}
use Rattle.machine_meaning.proofs.laws.held_are_values.Goals as goal

pub returns : goal.returns
returns c = record { law = held_values }
