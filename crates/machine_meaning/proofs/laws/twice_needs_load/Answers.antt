use Rattle.machine_meaning.proofs.GainLemmas.{loads_between}
use Rattle.machine_meaning.proofs.laws.twice_needs_load.Goals as goal

pub returns : goal.returns
returns c = record { law = loads_between }
