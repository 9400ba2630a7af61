use Rattle.machine_meaning.proofs.ProgressLemmas.{ready_first}
use Rattle.machine_meaning.proofs.laws.unsettled_have_ready.Goals as goal

pub returns : goal.returns
returns c = record { law = ready_first }
