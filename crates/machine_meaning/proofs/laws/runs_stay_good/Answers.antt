use Rattle.machine_meaning.proofs.StepLemmas.{good_runs}
use Rattle.machine_meaning.proofs.laws.runs_stay_good.Goals as goal

pub returns : goal.returns
returns c = record { law = good_runs }
