use Rattle.machine_meaning.proofs.StepLemmas.{good_steps}
use Rattle.machine_meaning.proofs.laws.steps_stay_good.Goals as goal

pub returns : goal.returns
returns c = record { law = good_steps }
