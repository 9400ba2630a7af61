use Rattle.machine_meaning.proofs.ProgressLemmas.{progress}
use Rattle.machine_meaning.proofs.laws.installs_settle.Goals as goal

pub returns : goal.returns
returns c = record { law = progress }
