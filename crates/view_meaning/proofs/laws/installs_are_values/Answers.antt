use Rattle.view_meaning.proofs.InstallValueLemmas.{install_values}
use Rattle.view_meaning.proofs.laws.installs_are_values.Goals as goal

pub returns : goal.returns
returns c = record { law = install_values }
