use Rattle.depot_recovery.proofs.EmptyLemmas.{depots_come_whole}
use Rattle.depot_recovery.proofs.growth.depots_come_whole.Goals as goal

pub returns : goal.returns
returns c = record { law = depots_come_whole }
