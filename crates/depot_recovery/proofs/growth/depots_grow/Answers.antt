use Rattle.depot_recovery.proofs.GrowthLemmas.{depots_grow}
use Rattle.depot_recovery.proofs.growth.depots_grow.Goals as goal

pub returns : goal.returns
returns c = record { law = depots_grow }
