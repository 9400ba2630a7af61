use Rattle.depot_recovery.proofs.BodiesLemmas.{bodies_grow}
use Rattle.depot_recovery.proofs.growth.bodies_grow.Goals as goal

pub returns : goal.returns
returns c = record { law = bodies_grow }
