use Rattle.depot_recovery.proofs.NeededLemmas.{only_bodies_count}
use Rattle.depot_recovery.proofs.growth.only_bodies_count.Goals as goal

pub returns : goal.returns
returns c = record { law = only_bodies_count }
