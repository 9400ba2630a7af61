use Rattle.depot_recovery.proofs.EmptyLemmas.{empty_depots_are_sound}
use Rattle.depot_recovery.proofs.growth.empty_depots_are_sound.Goals as goal

pub returns : goal.returns
returns c = record { law = empty_depots_are_sound }
