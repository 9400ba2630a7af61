use Rattle.depot_recovery.proofs.SoundLemmas.{found_in-sound}
use Rattle.depot_recovery.proofs.laws.what_is_held_is_found.Goals as goal

pub returns : goal.returns
returns c = record { law = found_in-sound c.files_are_read_again.ensures.law }
