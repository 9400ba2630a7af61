use Rattle.depot_recovery.proofs.NeededLemmas.{only_needed_files_count}
use Rattle.depot_recovery.proofs.growth.only_needed_files_count.Goals as goal

pub returns : goal.returns
returns c = record { law = only_needed_files_count }
