use Rattle.depot_recovery.proofs.UnneededLemmas.{some_files_do_not_count}
use Rattle.depot_recovery.proofs.growth.some_files_do_not_count.Goals as goal

pub returns : goal.returns
returns c = record { law = some_files_do_not_count }
