use Rattle.table_desc.proofs.AgainLemmas.{declared-again}
use Rattle.table_desc.proofs.writing.accepted_is_declared_again.Goals as goal

pub returns : goal.returns
returns c = record { law = declared-again }
