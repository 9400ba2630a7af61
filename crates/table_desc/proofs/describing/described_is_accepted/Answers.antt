use Rattle.table_desc.proofs.AcceptedLemmas.{described-accepted}
use Rattle.table_desc.proofs.describing.described_is_accepted.Goals as goal

pub returns : goal.returns
returns c = record { law = described-accepted }
