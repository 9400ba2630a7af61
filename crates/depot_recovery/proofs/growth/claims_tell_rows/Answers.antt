use Rattle.depot_recovery.proofs.ClaimedLemmas.{claims_tell_rows}
use Rattle.depot_recovery.proofs.growth.claims_tell_rows.Goals as goal

pub returns : goal.returns
returns c = record { law = claims_tell_rows }
