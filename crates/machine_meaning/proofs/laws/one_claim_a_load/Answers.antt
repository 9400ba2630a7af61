use Rattle.machine_meaning.proofs.TakenLemmas.{one_claim}
use Rattle.machine_meaning.proofs.laws.one_claim_a_load.Goals as goal

pub returns : goal.returns
returns c = record { law = one_claim }
