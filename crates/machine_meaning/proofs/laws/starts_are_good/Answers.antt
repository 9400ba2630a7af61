use Rattle.machine_meaning.proofs.GoodLemmas.{good_starts}
use Rattle.machine_meaning.proofs.laws.starts_are_good.Goals as goal

pub returns : goal.returns
returns c = record { law = good_starts }
