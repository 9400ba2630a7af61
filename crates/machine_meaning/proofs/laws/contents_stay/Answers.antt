use Rattle.machine_meaning.proofs.ContentLemmas.{stable_contents}
use Rattle.machine_meaning.proofs.laws.contents_stay.Goals as goal

pub returns : goal.returns
returns c = record { law = stable_contents }
