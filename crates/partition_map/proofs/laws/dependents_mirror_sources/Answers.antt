use Rattle.partition_map.proofs.DependentLemmas.{mutual_parts}
use Rattle.partition_map.proofs.laws.dependents_mirror_sources.Goals as goal

pub returns : goal.returns
returns c = record { law = mutual_parts }
