use Rattle.std.proofs.Common.{arith}
use Rattle.std.proofs.lemmas.Grind.{common_steps}
use Rattle.partition_map.proofs.PartitionLemmas.{parts_met-empty}
use Rattle.view_meaning.proofs.parts.parts_read.Goals as goal

pub returns-then-to-from-clause-exact : goal.returns-then-to-from-clause-exact
returns-then-to-from-clause-exact c = grind (arith, common_steps, parts_met-empty)
