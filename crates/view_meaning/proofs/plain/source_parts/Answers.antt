use Rattle.std.proofs.Common.{sym}
use Rattle.view_meaning.proofs.PartitionLemmas.{parts_met-no_width}
use Rattle.view_meaning.proofs.plain.source_parts.Goals as goal

pub returns-in-None-clause-exact : goal.returns-in-None-clause-exact
returns-in-None-clause-exact c = rw (sym c.in-None.ensures.exact) (search parts_met-no_width)
