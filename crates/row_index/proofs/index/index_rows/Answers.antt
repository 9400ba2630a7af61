use Rattle.std.proofs.Common.{arith}
use Rattle.std.proofs.lemmas.Grind.{common_steps, flat_map-append}
use Rattle.row_index.proofs.IndexLemmas.{keyed-append}
use Rattle.row_index.proofs.index.index_rows.Goals as goal

pub loop-part-preserved : goal.loop-part-preserved
loop-part-preserved g c = grind (arith, common_steps, flat_map-append, keyed-append)
