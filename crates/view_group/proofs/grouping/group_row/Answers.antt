-- One aggregate more is put after those so far.
use Rattle.std.proofs.Common.{arith}
use Rattle.std.proofs.lemmas.Grind.{common_steps}
use Rattle.std.proofs.lemmas.List.Elements.{filter_map-append}
use Rattle.view_group.proofs.grouping.group_row.Goals as goal

pub loop-agg-preserved : goal.loop-agg-preserved
loop-agg-preserved c = grind (arith, common_steps, filter_map-append)
