use Rattle.std.proofs.Common.{take}
use Rattle.std.specs.Prelude.{flat_map}
use Rattle.std.proofs.Math.Seq.{take-append_seam}
use Rattle.partition_map.specs.Partitions.{dependent_parts}
use Rattle.view_meaning.proofs.ListLemmas.{BeginsWith-step}
use Rattle.stale_test.proofs.reached.push_dependents.Goals as goal

pub returns-in_err-push_run-clause-kept : goal.returns-in_err-push_run-clause-kept
returns-in_err-push_run-clause-kept c =
    let so_far = flat_map (dependent_parts c.args.width c.args.source_width c.args.span)
    (take c.loop-part.part-index c.args.source_parts.now) in
    BeginsWith-step c.args.parts.now.items c.loop-part.parts.items c.push_run.new.parts.items
    (rw c.loop-part.invariant (take-append_seam c.args.parts.now.items so_far))
    c.push_run.ensures.kept
