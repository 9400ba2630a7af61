-- The run stands at its place.
use Rattle.std.proofs.Common.{◌+◌, refl}
use Rattle.depot_marks.proofs.BelowLemmas.{list_any-put}
use Rattle.depot_marks.proofs.below.put_run.Goals as goal

pub returns-in-Ok : goal.returns-in-Ok
returns-in-Ok c = record {
  ok = λ test. rw c.in-Ok.ensures.keys
      (list_any-put test c.args.waiting.now.keys c.args.table c.args.parts.first
      c.args.parts.count (c.args.parts.first + c.args.parts.count) refl);
}
