-- The first stretch of a partition.
use Rattle.std.proofs.Common.{◌∙◌, [], ◌∷◌, ◌++◌, ap}
use Rattle.raw_load.specs.Stretches.{stretches_in}
use Rattle.raw_load.proofs.PartLemmas.{AddsStretch-update}
use Rattle.raw_load.proofs.stretches.push_stretch.Goals as goal

pub returns-in-Ok : goal.returns-in-Ok
returns-in-Ok c = record {
  ok = AddsStretch-update c.args.key c.args.stretch c.push-2.new.self _ _
      (rw c.get_mut.follows.holds-at-none at c.in-Ok.ensures.updates.0)
      (c.in_ok-push-2.ensures.items
      ∙ ap (λ before. before ++ c.args.stretch ∷ [])
      (c.in_ok-stretches.ensures.items ∙ ap stretches_in c.in_default.ensures.value));
}
