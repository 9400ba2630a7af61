-- After the last step each file is as the pick leaves it, and so the image is one of those left.
use Rattle.std.proofs.Common.{ℕ, ◌≤◌, List, length, ap, subst, arith}
use Rattle.depot_disk.specs.declared.step.Step.{Step}
use Rattle.depot_disk.specs.Life.{Change}
use Rattle.depot_disk.specs.Record.{LeftBy, MemState, held_by}
use Rattle.depot_disk.specs.MemDisk.{steps_of}
use Rattle.depot_disk.proofs.AfterLemmas.{HasPicked-all, HasPicked-end, LeftBy-picked}
use Rattle.depot_disk.proofs.mem_disk.MemDisk.after_stop.Goals as goal

pub returns-clause-left : goal.returns-clause-left
returns-clause-left c =
    let steps = c.self.inside.steps.items in
    let new = c.loop-step.disk.steps in
    let all : length steps ≤ c.loop-step.step-index =
    omega (arith, ap (λ (list : List Step). length list) c.deref-step-items.ensures.value) in
    subst (λ (told : List (ℕ × Change)). LeftBy told (held_by new))
    (ap (λ (disk : MemState). disk.steps) c.self.view_is)
    (LeftBy-picked c.args.pick (steps_of steps) new
    (HasPicked-all c.args.pick (steps_of steps) new
    (HasPicked-end c.args.pick steps c.loop-step.step-index new all c.loop-step.invariant.picked)))
