-- The files and the record went on by the same write.
use Rattle.std.proofs.Common.{ℕ, List, [], ◌∷◌, ◌++◌, ap, ◌∙◌}
use Rattle.depot_disk.specs.declared.step.Step.{Step}
use Rattle.depot_disk.specs.Life.{Wrote}
use Rattle.depot_disk.proofs.StepLemmas.{AreMadeBy-write}
use Rattle.depot_disk.proofs.mem_disk.MemDisk.may_write.Goals as goal

pub invariant_of-self-2 : goal.invariant_of-self-2
invariant_of-self-2 c =
    AreMadeBy-write c.self.inside.steps.items c.push_reserved.new.steps.items c.write_step.result
    c.args.file c.args.at c.args.bytes.now c.self.inside.files c.write_in.new.files
    (c.push_reserved.ensures.exact
    ∙ ap (λ (steps : List Step). steps ++ c.write_step.result ∷ []) c.reserve.ensures.items)
    (c.write_step.ensures.exact
    ∙ ap (λ (kept : List ℕ). (c.args.file, Wrote c.args.at kept)) c.in_ok-bytes_kept.ensures.items)
    c.self.invariant c.in_ok-write_in.ensures.ok
