-- A file that is there was put before; any other is put now.
use Rattle.std.proofs.Common.{sym, ◌∙◌}
use Rattle.std.specs.Prelude.{option_map, vec_items}
use Rattle.depot_disk.specs.MemDisk.{step_of, steps_of}
use Rattle.depot_disk.proofs.AfterLemmas.{DoesPicked-put}
use Rattle.depot_disk.proofs.mem_disk.MemDisk.put_picked.Goals as goal

pub returns-clause-exact : goal.returns-clause-exact
returns-clause-exact c =
    DoesPicked-put c.put_whole.result c.args.pick (steps_of c.args.steps.now)
    c.args.self.now.steps c.put_whole.new.self.steps (step_of c.args.step.now)
    (option_map vec_items c.in_ok-content.content) (sym c.has.ensures.exact ∙ c.if-has.false)
    c.in_ok-content.ensures.exact c.put_whole.ensures.exact
