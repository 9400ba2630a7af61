-- Each image is one from before the removal, but for the file.
use Rattle.depot_disk.specs.Record.{held_by}
use Rattle.depot_disk.proofs.DoesLemmas.{left-remove}
use Rattle.depot_disk.proofs.mem_disk.MemDiskDisk.remove.Goals as goal

pub returns-clause-left : goal.returns-clause-left
returns-clause-left c =
    left-remove (held_by c.args.self.now.steps c.args.file) c.args.file c.args.self.now
    c.counted_remove.new.self c.counted_remove.result c.counted_remove.ensures.exact
