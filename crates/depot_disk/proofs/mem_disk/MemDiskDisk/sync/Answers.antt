-- A sync adds no image.
use Rattle.depot_disk.specs.Record.{held_by}
use Rattle.depot_disk.proofs.DoesLemmas.{left-sync}
use Rattle.depot_disk.proofs.mem_disk.MemDiskDisk.sync.Goals as goal

pub returns-clause-left : goal.returns-clause-left
returns-clause-left c =
    left-sync (held_by c.args.self.now.steps c.args.file) c.args.file c.args.self.now
    c.counted_sync.new.self c.counted_sync.result c.counted_sync.ensures.exact
