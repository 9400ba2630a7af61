-- Each image is one from before the write, torn.
use Rattle.depot_disk.proofs.DoesLemmas.{left-write}
use Rattle.depot_disk.proofs.mem_disk.MemDiskDisk.write.Goals as goal

pub returns-clause-left : goal.returns-clause-left
returns-clause-left c =
    left-write c.args.file c.args.at c.args.bytes.now c.args.self.now c.counted_write.new.self
    c.counted_write.result c.counted_write.ensures.exact
