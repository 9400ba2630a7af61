use Rattle.std.proofs.Common.{length}
use Rattle.depot_disk.proofs.TornLemmas.{Torn-same}
use Rattle.dir_disk.proofs.dir_disk.DirDiskDisk.write.Goals as goal

-- any image may be left, before and after
pub returns-clause-left : goal.returns-clause-left
returns-clause-left g c = λ image left.
    (image, tt, Torn-same c.args.file c.args.at (length c.args.bytes.now) image)
