use Rattle.std.proofs.Common.{refl}
use Rattle.dir_disk.proofs.dir_disk.DirDiskDisk.remove.Goals as goal

-- any image may be left, before and after
pub returns-clause-left : goal.returns-clause-left
returns-clause-left g c = λ image left. (image, tt, λ other apart. refl)
