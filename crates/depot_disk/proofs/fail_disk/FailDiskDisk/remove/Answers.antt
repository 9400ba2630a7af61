-- Of an absent file nothing changes below, and so nothing here.
use Rattle.depot_disk.proofs.CountingLemmas.{Unchanged-counting}
use Rattle.depot_disk.proofs.fail_disk.FailDiskDisk.remove.Goals as goal

pub returns-clause-absent : goal.returns-clause-absent
returns-clause-absent g c =
    Unchanged-counting c.args.file c.args.self.now.list.faults c.admit.new.self.faults
    (g.D.Disk.state c.args.self.now.disk) (g.D.Disk.state c.remove.new.self)
    (g.D.Disk.state c.args.self.now.disk).holds c.remove.ensures.absent
