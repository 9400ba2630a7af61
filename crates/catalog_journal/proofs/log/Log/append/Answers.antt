-- Two writes that stay: of the record, while its gate is closed, and of the gate.
use Rattle.std.proofs.Common.{◌∙◌, arith}
use Rattle.catalog_journal.proofs.AppendLemmas.{IsLogOf-next, IsNext-framed}
use Rattle.catalog_journal.proofs.AddLemmas.{HasNow-through, HoldsLog-appended}
use Rattle.catalog_journal.proofs.AddLemmas.{LeavesOnly-opening, LeavesOnly-staging}
use Rattle.catalog_journal.proofs.ThroughLemmas.{Becomes-told}
use Rattle.catalog_journal.proofs.log.Log.append.Goals as goal

pub returns-in_err-write_through-clause-any_moment :
    goal.returns-in_err-write_through-clause-any_moment
returns-in_err-write_through-clause-any_moment g c bodies of shown each =
    LeavesOnly-staging (g.D.Disk.state c.args.disk.now) c.args.self.now bodies c.args.framed
    c.deref.result.now
    (IsNext-framed c.args.self.now bodies c.args.framed c.framed.inside.bytes.items
    c.deref.result.now of c.framed.invariant c.framed.view_is c.deref.ensures.value c.requires.few)
    each (g.D.Disk.state c.write_through.new.disk) c.write_through.ensures.any_moment

pub returns-in_err-write_through-2-clause-any_moment :
    goal.returns-in_err-write_through-2-clause-any_moment
returns-in_err-write_through-2-clause-any_moment g c bodies of shown each =
    LeavesOnly-opening (g.D.Disk.state c.args.disk.now) c.args.self.now bodies c.args.framed
    c.deref.result.now
    (IsNext-framed c.args.self.now bodies c.args.framed c.framed.inside.bytes.items
    c.deref.result.now of c.framed.invariant c.framed.view_is c.deref.ensures.value c.requires.few)
    each (g.D.Disk.state c.write_through.new.disk)
    (record {
      told_old = g.met.D.Disk.one_piece c.args.disk.now;
      told_new = g.met.D.Disk.one_piece c.write_through.new.disk;
      run = c.write_through.ensures.any_moment;
      durable = c.in_ok-write_through.ensures.durable;
    })
    shown (g.D.Disk.state c.write_through-2.new.disk) c.write_through-2.ensures.any_moment

pub returns-clause-ok : goal.returns-clause-ok
returns-clause-ok g c bodies of =
    IsLogOf-next c.args.self.now bodies c.args.framed c.deref.result.now c.len.result
    (IsNext-framed c.args.self.now bodies c.args.framed c.framed.inside.bytes.items
    c.deref.result.now of c.framed.invariant c.framed.view_is c.deref.ensures.value c.requires.few)
    (omega (arith, c.len.ensures, c.deref.ensures.len))

pub returns-clause-held : goal.returns-clause-held
returns-clause-held g c =
    HoldsLog-appended c.args.self.now c.framed.inside.bytes.items c.deref.result.now c.len.result
    (g.D.Disk.state c.args.disk.now).holds (g.D.Disk.state c.write_through.new.disk).holds
    (g.D.Disk.state c.write_through-2.new.disk).holds c.framed.invariant c.deref.ensures.value
    (omega (arith, c.len.ensures, c.deref.ensures.len)) c.requires.few c.requires.held
    c.in_ok-write_through.ensures.ok c.in_ok-write_through-2.ensures.ok

pub returns-clause-any_moment : goal.returns-clause-any_moment
returns-clause-any_moment g c bodies of shown each =
    LeavesOnly-opening (g.D.Disk.state c.args.disk.now) c.args.self.now bodies c.args.framed
    c.deref.result.now
    (IsNext-framed c.args.self.now bodies c.args.framed c.framed.inside.bytes.items
    c.deref.result.now of c.framed.invariant c.framed.view_is c.deref.ensures.value c.requires.few)
    each (g.D.Disk.state c.write_through.new.disk)
    (record {
      told_old = g.met.D.Disk.one_piece c.args.disk.now;
      told_new = g.met.D.Disk.one_piece c.write_through.new.disk;
      run = c.write_through.ensures.any_moment;
      durable = c.in_ok-write_through.ensures.durable;
    })
    shown (g.D.Disk.state c.write_through-2.new.disk) c.write_through-2.ensures.any_moment

pub returns-clause-durable : goal.returns-clause-durable
returns-clause-durable g c bodies of shown each =
    HasNow-through (g.D.Disk.state c.args.disk.now) c.args.self.now bodies c.args.framed
    c.deref.result.now
    (IsNext-framed c.args.self.now bodies c.args.framed c.framed.inside.bytes.items
    c.deref.result.now of c.framed.invariant c.framed.view_is c.deref.ensures.value c.requires.few)
    each (g.D.Disk.state c.write_through.new.disk)
    (record {
      told_old = g.met.D.Disk.one_piece c.args.disk.now;
      told_new = g.met.D.Disk.one_piece c.write_through.new.disk;
      run = c.write_through.ensures.any_moment;
      durable = c.in_ok-write_through.ensures.durable;
    })
    shown (g.D.Disk.state c.write_through-2.new.disk)
    (record {
      told_old = g.met.D.Disk.one_piece c.write_through.new.disk;
      told_new = g.met.D.Disk.one_piece c.write_through-2.new.disk;
      run = c.write_through-2.ensures.any_moment;
      durable = c.in_ok-write_through-2.ensures.durable;
    })
    (Becomes-told _ (g.D.Disk.state c.args.disk.now).holds
    (g.D.Disk.state c.write_through.new.disk).holds c.write_through.ensures.part ∙ shown)
