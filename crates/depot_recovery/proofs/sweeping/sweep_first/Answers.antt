-- The first file from a number on is swept, and then those up to it are.
use Rattle.std.proofs.Common.{rules}
use Rattle.depot_recovery.proofs.SweepLemmas.{IfSome-last, IfSome-next, Sweeps-both, Sweeps-reading}
use Rattle.depot_recovery.proofs.sweeping.sweep_first.Goals as goal

pub returns-in_err-first_from-in-Some-clause-sweeps :
    goal.returns-in_err-first_from-in-Some-clause-sweeps
returns-in_err-first_from-in-Some-clause-sweeps g c =
    Sweeps-both c.args.core.now.state.journal (g.D.Disk.state c.args.disk.now)
    (g.D.Disk.state c.sweep_file.new.disk) (g.D.Disk.state c.first_from-then-file.new.self)
    (g.met.D.Disk.one_piece c.sweep_file.new.disk)
    (Sweeps-both c.args.core.now.state.journal (g.D.Disk.state c.args.disk.now)
    (g.D.Disk.state c.first_from.new.self) (g.D.Disk.state c.sweep_file.new.disk)
    (g.met.D.Disk.one_piece c.first_from.new.self)
    (Sweeps-reading c.args.core.now.state.journal (g.D.Disk.state c.args.disk.now)
    (g.D.Disk.state c.first_from.new.self) c.first_from.result
    (g.met.D.Disk.one_piece c.args.disk.now) c.first_from.ensures.reading)
    c.in_ok-sweep_file-in-Some.ensures.sweeps)
    (Sweeps-reading c.args.core.now.state.journal (g.D.Disk.state c.sweep_file.new.disk)
    (g.D.Disk.state c.first_from-then-file.new.self) c.first_from-then-file.result
    (g.met.D.Disk.one_piece c.sweep_file.new.disk) c.first_from-then-file.ensures.reading)

pub returns-then-file-clause-swept : goal.returns-then-file-clause-swept
returns-then-file-clause-swept g c =
    IfSome-last c.args.core.now.state.journal c.in-Some.file
    c.in_ok-first_from-in-Some.field-0 (g.D.Disk.state c.sweep_file.new.disk).holds
    (g.D.Disk.state c.first_from-then-file.new.self).holds c.if-file.true
    c.in_ok-sweep_file-in-Some.ensures.bound (search rules)
    c.in_ok-first_from-in-Some.ensures.reading.same.held
    (IfSome-next c.args.core.now.state.journal c.args.from c.in-Some.file c.in_ok-file.field-0
    (g.D.Disk.state c.args.disk.now).holds (g.D.Disk.state c.first_from.new.self).holds
    (g.D.Disk.state c.sweep_file.new.disk).holds c.in-Some.is c.in_ok-file.ensures.reading.same.held
    c.requires.before c.in_ok-file.ensures.exact c.in_ok-sweep_file-in-Some.ensures.sweeps.held
    c.in_ok-sweep_file-in-Some.ensures.swept)
    c.in_ok-first_from-in-Some.ensures.exact

pub returns-then-file-clause-sweeps : goal.returns-then-file-clause-sweeps
returns-then-file-clause-sweeps g c =
    Sweeps-both c.args.core.now.state.journal (g.D.Disk.state c.args.disk.now)
    (g.D.Disk.state c.sweep_file.new.disk) (g.D.Disk.state c.first_from-then-file.new.self)
    (g.met.D.Disk.one_piece c.sweep_file.new.disk)
    (Sweeps-both c.args.core.now.state.journal (g.D.Disk.state c.args.disk.now)
    (g.D.Disk.state c.first_from.new.self) (g.D.Disk.state c.sweep_file.new.disk)
    (g.met.D.Disk.one_piece c.first_from.new.self)
    (Sweeps-reading c.args.core.now.state.journal (g.D.Disk.state c.args.disk.now)
    (g.D.Disk.state c.first_from.new.self) c.first_from.result
    (g.met.D.Disk.one_piece c.args.disk.now) c.first_from.ensures.reading)
    c.in_ok-sweep_file-in-Some.ensures.sweeps)
    (Sweeps-reading c.args.core.now.state.journal (g.D.Disk.state c.sweep_file.new.disk)
    (g.D.Disk.state c.first_from-then-file.new.self) c.first_from-then-file.result
    (g.met.D.Disk.one_piece c.sweep_file.new.disk) c.first_from-then-file.ensures.reading)

pub returns-else-file-clause-swept : goal.returns-else-file-clause-swept
returns-else-file-clause-swept g c =
    IfSome-next c.args.core.now.state.journal c.args.from c.in-Some.file c.in_ok-file.field-0
    (g.D.Disk.state c.args.disk.now).holds (g.D.Disk.state c.first_from.new.self).holds
    (g.D.Disk.state c.sweep_file.new.disk).holds c.in-Some.is c.in_ok-file.ensures.reading.same.held
    c.requires.before c.in_ok-file.ensures.exact c.in_ok-sweep_file-in-Some.ensures.sweeps.held
    c.in_ok-sweep_file-in-Some.ensures.swept
