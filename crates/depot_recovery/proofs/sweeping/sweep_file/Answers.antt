-- A removal of a file that is not needed.
use Rattle.std.proofs.Common.{sym, ◌∙◌}
use Rattle.std.proofs.lemmas.Bool.{false≢true}
use Rattle.depot_recovery.proofs.SweepLemmas.{Sweeps-file}
use Rattle.depot_recovery.proofs.sweeping.sweep_file.Goals as goal

pub returns-clause-sweeps : goal.returns-clause-sweeps
returns-clause-sweeps g c =
    Sweeps-file c.args.core.now.state.journal c.args.file (g.D.Disk.state c.args.disk.now)
    (g.D.Disk.state c.remove.new.self) (g.met.D.Disk.one_piece c.args.disk.now)
    (λ needed. false≢true
    (sym c.if-is_needed.false ∙ c.is_needed.ensures.exact.1 needed)) c.remove.ensures.call.time
    c.remove.ensures.part c.remove.ensures.left
