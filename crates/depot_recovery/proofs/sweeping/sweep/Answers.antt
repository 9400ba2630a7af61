-- Each turn sweeps on.
use Rattle.std.proofs.Common.{◌∙◌}
use Rattle.depot_recovery.proofs.SweepLemmas.{Sweeps-both}
use Rattle.depot_recovery.proofs.sweeping.sweep.Goals as goal

pub returns-in_err-next-clause-sweeps : goal.returns-in_err-next-clause-sweeps
returns-in_err-next-clause-sweeps g c =
    Sweeps-both c.args.core.now.state.journal (g.D.Disk.state c.args.disk.now)
    (g.D.Disk.state c.loop-next.disk) (g.D.Disk.state c.sweep_first.new.disk)
    (g.met.D.Disk.one_piece c.loop-next.disk) c.loop-next.invariant.sweeps
    c.in_err-next.ensures.sweeps

pub loop-next-preserved : goal.loop-next-preserved
loop-next-preserved g c = record {
  swept = c.in_ok-next.ensures.swept;
  sweeps = Sweeps-both c.args.core.now.state.journal (g.D.Disk.state c.args.disk.now)
      (g.D.Disk.state c.loop-next.disk) (g.D.Disk.state c.sweep_first.new.disk)
      (g.met.D.Disk.one_piece c.loop-next.disk) c.loop-next.invariant.sweeps
      c.in_ok-next.ensures.sweeps;
  faults = c.in_ok-next.ensures.cause.kept ∙ c.loop-next.invariant.faults;
  loan = c.in_ok-next.ensures.loan ∙ c.loop-next.invariant.loan;
}
