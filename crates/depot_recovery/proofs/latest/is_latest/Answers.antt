use Rattle.depot_recovery.proofs.LastInstallLemmas.{is_latest-last}
use Rattle.depot_recovery.proofs.latest.is_latest.Goals as goal

pub returns : goal.returns
returns c = record {
  exact = is_latest-last c.args.core.now.state.journal c.args.key c.args.number
      c.last_install.result c.requires.install c.last_install.ensures.exact;
}
