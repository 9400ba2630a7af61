use Rattle.std.proofs.Common.{◌∙◌, ℕ, ap, subst, sym}
use Rattle.query_pin.specs.Kept.{entry_in}
use Rattle.depot_recovery.specs.Latest.{IsLastInstall}
use Rattle.depot_recovery.proofs.LastInstallLemmas.{IsLastInstall-told}
use Rattle.depot_recovery.proofs.latest.last_install.Goals as goal

pub returns : goal.returns
returns c = record {
  exact =
      let state = c.args.core.now.state in
      subst (IsLastInstall state.journal c.args.key) (sym c.unwrap_or.ensures)
      (IsLastInstall-told c.args.core.now.desc state c.args.key c.entry_of.result
      c.requires.found.good
      (sym (c.entry_of.ensures.exact
      ∙ ap (λ (version : ℕ). entry_in state.held (record { key = c.args.key; version = version }))
      c.version.ensures.exact)));
}
