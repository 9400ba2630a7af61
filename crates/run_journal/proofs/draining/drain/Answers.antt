-- Each turn installs the first unsettled partition.
use Rattle.std.proofs.Common.{sym}
use Rattle.run_journal.proofs.DrainingLemmas.{DrainsSome-draining, IsDraining-as_before}
use Rattle.run_journal.proofs.DrainingLemmas.{IsDraining-end, IsDraining-step, OnErr-each}
use Rattle.run_journal.proofs.draining.drain.Goals as goal

pub keys-preserved : goal.keys-preserved
keys-preserved c =
    IsDraining-step c.args.journal.now c.keys.journal c.install.new.self c.in-Some.key
    c.keys.invariant (sym c.in-Some.ensures.exact) c.in_ok-install.ensures.ok
    c.in_ok-install.ensures.left c.in_ok-install.ensures.reclaimed c.in_ok-install.ensures.kept

pub returns-in_err-install-clause-err : goal.returns-in_err-install-clause-err
returns-in_err-install-clause-err c =
    OnErr-each c.from_residual.result
    (DrainsSome-draining c.args.journal.now c.keys.journal c.install.new.self c.keys.invariant
    c.in_err-install.ensures.err)

pub returns-in_err-install-clause-kept : goal.returns-in_err-install-clause-kept
returns-in_err-install-clause-kept c =
    (IsDraining-as_before c.args.journal.now c.keys.journal c.install.new.self c.keys.invariant
    c.in_err-install.ensures.err).kept

pub returns-clause-ok : goal.returns-clause-ok
returns-clause-ok c =
    IsDraining-end c.args.journal.now c.keys.journal c.keys.invariant
    (sym c.in_default.ensures.exact)
