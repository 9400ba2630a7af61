-- By the entry that has the number of the file, if one has.
use Rattle.std.proofs.Common.{◌∙◌, arith, sym}
use Rattle.depot_recovery.proofs.SweepLemmas.{is_needed-install, is_needed-load}
use Rattle.depot_recovery.proofs.sweeping.is_needed.Goals as goal

pub returns-in-Some-clause-exact : goal.returns-in-Some-clause-exact
returns-in-Some-clause-exact c =
    is_needed-install c.args.core.now.state.journal c.args.file c.in-Some.key
    c.is_latest.result c.if-file-eq-CATALOG_FILE.false c.if-file-eq-MARK_FILE.false
    (sym c.in-Some.is ∙ c.installed_after.ensures.exact) c.is_latest.ensures.exact

pub returns-in-None-clause-exact : goal.returns-in-None-clause-exact
returns-in-None-clause-exact c =
    is_needed-load c.args.core.now.state.journal c.args.file c.len.result
    c.if-file-eq-CATALOG_FILE.false c.if-file-eq-MARK_FILE.false
    (sym c.in-None.is ∙ c.installed_after.ensures.exact) c.len.ensures.exact (omega arith)
