-- What was kept before a load is kept after it.
use Rattle.run_journal.proofs.KeptLemmas.{IsKept-as_before}
use Rattle.depot_cli.proofs.reply.loading.load.Goals as goal

pub returns-clause-kept : goal.returns-clause-kept
returns-clause-kept c =
    let desc = c.args.journal.now.core.desc in
    c.step_load.ensures.kept desc (IsKept-as_before desc c.args.journal.now c.ready_load.new.self
    c.ready_load.ensures.kept c.requires.kept)
