-- A drain that was done made all of its installs.
use Rattle.run_journal.specs.KeptJournals.{entries_of}
use Rattle.run_journal.proofs.KeptLemmas.{DrainsSome-drained}
use Rattle.depot_cli.proofs.KnownLemmas.{OnErr-each}
use Rattle.depot_cli.proofs.reply.drain_reply.Goals as goal

pub returns-clause-err : goal.returns-clause-err
returns-clause-err c =
    OnErr-each c.drained_text.result
    (DrainsSome-drained c.args.journal.now.core.desc (entries_of c.args.journal.now) _
    c.in_ok-drain.ensures.ok)
