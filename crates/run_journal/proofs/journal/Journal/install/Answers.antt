-- The partition is claimed, its rows are made, and it is installed.
use Rattle.std.proofs.Common.{refl}
use Rattle.run_journal.specs.KeptJournals.{JournalOf}
use Rattle.run_journal.proofs.ClaimedLemmas.{IsInstalledIn, IsInstalledIn-filled}
use Rattle.run_journal.proofs.journal.Journal.install.Goals as goal

-- the journal after the claim, and after the install
abbrev start : goal.After-drop-ticket-inside → JournalOf
start c = record { core = c.step_claim.new.self; contents = c.self.inside.contents }

abbrev end : goal.After-drop-ticket-inside → JournalOf
end c = record { core = c.step_install.new.self; contents = c.self-2.inside.contents }

-- what the calls did
did : (c : goal.After-drop-ticket-inside) → IsInstalledIn c.args.self.now (end c) c.args.key
did c = IsInstalledIn-filled c.args.self.now (start c) c.fill.new.self (end c) c.args.key
    c.in-Ok.ticket c.requires.kept c.requires.ready
    (rw (← c.self.view_is) c.in-Ok.ensures.ok) (rw (← c.self.view_is) c.in-Ok.ensures.ticket)
    (rw (← c.self.view_is) refl) c.in-Ok-fill.ensures.ok
    (rw (← c.ticket.view_is, ← c.self-2.view_is) c.step_install.ensures.step)
    (rw (← c.self-2.view_is) refl)

pub returns-in-Ok-fill-clause-ok : goal.returns-in-Ok-fill-clause-ok
returns-in-Ok-fill-clause-ok c = (did c).entries

pub returns-in-Ok-fill-clause-left : goal.returns-in-Ok-fill-clause-left
returns-in-Ok-fill-clause-left c = (did c).settles

pub returns-in-Ok-fill-clause-reclaimed : goal.returns-in-Ok-fill-clause-reclaimed
returns-in-Ok-fill-clause-reclaimed c = (did c).reclaimed

pub returns-in-Ok-fill-clause-kept : goal.returns-in-Ok-fill-clause-kept
returns-in-Ok-fill-clause-kept c = (did c).kept
