-- The entry that the body states was added.
use Rattle.std.proofs.Common.{◌∙◌, sym}
use Rattle.depot_recovery.proofs.ReplayLemmas.{ReadsMore-restored}
use Rattle.depot_recovery.proofs.replay.Replay.read_next.Goals as goal

pub returns-clause-ok : goal.returns-clause-ok
returns-clause-ok g c =
    rw (← c.self.view_is) (ReadsMore-restored c.args.bytes.now c.in-Ok.body c.in_ok-entry.entry _
    c.restore.new.self c.note.new.self c.in-Ok.ensures.ok.0 c.in-Ok.ensures.ok.1
    c.in_ok-entry.ensures.stated (sym c.may_follow.ensures.exact ∙ c.if-not-may_follow.false)
    c.in_ok-note.ensures.ok c.in_ok-note.ensures.kept c.in_ok-restore.ensures.ok)
