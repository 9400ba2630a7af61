-- A partition without a number is put in if it is not there.
use Rattle.std.proofs.Common.{None, sym}
use Rattle.depot_marks.proofs.MissedLemmas.{HasPart-update, is_missed_to-place}
use Rattle.depot_marks.proofs.missed.take_place.Goals as goal

pub returns-in-Ok-clause-places : goal.returns-in-Ok-clause-places
returns-in-Ok-clause-places c =
    HasPart-update c.args.key None c.args.parts.now.entries c.insert.new.self.entries
    c.in-Ok.ensures.updates.0

pub returns-in-Ok-clause-kept : goal.returns-in-Ok-clause-kept
returns-in-Ok-clause-kept c =
    is_missed_to-place c.args.key c.args.parts.now.entries c.insert.new.self.entries
    c.in-Ok.ensures.updates.0 (sym c.if-contains_key.ensures)
