-- The partition of the row has the lesser number.
use Rattle.std.proofs.Common.{Some, refl, sym}
use Rattle.depot_marks.proofs.MissedLemmas.{HasPart-update, is_missed_to-note}
use Rattle.depot_marks.proofs.missed.note_one.Goals as goal

pub returns-clause-places : goal.returns-clause-places
returns-clause-places c =
    HasPart-update c.part_of_aside.result (Some c.lesser.result) c.args.parts.now.entries
    (c.get_mut.follows.lender (Some c.lesser.result)).entries
    ((c.get_mut.follows.holds (Some c.lesser.result)).3 (rw (← c.in-Some.ensures.value) refl)).0

pub returns-clause-exact : goal.returns-clause-exact
returns-clause-exact c =
    is_missed_to-note c.args.aside.now c.in-Some.least.now c.lesser.result
    c.args.parts.now.entries (c.get_mut.follows.lender (Some c.lesser.result)).entries
    (rw c.part_of_aside.ensures.exact at
    ((c.get_mut.follows.holds (Some c.lesser.result)).3 (rw (← c.in-Some.ensures.value) refl)).0)
    (sym (rw c.part_of_aside.ensures.exact at c.in-Some.ensures.value)) c.lesser.ensures.exact
