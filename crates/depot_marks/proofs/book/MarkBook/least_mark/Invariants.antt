-- The mark is the least one of the partitions of the runs so far.
use Rattle.std.proofs.Common.{◌≡◌, List, map, take}
use Rattle.desc_types.specs.Deliveries.{DeliveryOf}
use Rattle.view_meaning.specs.Marks.{least}
use Rattle.view_meaning.specs.RawMarks.{raw_mark}
use Rattle.depot_marks.specs.MarkBooks.{TellsMarks}
use Rattle.depot_marks.specs.Runs.{keys_in}
use Rattle.depot_marks.proofs.book.MarkBook.least_mark.Given as goal

abbrev pub invariant-loop-run : goal.invariant-loop-run
invariant-loop-run l = (accepted : List DeliveryOf)
    → TellsMarks l.served.desc accepted l.self
    → l.least ≡ least (map (raw_mark l.served.desc accepted) (keys_in (take l.run-index l.runs)))
