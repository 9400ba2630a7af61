-- Room changes nothing that is told.
use Rattle.depot_marks.proofs.BookLemmas.{TellsMarks-same}
use Rattle.depot_marks.proofs.book.MarkBook.reserve.Goals as goal

pub returns-clause-kept : goal.returns-clause-kept
returns-clause-kept c =
    rw (← c.self.view_is)
    (TellsMarks-same c.from-feed.result (record { feeds = c.self.inside.feeds.items })
    (record { feeds = c.reserve_in.new.feeds.items }) c.reserve_in.ensures.kept)
