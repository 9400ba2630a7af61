-- The feed of the delivery takes it in.
use Rattle.depot_marks.specs.MarkBooks.{MarkBookOf}
use Rattle.depot_marks.proofs.BookLemmas.{TellsMarks-push}
use Rattle.depot_marks.proofs.book.MarkBook.note.Goals as goal

pub returns : goal.returns
returns c = record {
  exact = λ desc accepted tells _ _ named.
      let old : MarkBookOf = record { feeds = c.self.inside.feeds.items } in
      let new : MarkBookOf = record { feeds = c.note_in.new.feeds.items } in
      TellsMarks-push c.args.delivery.now c.args.asides.now old new
      (rw (← c.delivery.view_is) (rw c.from-feed.ensures at c.note_in.ensures.exact)) desc accepted
      (rw (← c.self.view_is) at tells) named;
}
