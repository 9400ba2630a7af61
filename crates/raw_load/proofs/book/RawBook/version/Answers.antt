-- There is a piece for each delivery that kept a row.
use Rattle.std.proofs.Common.{◌∙◌, ap, length, sym}
use Rattle.std.proofs.lemmas.List.{length-map}
use Rattle.raw_load.proofs.BookLemmas.{kept_in-pieces}
use Rattle.raw_load.proofs.book.RawBook.version.Goals as goal

pub returns : goal.returns
returns c = record {
  exact = rw (
    ← c.self.view_is,
    kept_in-pieces c.self.inside.loads c.self.inside.feeds.items c.args.key
        c.self.invariant.ordered,
  )
      (ap (λ pieces. length pieces) c.pieces_at.ensures.exact ∙ sym (length-map _ _));
}
