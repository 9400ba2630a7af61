-- The rows of the first so many pieces are those of the first so many deliveries.
use Rattle.std.proofs.Common.{◌∙◌, ap, length}
use Rattle.std.specs.Prelude.{min}
use Rattle.raw_load.specs.Pieces.{pieces_at}
use Rattle.raw_load.proofs.BookLemmas.{kept_in-pieces, rows_of-take}
use Rattle.raw_load.proofs.book.RawBook.push_parts.Goals as goal

pub returns : goal.returns
returns c =
    let pieces = pieces_at c.self.inside.loads.parts.entries c.args.key in
    record {
      ok = rw (
        ← c.self.view_is,
        kept_in-pieces c.self.inside.loads c.self.inside.feeds.items c.args.key
            c.self.invariant.ordered,
        rows_of-take c.self.inside.loads.deliveries.items pieces c.args.version c.min-count.result
            (c.min-count.ensures
            ∙ ap (λ pieces. min (length pieces) c.args.version) c.pieces_at-pieces.ensures.exact),
        ← c.pieces_at-pieces.ensures.exact,
        ← c.deref.ensures.value,
      )
          c.lend_pieces.ensures.ok;
      err = c.lend_pieces.ensures.err;
    }
