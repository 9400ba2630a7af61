-- The place is that of the load that the number leads to.
use Rattle.std.proofs.Common.{◌∙◌, List, ap}
use Rattle.raw_load.specs.declared.piece.Number.{Number}
use Rattle.raw_load.specs.Books.{LoadOf}
use Rattle.raw_load.specs.Loads.{loads_of, place_found}
use Rattle.raw_load.proofs.book.RawBook.place_of.Goals as goal

pub returns-in-Some : goal.returns-in-Some
returns-in-Some c =
    let loads : List LoadOf =
    loads_of c.self.inside.loads.places.items c.self.inside.loads.deliveries.items in
    let number : Number = record { feed = c.args.feed; number = c.args.number } in
    record {
      exact = rw (
        ← c.self.view_is,
        c.place_at.ensures.exact,
        c.deref.ensures.value,
        c.deref-in-Some.ensures.value,
      )
          (ap (place_found loads number) c.in-Some.ensures.value
          ∙ c.self.invariant.numbered number);
    }

pub returns-in-None : goal.returns-in-None
returns-in-None c =
    let loads : List LoadOf =
    loads_of c.self.inside.loads.places.items c.self.inside.loads.deliveries.items in
    let number : Number = record { feed = c.args.feed; number = c.args.number } in
    record {
      exact = rw (← c.self.view_is)
          (ap (place_found loads number) c.in-None.ensures.value
          ∙ c.self.invariant.numbered number);
    }
