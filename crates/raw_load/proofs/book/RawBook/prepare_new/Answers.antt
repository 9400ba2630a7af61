-- What preparing a delivery leaves: the book as it was, with room.
use Rattle.std.proofs.Common.{ap}
use Rattle.desc_types.specs.Deliveries.{DeliveryOf}
use Rattle.raw_load.specs.Loads.{book_of}
use Rattle.raw_load.proofs.LoadLemmas.{AreLoads-before, AreLoads-ready}
use Rattle.raw_load.proofs.PreparingLemmas.{length-asides-le}
use Rattle.raw_load.proofs.ReadyLemmas.{IsPrepared-ready}
use Rattle.raw_load.proofs.book.RawBook.prepare_new.Goals as goal

pub invariant_of-self-in_err-make_room : goal.invariant_of-self-in_err-make_room
invariant_of-self-in_err-make_room c =
    AreLoads-before c.self.inside.loads c.make_room.new.self c.self.invariant
    c.in_err-make_room.ensures.err

pub prepared_of-requires : goal.prepared_of-requires
prepared_of-requires c =
    let told = rw (← c.self.view_is) at c.requires.tells in
    record {
      few = length-asides-le c.args.served.now.desc
          (book_of c.self.inside.loads c.self.inside.feeds.items) c.args.delivery
          c.in_ok-sorted.sorted
          (record {
            accepted = c.args.served.now.is_accepted;
            tells = told.feeds;
            sorts = rw c.deref.ensures.value at c.in_ok-sorted.ensures.exact;
          });
    }

pub invariant_of-self-2 : goal.invariant_of-self-2
invariant_of-self-2 c =
    AreLoads-ready c.number_of.result c.in_ok-sorted.sorted.found.entries c.self.inside.loads
    c.make_room.new.self c.self.invariant
    (rw (c.number_of.ensures.exact) (rw (← c.self.view_is) at c.requires.new))
    c.in_ok-make_room.ensures.ok

pub returns-clause-ok : goal.returns-clause-ok
returns-clause-ok c =
    let told = rw (← c.self.view_is) at c.requires.tells in
    rw (c.prepared_of.ensures.exact, c.in_ok-touched.ensures.exact)
    (IsPrepared-ready c.args.served.now.desc c.args.delivery c.in_ok-sorted.sorted
    c.self.inside.loads c.make_room.new.self c.self.inside.feeds.items
    c.make_aside_room.new.feeds.items
    (record {
      are = c.self.invariant;
      fresh = rw (← c.self.view_is) at c.requires.new;
      sorts = record {
        accepted = c.args.served.now.is_accepted;
        tells = told.feeds;
        sorts = rw c.deref.ensures.value at c.in_ok-sorted.ensures.exact;
      };
      in_order = rw c.in_ok-touched.ensures.exact at c.in_ok-touched.ensures.in_order;
      ready = rw c.number_of.ensures.exact at c.in_ok-make_room.ensures.ok;
      feeds = c.make_aside_room.ensures.kept;
      aside_room = rw (
        c.len.ensures,
        ap (λ (delivery : DeliveryOf). delivery.feed) c.delivery.view_is,
        c.in_ok-sorted.sorted.asides.ok.0,
      ) at c.in_ok-make_aside_room.ensures.ok;
    }))
