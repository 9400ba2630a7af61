-- The places that were made first stay.
use Rattle.std.proofs.lemmas.List.Elements.{All-weaker}
use Rattle.std.proofs.lemmas.Result.{on_ok_weaker}
use Rattle.stale_test.specs.Places.{HasPlace}
use Rattle.stale_test.proofs.kept.Kept.make_room.Goals as goal

pub returns-clause-ok : goal.returns-clause-ok
returns-clause-ok c =
    on_ok_weaker c.make_places-3.result
    (λ made. record {
      changed = c.in_ok-make_places.ensures.ok;
      readers = All-weaker (HasPlace c.make_places-2.new.map.entries)
          (HasPlace c.make_places-3.new.map.entries) c.make_places-3.ensures.kept.places
          c.args.ready.now.readers.items
          (rw c.deref.ensures.value at c.in_ok-make_places-2.ensures.ok);
      above = rw c.deref-2.ensures.value at made;
    })
    c.make_places-3.ensures.ok
