-- A delivery that was prepared: `IsPrepared-ready`.
use Rattle.std.proofs.Common.{◌≡◌, ◌∙◌, List, length, map, refl, sym, arith, subst}
use Rattle.std.specs.Prelude.{None, Some}
use Rattle.std.specs.List.Sorted.{IsStrictlySortedBy}
use Rattle.std.specs.Map.{keys_of}
use Rattle.desc_types.specs.Deliveries.{DeliveryOf}
use Rattle.desc_types.specs.Descriptions.{DescOf}
use Rattle.desc_types.specs.Keys.{key_cmp}
use Rattle.view_meaning.specs.SetAside.{kept_rows}
use Rattle.raw_load.specs.declared.feed.FeedBook.{FeedBook}
use Rattle.raw_load.specs.declared.loads.Loads.{Loads}
use Rattle.raw_load.specs.declared.sorting.Sorted.{Sorted}
use Rattle.raw_load.specs.Books.{RawBookOf, deliveries_of, place_in}
use Rattle.raw_load.specs.Feeds.{HasAsideRoomAt, feed_of}
use Rattle.raw_load.specs.Loads.{AreLoads, IsReady, book_of, index_at, loads_of, number_of}
use Rattle.raw_load.specs.Preparing.{PreparedOf, TellsOf, prepared_of}
use Rattle.raw_load.specs.Ready.{HasRoom, IsPrepared, state_of}
use Rattle.raw_load.specs.Stretches.{TellsRows}
use Rattle.raw_load.proofs.BookLemmas.{length-loads_of}
use Rattle.raw_load.proofs.LoadLemmas.{AreLoads-ready, book_of-kept, is_at-number_cmp-itself}
use Rattle.raw_load.proofs.PreparingLemmas.{IsSorted, TellsOf-sorted, TellsRows-sorted}
use Rattle.raw_load.proofs.RoomLemmas.{spare-asides, spare_pieces-room}

-- the rows of a delivery were sorted and room was made for it: the loads before and after, and what
-- is kept of the feeds
pub record HasMadeRoom (desc : DescOf) (delivery : DeliveryOf) (sorted : Sorted)
    (old new : Loads) (had has : List FeedBook) : Type 0 where
  pub are : AreLoads old
  pub fresh : place_in (loads_of old.places.items old.deliveries.items) delivery.feed
      delivery.number ≡ None
  pub sorts : IsSorted desc (book_of old had) delivery sorted
  pub in_order : IsStrictlySortedBy key_cmp (keys_of sorted.found.entries)
  pub ready : IsReady (number_of delivery) sorted.found.entries old new
  pub feeds : map feed_of has ≡ map feed_of had
  pub aside_room : HasAsideRoomAt has delivery.feed (length sorted.asides.items)

-- the delivery, as it was prepared
abbrev pub prepared_from : DeliveryOf → Sorted → PreparedOf
prepared_from delivery sorted = prepared_of delivery sorted (keys_of sorted.found.entries)

-- the loads are ones still
AreLoads-room : (desc : DescOf) (delivery : DeliveryOf) (sorted : Sorted) (old new : Loads)
    (had has : List FeedBook) → HasMadeRoom desc delivery sorted old new had has → AreLoads new
AreLoads-room desc delivery sorted old new had has made =
    AreLoads-ready (number_of delivery) sorted.found.entries old new made.are made.fresh made.ready

-- the delivery's number leads to the index at which it will stand
index_at-ready : (desc : DescOf) (delivery : DeliveryOf) (sorted : Sorted) (old new : Loads)
    (had has : List FeedBook) → HasMadeRoom desc delivery sorted old new had has
    → index_at new.numbers.entries (number_of delivery)
    ≡ Some (length (loads_of new.places.items new.deliveries.items))
index_at-ready desc delivery sorted old new had has made =
    let are = AreLoads-room desc delivery sorted old new had has made in
    made.ready.numbers (number_of delivery)
    ∙ rw (
      is_at-number_cmp-itself (number_of delivery),
      length-loads_of new.places.items new.deliveries.items are.paired,
      made.ready.kept.deliveries,
    ) refl

-- there is room for it
HasRoom-ready : (desc : DescOf) (delivery : DeliveryOf) (sorted : Sorted) (old new : Loads)
    (had has : List FeedBook) → HasMadeRoom desc delivery sorted old new had has
    → HasRoom (state_of new has) (prepared_from delivery sorted)
HasRoom-ready desc delivery sorted old new had has made = record {
  places = omega (arith, made.ready.room.places);
  deliveries = omega (arith, made.ready.room.deliveries);
  number = index_at-ready desc delivery sorted old new had has made;
  pieces = λ key found.
      spare_pieces-room new.parts.entries key (made.ready.room.pieces key found);
  asides = spare-asides has delivery.feed (length sorted.asides.items) made.aside_room;
  within = λ key.
      (TellsRows-sorted desc (book_of old had) delivery sorted made.sorts key).within;
}

-- it is prepared for the book as that is now
pub IsPrepared-ready : (desc : DescOf) (delivery : DeliveryOf) (sorted : Sorted) (old new : Loads)
    (had has : List FeedBook) → HasMadeRoom desc delivery sorted old new had has
    → IsPrepared desc (state_of new has) (prepared_from delivery sorted)
IsPrepared-ready desc delivery sorted old new had has made =
    let book = book_of old had in
    let same = sym (book_of-kept old new had has made.ready.kept made.feeds) in
    record {
      tells = subst (λ (book : RawBookOf).
          TellsOf desc (deliveries_of book) (prepared_from delivery sorted)) same
          (TellsOf-sorted desc book delivery sorted made.sorts made.in_order);
      lying = subst (λ (book : RawBookOf). TellsRows desc delivery.rows
          (kept_rows desc (deliveries_of book) delivery) sorted.found.entries) same
          (TellsRows-sorted desc book delivery sorted made.sorts);
      new = subst (λ (book : RawBookOf).
          place_in book.loads delivery.feed delivery.number ≡ None) same made.fresh;
      room = HasRoom-ready desc delivery sorted old new had has made;
    }
