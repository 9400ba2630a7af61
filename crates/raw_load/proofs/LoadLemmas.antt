-- A book with one delivery more: first there is room for it, then it is loaded.
use Rattle.std.proofs.Common.{◌≡◌, ◌∙◌, ℕ, zero, suc, List, [], ◌∷◌, ◌++◌, length, refl, sym, ap}
use Rattle.std.proofs.Common.{map, arith, inl, inr, length-append, subst}
use Rattle.std.specs.Prelude.{true, false, ◌⊎◌, Option, Some, None, All, Vec, max}
use Rattle.std.specs.Prelude.{slice_get, if◌then◌else◌}
use Rattle.std.specs.BTreeMap.{is_at}
use Rattle.std.specs.declared.alloc.Global.{Global}
use Rattle.std.proofs.lemmas.Bool.{cases_Bool, eq-eqb}
use Rattle.std.proofs.lemmas.List.{length-map, map-append}
use Rattle.std.proofs.lemmas.List.Elements.{All-append, All-nil, All-push, All-weaker}
use Rattle.std.proofs.lemmas.Option.{slice_get_past}
use Rattle.depot_cell.specs.declared.cell.Cell.{Cell}
use Rattle.desc_types.specs.declared.table.Feed.{Feed}
use Rattle.desc_types.specs.declared.table.Key.{Key}
use Rattle.desc_types.specs.Deliveries.{DeliveryOf}
use Rattle.desc_types.specs.Descriptions.{DescOf}
use Rattle.view_meaning.specs.declared.aside.Aside.{Aside}
use Rattle.view_meaning.specs.SetAside.{asides, kept_rows}
use Rattle.view_meaning.specs.Contents.{loads_kept}
use Rattle.view_meaning.proofs.ClosingStepLemmas.{asides-push}
use Rattle.view_meaning.proofs.GreatestLemmas.{closes_of, greatest_of-push, is_of}
use Rattle.view_meaning.proofs.GrowLemmas.{loads_kept-append}
use Rattle.raw_load.specs.declared.feed.FeedBook.{FeedBook}
use Rattle.raw_load.specs.declared.loads.Loads.{Loads}
use Rattle.raw_load.specs.declared.piece.Number.{Number}
use Rattle.raw_load.specs.declared.piece.Piece.{Piece}
use Rattle.raw_load.specs.declared.piece.Stretch.{Stretch}
use Rattle.raw_load.specs.Stretches.{IsStretchOf, Stretches, TellsPart, found_at, stretches_in}
use Rattle.raw_load.specs.Pieces.{IsPieceOf, piece_of, piece_rows, pieces_at}
use Rattle.raw_load.specs.Books.{LoadOf, TellsRaw, asides_in, closes_in, deliveries_of}
use Rattle.raw_load.specs.Books.{asides_if, closes_if, greatest_closes, is_numbered, kept_in}
use Rattle.raw_load.specs.Books.{place_in}
use Rattle.raw_load.specs.Feeds.{GainsFeed, empty_feed, empty_feeds, feed_of}
use Rattle.raw_load.specs.Loads.{Accepts, AreLoads, AreNumbered, IsAsBefore, IsReady, KeepsLoads}
use Rattle.raw_load.specs.Loads.{Numbers, book_of, index_at, loads_of, number_cmp, number_of}
use Rattle.raw_load.specs.Loads.{place_found}
use Rattle.raw_load.specs.Preparing.{PreparedOf}
use Rattle.raw_load.specs.Ready.{HasRoom, IsPrepared, state_of}
use Rattle.raw_load.proofs.CompareLemmas.{is_at-number_cmp, is_at-number_cmp-same}
use Rattle.raw_load.proofs.BookLemmas.{IsPieceOf-push, deliveries-loads_of, kept_in-pieces}
use Rattle.raw_load.proofs.BookLemmas.{length-loads_of, loads_of-push, piece_rows-push}
use Rattle.raw_load.proofs.BookLemmas.{rows_at-last}

-- a load more is found last
place_in-push : (loads : List LoadOf) (load : LoadOf) (feed number : ℕ)
    → place_in loads feed number ≡ None → is_numbered feed number load ≡ true
    → place_in (loads ++ load ∷ []) feed number ≡ Some load.place
place_in-push [] load feed number none has = rw has refl
place_in-push (first ∷ loads) load feed number none has =
    at_first (cases_Bool (is_numbered feed number first)) none
    (λ later. place_in-push loads load feed number later has)
  where
    at_first : (is_numbered feed number first ≡ true) ⊎ (is_numbered feed number first ≡ false)
        → place_in (first ∷ loads) feed number ≡ None
        → (place_in loads feed number ≡ None
        → place_in (loads ++ load ∷ []) feed number ≡ Some load.place)
        → place_in (first ∷ loads ++ load ∷ []) feed number ≡ Some load.place
    at_first (inl has) none later = absurd cc
    at_first (inr lacks) none later = rw lacks (later (rw lacks at none))

-- a load more is not found for another number
place_in-same : (loads : List LoadOf) (load : LoadOf) (feed number : ℕ)
    → is_numbered feed number load ≡ false
    → place_in (loads ++ load ∷ []) feed number ≡ place_in loads feed number
place_in-same [] load feed number lacks = rw lacks refl
place_in-same (first ∷ loads) load feed number lacks =
    ap (λ later. if is_numbered feed number first then Some first.place else later)
    (place_in-same loads load feed number lacks)

-- so whatever index is kept for that number leads to the same place
place_found-same : (loads : List LoadOf) (load : LoadOf) (number : Number) (found : Option ℕ)
    → is_numbered number.feed number.number load ≡ false
    → place_found (loads ++ load ∷ []) number found ≡ place_found loads number found
place_found-same loads load number None lacks = refl
place_found-same [] load number (Some zero) lacks = rw lacks refl
place_found-same [] load number (Some (suc index)) lacks = refl
place_found-same (first ∷ loads) load number (Some zero) lacks = refl
place_found-same (first ∷ loads) load number (Some (suc index)) lacks =
    place_found-same loads load number (Some index) lacks

-- the index after the last one leads to the load that is put there
place_found-last : (loads : List LoadOf) (load : LoadOf) (number : Number)
    → is_numbered number.feed number.number load ≡ true
    → place_found (loads ++ load ∷ []) number (Some (length loads)) ≡ Some load.place
place_found-last [] load number has = rw has refl
place_found-last (first ∷ loads) load number has = place_found-last loads load number has

-- the index after the last one leads to no load yet
place_found-none : (loads : List LoadOf) (number : Number)
    → place_found loads number (Some (length loads)) ≡ None
place_found-none loads number = rw (slice_get_past loads (length loads) (omega arith)) refl

-- what is so of a number, and of each other one, is so of each
each_number : (P : Number → Type 0) (own : Number) → P own
    → ((other : Number) → is_at (number_cmp own) other ≡ false → P other)
    → (other : Number) → P other
each_number P own holds others other = elim (cases_Bool (is_at (number_cmp own) other)) [
  | inl same ↦ subst P (is_at-number_cmp-same own other same) holds
  | inr apart ↦ others other apart
]

-- a number is at itself
pub is_at-number_cmp-itself : (number : Number) → is_at (number_cmp number) number ≡ true
is_at-number_cmp-itself number =
    is_at-number_cmp number number
    ∙ rw (eq-eqb number.feed number.feed refl, eq-eqb number.number number.number refl) refl

-- a number that is new may lead to the index after the last one
AreNumbered-ready : (loads : List LoadOf) (own : Number) (old new : Numbers)
    → AreNumbered loads old → place_in loads own.feed own.number ≡ None
    → ((other : Number) → index_at new other
    ≡ (if is_at (number_cmp own) other then Some (length loads) else index_at old other))
    → AreNumbered loads new
AreNumbered-ready loads own old new numbered fresh updates =
    each_number
    (λ other. place_found loads other (index_at new other) ≡ place_in loads other.feed other.number)
    own
    (ap (place_found loads own) (updates own)
    ∙ rw (is_at-number_cmp-itself own) (place_found-none loads own ∙ sym fresh))
    (λ other apart.
    ap (place_found loads other) (updates other) ∙ rw apart (numbered other))

-- a number that leads there is new
place_in-ready : (loads : List LoadOf) (own : Number) (numbers : Numbers)
    → AreNumbered loads numbers → index_at numbers own ≡ Some (length loads)
    → place_in loads own.feed own.number ≡ None
place_in-ready loads own numbers numbered leads =
    sym (numbered own) ∙ ap (place_found loads own) leads ∙ place_found-none loads own

-- with its load, the number leads to its place
place_found-push : (loads : List LoadOf) (load : LoadOf) (numbers : Numbers)
    → AreNumbered loads numbers
    → index_at numbers (number_of load.delivery) ≡ Some (length loads)
    → place_found (loads ++ load ∷ []) (number_of load.delivery)
    (index_at numbers (number_of load.delivery))
    ≡ place_in (loads ++ load ∷ []) load.delivery.feed load.delivery.number
place_found-push loads load numbers numbered leads =
    let own = number_of load.delivery in
    let has = sym (is_at-number_cmp own own) ∙ is_at-number_cmp-itself own in
    ap (place_found (loads ++ load ∷ []) own) leads
    ∙ place_found-last loads load own has
    ∙ sym (place_in-push loads load own.feed own.number
    (place_in-ready loads own numbers numbered leads) has)

-- and so each number does
AreNumbered-push : (loads : List LoadOf) (load : LoadOf) (numbers : Numbers)
    → AreNumbered loads numbers
    → index_at numbers (number_of load.delivery) ≡ Some (length loads)
    → AreNumbered (loads ++ load ∷ []) numbers
AreNumbered-push loads load numbers numbered leads =
    each_number
    (λ other. place_found (loads ++ load ∷ []) other (index_at numbers other)
    ≡ place_in (loads ++ load ∷ []) other.feed other.number)
    (number_of load.delivery)
    (place_found-push loads load numbers numbered leads)
    (λ other apart.
    let lacks = sym (is_at-number_cmp (number_of load.delivery) other) ∙ apart in
    place_found-same loads load other (index_at numbers other) lacks ∙ numbered other
    ∙ sym (place_in-same loads load other.feed other.number lacks))

-- loads that have what they had make the same book
pub book_of-kept : (old new : Loads) (had has : List FeedBook) → KeepsLoads old new
    → map feed_of has ≡ map feed_of had → book_of new has ≡ book_of old had
book_of-kept old new had has kept feeds =
    rw (kept.places, kept.deliveries, feeds)
    (ap (λ (rows : List (Key × List (List (List Cell)))). record {
      loads = loads_of old.places.items old.deliveries.items;
      kept = rows;
      feeds = map feed_of had;
    })
    (kept.pieces.rows old.deliveries.items))

-- if each number leads to where it led, they are loads as before
pub AreLoads-before : (old new : Loads) → AreLoads old → IsAsBefore old new → AreLoads new
AreLoads-before old new are before =
    let kept = before.kept in
    record {
      paired = rw (kept.places, kept.deliveries) are.paired;
      numbered = rw (kept.places, kept.deliveries, before.numbers) are.numbered;
      within = λ key. rw (kept.pieces.pieces key, kept.deliveries) (are.within key);
      ordered = kept.pieces.ordered are.ordered;
    }

-- and if there is room for a delivery whose number is new
pub AreLoads-ready : (number : Number) (found : Stretches) (old new : Loads) → AreLoads old
    → place_in (loads_of old.places.items old.deliveries.items) number.feed number.number ≡ None
    → IsReady number found old new → AreLoads new
AreLoads-ready number found old new are fresh ready =
    let kept = ready.kept in
    record {
      paired = rw (kept.places, kept.deliveries) are.paired;
      numbered = rw (kept.places, kept.deliveries)
          (AreNumbered-ready (loads_of old.places.items old.deliveries.items) number
          old.numbers.entries new.numbers.entries are.numbered fresh
          (rw (length-loads_of old.places.items old.deliveries.items are.paired) ready.numbers));
      within = λ key. rw (kept.pieces.pieces key, kept.deliveries) (are.within key);
      ordered = kept.pieces.ordered are.ordered;
    }

-- the pieces of a delivery that is loaded are of one that is there
piece_of-within : (deliveries : List DeliveryOf) (delivery : DeliveryOf)
    (found : Option (Vec Stretch Global))
    → All (IsStretchOf delivery.rows) (stretches_in found)
    → All (IsPieceOf (deliveries ++ delivery ∷ [])) (piece_of (length deliveries) found)
piece_of-within deliveries delivery None within = All-nil (IsPieceOf _)
piece_of-within deliveries delivery (Some found) within =
    All-push (IsPieceOf (deliveries ++ delivery ∷ [])) []
    (record { delivery = length deliveries; stretches = found })
    (All-nil (IsPieceOf (deliveries ++ delivery ∷ [])))
    (record {
      there = omega (arith, length-append deliveries (delivery ∷ []));
      within = rw (rows_at-last deliveries delivery) within;
    })

-- they have the rows that it keeps, if it keeps one
piece_of-kept : (desc : DescOf) (deliveries : List DeliveryOf) (delivery : DeliveryOf)
    (key : Key) (found : Option (Vec Stretch Global))
    → TellsPart desc delivery.rows (kept_rows desc deliveries delivery) key found
    → map (piece_rows (deliveries ++ delivery ∷ [])) (piece_of (length deliveries) found)
    ≡ loads_kept desc key deliveries (delivery ∷ [])
piece_of-kept desc deliveries delivery key None tells = rw (← tells.some) refl
piece_of-kept desc deliveries delivery key (Some found) tells =
    rw (← tells.some, rows_at-last deliveries delivery, tells.exact) refl

-- a partition that has what some deliveries kept has what they and one more kept, with its piece
loads_kept-push : (desc : DescOf) (deliveries : List DeliveryOf) (delivery : DeliveryOf)
    (key : Key) (pieces : List Piece) (found : Option (Vec Stretch Global))
    → All (IsPieceOf deliveries) pieces
    → TellsPart desc delivery.rows (kept_rows desc deliveries delivery) key found
    → map (piece_rows deliveries) pieces ≡ loads_kept desc key [] deliveries
    → map (piece_rows (deliveries ++ delivery ∷ []))
    (pieces ++ piece_of (length deliveries) found)
    ≡ loads_kept desc key [] (deliveries ++ delivery ∷ [])
loads_kept-push desc deliveries delivery key pieces found within tells told =
    let rows = piece_rows (deliveries ++ delivery ∷ []) in
    map-append rows pieces (piece_of (length deliveries) found)
    ∙ ap (λ kept. kept ++ map rows (piece_of (length deliveries) found))
    (piece_rows-push deliveries delivery pieces within ∙ told)
    ∙ ap (λ kept. loads_kept desc key [] deliveries ++ kept)
    (piece_of-kept desc deliveries delivery key found tells)
    ∙ sym (loads_kept-append desc key [] deliveries (delivery ∷ []))

-- a prepared delivery was loaded: the loads before and after, and what is kept of the feeds
pub record HasLoaded (prepared : PreparedOf) (place : ℕ) (old new : Loads)
    (had has : List FeedBook) : Type 0 where
  pub are : AreLoads old
  pub room : HasRoom (state_of old had) prepared
  pub accepts : Accepts prepared.delivery place prepared.found old new
  pub gains : GainsFeed prepared.delivery.feed prepared.delivery.closes prepared.asides
      (map feed_of had) (map feed_of has)

-- there is one load more
pub loads_of-loaded : (prepared : PreparedOf) (place : ℕ) (old new : Loads)
    → AreLoads old → Accepts prepared.delivery place prepared.found old new
    → loads_of new.places.items new.deliveries.items
    ≡ loads_of old.places.items old.deliveries.items
    ++ record { place = place; delivery = prepared.delivery } ∷ []
loads_of-loaded prepared place old new are accepts =
    rw (accepts.places, accepts.deliveries)
    (loads_of-push old.places.items old.deliveries.items place prepared.delivery are.paired)

-- each piece is of a delivery that is there
IsPieceOf-loaded : (prepared : PreparedOf) (place : ℕ) (old new : Loads) (had has : List FeedBook)
    → HasLoaded prepared place old new had has → (key : Key)
    → All (IsPieceOf new.deliveries.items) (pieces_at new.parts.entries key)
IsPieceOf-loaded prepared place old new had has loaded key =
    let deliveries = old.deliveries.items in
    let Is = IsPieceOf (deliveries ++ prepared.delivery ∷ []) in
    rw (loaded.accepts.deliveries, loaded.accepts.pieces.exact key)
    (All-append Is (pieces_at old.parts.entries key)
    (piece_of (length deliveries) (found_at prepared.found key))
    (All-weaker (IsPieceOf deliveries) Is
    (λ piece is. IsPieceOf-push deliveries prepared.delivery piece is)
    (pieces_at old.parts.entries key) (loaded.are.within key))
    (piece_of-within deliveries prepared.delivery (found_at prepared.found key)
    (loaded.room.within key)))

-- each number leads to its place
AreNumbered-loaded : (prepared : PreparedOf) (place : ℕ) (old new : Loads)
    (had has : List FeedBook) → HasLoaded prepared place old new had has
    → AreNumbered (loads_of new.places.items new.deliveries.items) new.numbers.entries
AreNumbered-loaded prepared place old new had has loaded =
    rw (
      loads_of-loaded prepared place old new loaded.are loaded.accepts,
      loaded.accepts.numbers,
    )
    (AreNumbered-push (loads_of old.places.items old.deliveries.items)
    (record { place = place; delivery = prepared.delivery }) old.numbers.entries
    loaded.are.numbered loaded.room.number)

-- the loads are ones still
pub AreLoads-loaded : (prepared : PreparedOf) (place : ℕ) (old new : Loads)
    (had has : List FeedBook) → HasLoaded prepared place old new had has → AreLoads new
AreLoads-loaded prepared place old new had has loaded = record {
  paired = rw (loaded.accepts.places, loaded.accepts.deliveries)
      (omega (
        arith,
        loaded.are.paired,
        length-append old.places.items (place ∷ []),
        length-append old.deliveries.items (prepared.delivery ∷ []),
      ));
  numbered = AreNumbered-loaded prepared place old new had has loaded;
  within = IsPieceOf-loaded prepared place old new had has loaded;
  ordered = loaded.accepts.pieces.ordered loaded.are.ordered;
}

-- the book has one delivery more
deliveries_of-loaded : (prepared : PreparedOf) (place : ℕ) (old new : Loads)
    (had has : List FeedBook) → AreLoads old
    → Accepts prepared.delivery place prepared.found old new
    → deliveries_of (book_of new has)
    ≡ deliveries_of (book_of old had) ++ prepared.delivery ∷ []
deliveries_of-loaded prepared place old new had has are accepts =
    ap (map (λ (load : LoadOf). load.delivery))
    (loads_of-loaded prepared place old new are accepts)
    ∙ map-append (λ (load : LoadOf). load.delivery)
    (loads_of old.places.items old.deliveries.items)
    (record { place = place; delivery = prepared.delivery } ∷ [])

-- each partition has what its deliveries kept
loads_kept-loaded : (desc : DescOf) (prepared : PreparedOf) (place : ℕ) (old new : Loads)
    (had has : List FeedBook) (key : Key) → HasLoaded prepared place old new had has
    → IsPrepared desc (state_of old had) prepared
    → kept_in (book_of old had) key ≡ loads_kept desc key [] (deliveries_of (book_of old had))
    → kept_in (book_of new has) key ≡ loads_kept desc key [] (deliveries_of (book_of new has))
loads_kept-loaded desc prepared place old new had has key loaded is told =
    let are = AreLoads-loaded prepared place old new had has loaded in
    let before = deliveries-loads_of old.places.items old.deliveries.items loaded.are.paired in
    kept_in-pieces new has key are.ordered
    ∙ rw (loaded.accepts.pieces.exact key, loaded.accepts.deliveries)
    (loads_kept-push desc old.deliveries.items prepared.delivery key
    (pieces_at old.parts.entries key) (found_at prepared.found key) (loaded.are.within key)
    (rw before at is.lying key)
    (sym (kept_in-pieces old had key loaded.are.ordered) ∙ told
    ∙ ap (loads_kept desc key []) before))
    ∙ ap (loads_kept desc key []) (sym (deliveries_of-loaded prepared place old new had has
    loaded.are loaded.accepts
    ∙ ap (λ (all : List DeliveryOf). all ++ prepared.delivery ∷ []) before))

-- the book has of each feed up to which tick it is closed
closes_in-loaded : (desc : DescOf) (prepared : PreparedOf) (place : ℕ) (old new : Loads)
    (had has : List FeedBook) (feed : ℕ) → HasLoaded prepared place old new had has
    → closes_in (book_of old had) feed ≡ greatest_closes (deliveries_of (book_of old had)) feed
    → closes_in (book_of new has) feed ≡ greatest_closes (deliveries_of (book_of new has)) feed
closes_in-loaded desc prepared place old new had has feed loaded told =
    let delivery = prepared.delivery in
    loaded.gains.closed feed
    ∙ ap (λ (closes : ℕ). if is_of feed delivery then max closes delivery.closes else closes) told
    ∙ sym (greatest_of-push (is_of feed) closes_of (deliveries_of (book_of old had)) delivery)
    ∙ ap (λ (all : List DeliveryOf). greatest_closes all feed) (sym (deliveries_of-loaded prepared
    place old new had has loaded.are loaded.accepts))

-- and which of its rows were set aside
asides_in-loaded : (desc : DescOf) (prepared : PreparedOf) (place : ℕ) (old new : Loads)
    (had has : List FeedBook) (feed : ℕ) → HasLoaded prepared place old new had has
    → IsPrepared desc (state_of old had) prepared
    → asides_in (book_of old had) feed ≡ asides desc (deliveries_of (book_of old had)) feed
    → asides_in (book_of new has) feed ≡ asides desc (deliveries_of (book_of new has)) feed
asides_in-loaded desc prepared place old new had has feed loaded is told =
    let before = deliveries_of (book_of old had) in
    let delivery = prepared.delivery in
    loaded.gains.gained feed
    ∙ ap (λ (all : List Aside). all ++ (if is_of feed delivery then prepared.asides else [])) told
    ∙ ap (λ (own : List Aside). asides desc before feed
    ++ (if is_of feed delivery then own else [])) is.tells.asides
    ∙ sym (asides-push desc before delivery feed)
    ∙ ap (λ (all : List DeliveryOf). asides desc all feed) (sym (deliveries_of-loaded prepared
    place old new had has loaded.are loaded.accepts))

-- a book that told what its deliveries kept and set aside does so with one more
pub TellsRaw-loaded : (desc : DescOf) (prepared : PreparedOf) (place : ℕ) (old new : Loads)
    (had has : List FeedBook) → HasLoaded prepared place old new had has
    → TellsRaw desc (book_of old had) → IsPrepared desc (state_of old had) prepared
    → TellsRaw desc (book_of new has)
TellsRaw-loaded desc prepared place old new had has loaded tells is = record {
  kept = λ key raw.
      loads_kept-loaded desc prepared place old new had has key loaded is (tells.kept key raw);
  feeds = record {
    all = loaded.gains.all ∙ tells.feeds.all;
    closes = λ feed there.
        closes_in-loaded desc prepared place old new had has feed loaded
        (tells.feeds.closes feed there);
    asides = λ feed there.
        asides_in-loaded desc prepared place old new had has feed loaded is
        (tells.feeds.asides feed there);
  };
}

-- before the first delivery each feed is open
closes_if-empty : (feeds : List Feed) (feed : ℕ)
    → closes_if (slice_get (empty_feeds feeds) feed) ≡ 0
closes_if-empty [] feed = refl
closes_if-empty (first ∷ feeds) zero = refl
closes_if-empty (first ∷ feeds) (suc feed) = closes_if-empty feeds feed

-- and no row is set aside
asides_if-empty : (feeds : List Feed) (feed : ℕ)
    → asides_if (slice_get (empty_feeds feeds) feed) ≡ []
asides_if-empty [] feed = refl
asides_if-empty (first ∷ feeds) zero = refl
asides_if-empty (first ∷ feeds) (suc feed) = asides_if-empty feeds feed

-- a book of nothing tells what no deliveries kept and set aside
pub TellsRaw-empty : (desc : DescOf) (loads : Loads) (feeds : List FeedBook)
    → loads.places.items ≡ [] → loads.parts.entries ≡ []
    → map feed_of feeds ≡ empty_feeds desc.feeds → TellsRaw desc (book_of loads feeds)
TellsRaw-empty desc loads feeds places parts empty = record {
  kept = λ key raw. rw (places, parts) refl;
  feeds = record {
    all = rw empty (length-map desc.feeds (λ _. empty_feed));
    closes = λ feed there. rw (places, empty) (closes_if-empty desc.feeds feed);
    asides = λ feed there. rw (places, empty) (asides_if-empty desc.feeds feed);
  };
}
