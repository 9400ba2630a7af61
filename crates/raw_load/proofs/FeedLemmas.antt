-- What is kept of the feeds, as one of them changes.
use Rattle.std.proofs.Common.{◌≡◌, ◌∙◌, ℕ, zero, suc, ◌<◌, ◌≢◌, List, [], ◌∷◌, ◌++◌, length, map}
use Rattle.std.proofs.Common.{set, get_or, refl, sym, ap, subst, inl, inr, append-nil, arith}
use Rattle.std.specs.Prelude.{false, Option, None, IsSomeAnd, Some, ◌==◌, max, option_map}
use Rattle.std.specs.Prelude.{slice_get, if◌then◌else◌}
use Rattle.std.proofs.lemmas.Bool.{cases_Bool, eq-eqb, eqb-false, eqb-true}
use Rattle.std.proofs.lemmas.List.{length-map, length-set, map-set}
use Rattle.std.proofs.lemmas.Option.{slice_get-get_or, slice_get-map, slice_get_within}
use Rattle.std.proofs.Math.Seq.{map-set_same}
use Rattle.view_meaning.specs.declared.aside.Aside.{Aside}
use Rattle.raw_load.specs.declared.feed.FeedBook.{FeedBook}
use Rattle.raw_load.specs.Books.{FeedBookOf, asides_if, closes_if}
use Rattle.raw_load.specs.Feeds.{GainsFeed, HasAsideRoom, HasAsideRoomAt, feed_of, gained_feed}

-- what is put at a place that is there is found there
pub slice_get-set : {X : Type 0} (xs : List X) (place : ℕ) (x : X) → place < length xs
    → slice_get (set xs place x) place ≡ Some x
slice_get-set [] place x within = absurd (omega (arith, within))
slice_get-set (y ∷ xs) zero x within = refl
slice_get-set (y ∷ xs) (suc place) x within = slice_get-set xs place x (omega (arith, within))

-- and at each other place what was there
pub slice_get-set-other : {X : Type 0} (xs : List X) (place other : ℕ) (x : X) → other ≢ place
    → slice_get (set xs place x) other ≡ slice_get xs other
slice_get-set-other [] place other x apart = refl
slice_get-set-other (y ∷ xs) zero zero x apart = absurd (apart refl)
slice_get-set-other (y ∷ xs) zero (suc other) x apart = refl
slice_get-set-other (y ∷ xs) (suc place) zero x apart = refl
slice_get-set-other (y ∷ xs) (suc place) (suc other) x apart =
    slice_get-set-other xs place other x (λ same. apart (ap suc same))

-- so what holds of it, and of what was there at each other place, holds of each place
slice_get-set-each : {X : Type 0} (P : ℕ → Option X → Type 0) (xs : List X) (place : ℕ) (x : X)
    → place < length xs → P place (Some x)
    → ((other : ℕ) → (place == other) ≡ false → P other (slice_get xs other))
    → (other : ℕ) → P other (slice_get (set xs place x) other)
slice_get-set-each P xs place x there own others other =
    elim (cases_Bool (place == other)) [
      | inl same ↦
          subst (λ other. P other (slice_get (set xs place x) other)) (eqb-true place other same)
          (rw (slice_get-set xs place x there) own)
      | inr apart ↦
          rw (slice_get-set-other xs place other x
          (λ same. eqb-false place other apart (sym same)))
          (others other apart)
    ]

-- the tick that a feed is closed up to, after one gained
closed-set : (feed closes : ℕ) (asides : List Aside) (feeds : List FeedBookOf) (old : FeedBookOf)
    → feed < length feeds → slice_get feeds feed ≡ Some old → (other : ℕ)
    → closes_if (slice_get (set feeds feed (gained_feed closes asides old)) other)
    ≡ (if feed == other then max (closes_if (slice_get feeds other)) closes
    else closes_if (slice_get feeds other))
closed-set feed closes asides feeds old there found =
    slice_get-set-each (λ other found. closes_if found
    ≡ (if feed == other then max (closes_if (slice_get feeds other)) closes
    else closes_if (slice_get feeds other)))
    feeds feed (gained_feed closes asides old) there
    (rw (eq-eqb feed feed refl, found) refl)
    (λ other apart. rw apart refl)

-- the rows that are set aside of a feed, after one gained
gained-set : (feed closes : ℕ) (asides : List Aside) (feeds : List FeedBookOf) (old : FeedBookOf)
    → feed < length feeds → slice_get feeds feed ≡ Some old → (other : ℕ)
    → asides_if (slice_get (set feeds feed (gained_feed closes asides old)) other)
    ≡ asides_if (slice_get feeds other) ++ (if feed == other then asides else [])
gained-set feed closes asides feeds old there found =
    slice_get-set-each (λ other found. asides_if found
    ≡ asides_if (slice_get feeds other) ++ (if feed == other then asides else []))
    feeds feed (gained_feed closes asides old) there
    (rw (eq-eqb feed feed refl, found) refl)
    (λ other apart. rw apart (sym (append-nil (asides_if (slice_get feeds other)))))

-- what is kept of a feed that is there is told
slice_get-feed_of : (feeds : List FeedBook) (feed : ℕ) (book : FeedBook) → feed < length feeds
    → book ≡ get_or feeds feed book → slice_get (map feed_of feeds) feed ≡ Some (feed_of book)
slice_get-feed_of feeds feed book there read =
    slice_get-map feed_of feeds feed
    ∙ ap (option_map feed_of)
    (slice_get-get_or feeds feed book there ∙ ap (λ (book : FeedBook). Some book) (sym read))

-- one feed gained, and each other one is as it was
pub GainsFeed-set : (feed closes : ℕ) (asides : List Aside) (feeds : List FeedBook)
    (old new : FeedBook) → feed < length feeds → old ≡ get_or feeds feed old
    → feed_of new ≡ gained_feed closes asides (feed_of old)
    → GainsFeed feed closes asides (map feed_of feeds) (map feed_of (set feeds feed new))
GainsFeed-set feed closes asides feeds old new there read gained =
    let within : feed < length (map feed_of feeds) = omega (arith, length-map feeds feed_of) in
    let found = slice_get-feed_of feeds feed old there read in
    rw (map-set feed_of feeds feed new, gained)
    (record {
      all = length-set (map feed_of feeds) feed (gained_feed closes asides (feed_of old));
      closed = closed-set feed closes asides (map feed_of feeds) (feed_of old) within found;
      gained = gained-set feed closes asides (map feed_of feeds) (feed_of old) within found;
    })

-- a feed that is there has the room that was made at it
pub HasAsideRoomAt-set : (feeds : List FeedBook) (feed count : ℕ) (book : FeedBook)
    → feed < length feeds → HasAsideRoom book count
    → HasAsideRoomAt (set feeds feed book) feed count
HasAsideRoomAt-set feeds feed count book there room = rw (slice_get-set feeds feed book there) room

-- room at a feed is at one that is there
pub HasAsideRoomAt-there : (feeds : List FeedBook) (feed count : ℕ)
    → HasAsideRoomAt feeds feed count → feed < length feeds
HasAsideRoomAt-there feeds feed count room = at (slice_get feeds feed) refl room
  where
    at : (found : Option FeedBook) → slice_get feeds feed ≡ found
        → IsSomeAnd found (λ book. HasAsideRoom book count) → feed < length feeds
    at None is room = absurd room
    at (Some book) is room = slice_get_within feeds feed book is

-- a feed that gets room tells what it told
pub feeds-room : (feeds : List FeedBook) (feed : ℕ) (old new : FeedBook)
    → old ≡ get_or feeds feed old → new.closes ≡ old.closes
    → new.asides.items ≡ old.asides.items
    → map feed_of (set feeds feed new) ≡ map feed_of feeds
feeds-room feeds feed old new read closes items =
    map-set_same feed_of feeds feed new old (rw (closes, items) (ap feed_of read))
