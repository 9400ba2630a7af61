-- What is kept of the feeds, as they lie in a book, and how it grows.
use Rattle.std.specs.Prelude.{ℕ, ◌≡◌, ◌+◌, ◌≤◌, ◌++◌, ◌==◌, List, [], IsSomeAnd, length, map, max}
use Rattle.std.specs.Prelude.{slice_get, vec_capacity, vec_len, if◌then◌else◌}
use Rattle.desc_types.specs.declared.table.Feed.{Feed}
use Rattle.view_meaning.specs.declared.aside.Aside.{Aside}
use Rattle.raw_load.specs.declared.feed.FeedBook.{FeedBook}
use Rattle.raw_load.specs.Books.{FeedBookOf, asides_if, closes_if}

-- what is kept of a feed, as it is told
abbrev pub feed_of : FeedBook → FeedBookOf
feed_of feed = record { closes = feed.closes; asides = feed.asides.items }

-- what is kept of a feed before its first delivery
abbrev pub empty_feed : FeedBookOf
empty_feed = record { closes = 0; asides = [] }

-- so it is of each feed
abbrev pub empty_feeds : List Feed → List FeedBookOf
empty_feeds feeds = map (λ _. empty_feed) feeds

-- there is room for so many rows more that are set aside
abbrev pub HasAsideRoom : FeedBook → (count : ℕ) → Type 0
HasAsideRoom feed count = vec_len feed.asides + count ≤ vec_capacity feed.asides

-- so there is at a feed, which is there
abbrev pub HasAsideRoomAt : List FeedBook → (feed count : ℕ) → Type 0
HasAsideRoomAt feeds feed count =
    IsSomeAnd (slice_get feeds feed) (λ found. HasAsideRoom found count)

-- what is kept of a feed that is closed up to a tick besides, with rows more that are set aside
abbrev pub gained_feed : (closes : ℕ) → List Aside → FeedBookOf → FeedBookOf
gained_feed closes asides feed = record {
  closes = max feed.closes closes;
  asides = feed.asides ++ asides;
}

-- so it is of one feed, and each other one is as it was
pub record GainsFeed (feed closes : ℕ) (asides : List Aside) (old new : List FeedBookOf)
    : Type 0 where
  pub all : length new ≡ length old
  pub closed : (other : ℕ) → closes_if (slice_get new other)
      ≡ (if feed == other then max (closes_if (slice_get old other)) closes
      else closes_if (slice_get old other))
  pub gained : (other : ℕ) → asides_if (slice_get new other)
      ≡ asides_if (slice_get old other) ++ (if feed == other then asides else [])
