-- Books of marks: what is kept of the accepted deliveries so that a mark is told without a pass over
-- them.
use Rattle.std.specs.Prelude.{ℕ, ◌≡◌, List, Some, IfSome, IsSomeAnd, true, false, ◌==◌}
use Rattle.std.specs.Prelude.{is_some, length, slice_get}
use Rattle.std.specs.Option.{unwrap_or}
use Rattle.desc_types.specs.declared.table.Key.{Key}
use Rattle.desc_types.specs.Deliveries.{DeliveryOf}
use Rattle.desc_types.specs.Descriptions.{DescOf}
use Rattle.view_meaning.specs.declared.aside.Aside.{Aside}
use Rattle.view_meaning.specs.Closing.{is_closed_in, is_fed_by, part_end}
use Rattle.view_meaning.specs.Partitions.{is_part}
use Rattle.view_meaning.specs.RawMarks.{greatest, has_number, misses}
use Rattle.view_meaning.specs.Versions.{is_raw}
use Rattle.depot_marks.specs.declared.feed.FeedMarks.{FeedMarks}
use Rattle.depot_marks.specs.Closings.{greatest_at}
use Rattle.depot_marks.specs.Numbers.{is_accepted}
use Rattle.depot_marks.specs.Missed.{is_missed_to}
use Rattle.depot_marks.specs.FeedMarks.{HasFeedRoom}

-- a book of marks: what each feed's deliveries told, by number of the feed
pub record MarkBookOf : Type 0 where
  pub feeds : List FeedMarks

-- of a partition of a feed's table, what the accepted deliveries come to
pub record TellsPart (desc : DescOf) (accepted : List DeliveryOf) (key : Key)
    (marks : FeedMarks) : Type 0 where
  pub closed : is_closed_in desc accepted key
      ≡ is_some (greatest_at marks.closings.items (part_end desc key))
  pub greatest : greatest desc accepted key
      ≡ unwrap_or (greatest_at marks.closings.items (part_end desc key)) marks.closings.greatest
  pub numbers : (number : ℕ)
      → has_number desc accepted key number ≡ is_accepted marks.numbers number
  pub missed : (last : ℕ) → misses desc accepted key last ≡ is_missed_to marks.missed key last

-- the book tells the marks after these deliveries: it has each feed, and of each partition of a
-- feed's table what they come to
pub record TellsMarks (desc : DescOf) (accepted : List DeliveryOf) (book : MarkBookOf) : Type 0 where
  pub feeds : length book.feeds ≡ length desc.feeds
  pub parts : (feed : ℕ) (marks : FeedMarks) (key : Key) → slice_get book.feeds feed ≡ Some marks
      → is_fed_by feed (slice_get desc.tables key.table) ≡ true
      → TellsPart desc accepted key marks

-- there is room for a delivery, of which these rows are set aside, if its feed is one of the book
pub record HasRoom (delivery : DeliveryOf) (asides : List Aside) (book : MarkBookOf) : Type 0 where
  pub feed : IfSome (slice_get book.feeds delivery.feed) (HasFeedRoom delivery.number asides)

-- a key is a partition of a raw table
pub record IsRawPart (desc : DescOf) (key : Key) : Type 0 where
  pub raw : is_raw (slice_get desc.tables key.table) ≡ true
  pub part : is_part desc key ≡ true

-- of all that stand in a list only what is at one place has changed
pub record ChangesAt {X : Type 0} (place : ℕ) (Changes : X → X → Type 0)
    (old new : List X) : Type 0 where
  pub count : length new ≡ length old
  pub own : (x : X) → slice_get new place ≡ Some x
      → IsSomeAnd (slice_get old place) (λ before. Changes before x)
  pub others : (other : ℕ) → (place == other) ≡ false
      → slice_get new other ≡ slice_get old other
