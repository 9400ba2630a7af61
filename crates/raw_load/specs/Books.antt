-- Books of raw rows: the accepted deliveries, each with the place of its entry in the journal, and
-- what is kept of them: the rows of each partition, and of each feed up to which tick it is closed
-- and which rows were set aside.
use Rattle.std.specs.Prelude.{ℕ, ◌≡◌, ◌<◌, List, [], ◌∷◌, Option, Some, None, Bool, true, ◌&&◌, ◌==◌}
use Rattle.std.specs.Prelude.{if◌then◌else◌, filter, flat_map, fold, length, map, max, slice_get}
use Rattle.std.specs.Prelude.{unwrap_or}
use Rattle.std.specs.Map.{lookup}
use Rattle.std.specs.BTreeMap.{is_at}
use Rattle.depot_cell.specs.declared.cell.Cell.{Cell}
use Rattle.desc_types.specs.declared.table.Key.{Key}
use Rattle.desc_types.specs.Deliveries.{DeliveryOf}
use Rattle.desc_types.specs.Descriptions.{DescOf}
use Rattle.desc_types.specs.Keys.{key_cmp}
use Rattle.view_meaning.specs.declared.aside.Aside.{Aside}
use Rattle.view_meaning.specs.SetAside.{asides}
use Rattle.view_meaning.specs.Versions.{is_raw}
use Rattle.view_meaning.specs.Contents.{loads_kept}

-- an accepted delivery with the place of its entry in the journal
pub record LoadOf : Type 0 where
  pub place : ℕ
  pub delivery : DeliveryOf

-- what is kept of a feed: the tick below which no rows are expected any more, and the rows that
-- were set aside, in order
pub record FeedBookOf : Type 0 where
  pub closes : ℕ
  pub asides : List Aside

-- what a book of raw rows tells: the accepted deliveries, in order; of each partition that has
-- some the rows of each delivery that kept one in it, in order; and what is kept of each feed
pub record RawBookOf : Type 0 where
  pub loads : List LoadOf
  pub kept : List (Key × List (List (List Cell)))
  pub feeds : List FeedBookOf

-- the deliveries of a book
abbrev pub deliveries_of : RawBookOf → List DeliveryOf
deliveries_of book = map (λ (load : LoadOf). load.delivery) book.loads

-- of a partition the rows of each delivery that kept one in it
abbrev pub kept_in : RawBookOf → Key → List (List (List Cell))
kept_in book key = unwrap_or (lookup (is_at (key_cmp key)) book.kept) []

-- the rows of some deliveries, or of some parts, one after the other
abbrev pub rows_of : List (List (List Cell)) → List (List Cell)
rows_of deliveries = flat_map (λ rows. rows) deliveries

-- whether an accepted delivery is the one of a feed with a number
abbrev pub is_numbered : (feed number : ℕ) → LoadOf → Bool
is_numbered feed number load =
    (load.delivery.feed == feed) && (load.delivery.number == number)

-- the place of the first accepted delivery of a feed with a number
abbrev pub place_in : List LoadOf → (feed number : ℕ) → Option ℕ
place_in [] feed number = None
place_in (load ∷ later) feed number =
    if is_numbered feed number load then Some load.place else place_in later feed number

-- the rows set aside that are kept of a feed that may be there
abbrev pub asides_if : Option FeedBookOf → List Aside
asides_if None = []
asides_if (Some feed) = feed.asides

-- the rows set aside that are kept of a feed
abbrev pub asides_in : RawBookOf → (feed : ℕ) → List Aside
asides_in book feed = asides_if (slice_get book.feeds feed)

-- the tick up to which a feed that may be there is closed
abbrev pub closes_if : Option FeedBookOf → ℕ
closes_if None = 0
closes_if (Some feed) = feed.closes

-- the tick up to which a feed is closed
abbrev pub closes_in : RawBookOf → (feed : ℕ) → ℕ
closes_in book feed = closes_if (slice_get book.feeds feed)

-- the greatest tick up to which a delivery of a feed closed it
abbrev pub greatest_closes : List DeliveryOf → (feed : ℕ) → ℕ
greatest_closes deliveries feed = fold max 0 (map (λ (delivery : DeliveryOf). delivery.closes)
    (filter (λ (delivery : DeliveryOf). delivery.feed == feed) deliveries))

-- of each feed the book has up to which tick its deliveries closed it, and the rows of it that were
-- set aside
pub record TellsFeeds (desc : DescOf) (book : RawBookOf) : Type 0 where
  pub all : length book.feeds ≡ length desc.feeds
  pub closes : (feed : ℕ) → feed < length desc.feeds
      → closes_in book feed ≡ greatest_closes (deliveries_of book) feed
  pub asides : (feed : ℕ) → feed < length desc.feeds
      → asides_in book feed ≡ asides desc (deliveries_of book) feed

-- of each raw partition the book has what its deliveries kept, and of each feed what they closed
-- and set aside
pub record TellsRaw (desc : DescOf) (book : RawBookOf) : Type 0 where
  pub kept : (key : Key) → is_raw (slice_get desc.tables key.table) ≡ true
      → kept_in book key ≡ loads_kept desc key [] (deliveries_of book)
  pub feeds : TellsFeeds desc book
