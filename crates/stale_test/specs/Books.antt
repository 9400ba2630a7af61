-- The book of stale partitions, and what it tells of a journal.
use Rattle.std.specs.Prelude.{◌≡◌, ◌≤◌, ◌==◌, ◌&&◌, ℕ, Bool, List, [], ◌∷◌, length, nat_le, take}
use Rattle.desc_types.specs.declared.table.Key.{Key}
use Rattle.desc_types.specs.Descriptions.{DescOf}
use Rattle.desc_types.specs.Sources.{HasEarlierSources}
use Rattle.view_meaning.specs.declared.journal.Entry.{Entry}
use Rattle.view_meaning.specs.Partitions.{is_among}
use Rattle.view_meaning.specs.Versions.{last_place, version}
use Rattle.view_meaning.specs.Staleness.{is_stale}
use Rattle.view_meaning.specs.Drains.{all_view_keys, unsettled}
use Rattle.view_meaning.specs.Reached.{reached}
use Rattle.stale_test.specs.Histories.{Histories, history_in}
use Rattle.stale_test.specs.Keeping.{HasPlacesFor, ReadyOf}
use Rattle.stale_test.specs.Places.{HasPlace}
use Rattle.stale_test.specs.Readers.{AreReaders}
use Rattle.stale_test.specs.Standings.{Standings, standing_in, tells_stale, tells_unsettled}

-- what a book holds: how many entries it was told of, the history of each partition that changed,
-- where each unsettled one stands, and what the last walk found
pub record StaleBookOf : Type 0 where
  pub entries : ℕ
  pub parts : Histories
  pub unsettled : Standings
  pub ready : ReadyOf

-- the version of a partition, as the book tells it
abbrev pub version_in : StaleBookOf → Key → ℕ
version_in book key = (history_in book.parts key).version

-- how many entries stood when that last changed
abbrev pub changed_in : StaleBookOf → Key → ℕ
changed_in book key = (history_in book.parts key).changed

-- the place of its last install
abbrev pub place_in : StaleBookOf → Key → ℕ
place_in book key = (history_in book.parts key).upto

-- whether it is stale
abbrev pub is_stale_in : StaleBookOf → Key → Bool
is_stale_in book key = tells_stale (standing_in book.unsettled key)

-- whether it is not settled
abbrev pub is_unsettled_in : StaleBookOf → Key → Bool
is_unsettled_in book key = tells_unsettled (standing_in book.unsettled key)

-- the book tells what is stale and what is unsettled after a journal, however it came about: its
-- installs need not have been asked for, as long as none counts entries after it
pub record TellsStale (desc : DescOf) (journal : List Entry) (book : StaleBookOf) : Type 0 where
  pub entries : book.entries ≡ length journal
  pub versions : (key : Key) → version_in book key ≡ version desc journal key
  pub places : (key : Key) → place_in book key ≡ last_place journal key
  pub past : (key : Key) → last_place journal key ≤ length journal
  pub changed : (key : Key) (at : ℕ) → at ≤ length journal
      → nat_le (changed_in book key) at
      ≡ (version desc (take at journal) key == version desc journal key)
  pub stale : (key : Key) → is_stale_in book key
      ≡ (is_among (all_view_keys desc) key && is_stale desc journal key)
  pub unsettled : (key : Key) → is_unsettled_in book key
      ≡ is_among (unsettled desc journal) key

-- there is room to note that these partitions change
abbrev pub HasPlaces : (keys : List Key) → StaleBookOf → Type 0
HasPlaces keys book = HasPlacesFor keys book.ready book.parts book.unsettled

-- there is room to note that a partition is installed
pub record HasInstallPlaces (key : Key) (book : StaleBookOf) : Type 0 where
  pub places : HasPlaces (key ∷ []) book
  pub own : HasPlace book.unsettled key

-- the last walk found what reads these partitions, and what rests on them
pub record IsReadyFor (desc : DescOf) (keys : List Key) (book : StaleBookOf) : Type 0 where
  pub earlier : HasEarlierSources desc
  pub readers : AreReaders desc keys book.ready.readers
  pub above : (key : Key)
      → is_among book.ready.above key ≡ is_among (reached desc (is_among keys)) key
