-- What tells the marks of the raw partitions of one feed.
use Rattle.std.specs.Prelude.{ℕ, ◌≡◌, ◌<◌, ◌+◌, ◌||◌, ◌&&◌, ◌==◌, false, not, List, [], Option}
use Rattle.std.specs.Prelude.{Some, None, All, max, nat_le, if◌then◌else◌}
use Rattle.std.specs.Option.{option_or}
use Rattle.std.specs.List.{list_all, list_any, range_with_len}
use Rattle.desc_types.specs.declared.table.Key.{Key}
use Rattle.partition_map.specs.Partitions.{end_of}
use Rattle.view_meaning.specs.declared.aside.Aside.{Aside}
use Rattle.view_meaning.specs.declared.request.Mark.{Mark}
use Rattle.view_meaning.specs.declared.request.Mark.TheVariants as mark
use Rattle.view_meaning.specs.RawMarks.{is_missed}
use Rattle.depot_marks.specs.declared.feed.FeedMarks.{FeedMarks}
use Rattle.depot_marks.specs.Closings.{greatest_at}
use Rattle.depot_marks.specs.Numbers.{HasPlace, is_accepted}
use Rattle.depot_marks.specs.Missed.{HasPartOf, is_missed_to}

-- the mark of a partition that is closed, of which deliveries up to a number were expected
abbrev pub closed_mark : FeedMarks → Key → (last : ℕ) → Mark
closed_mark marks key last =
    if list_all (is_accepted marks.numbers) (range_with_len 0 (last + 1))
    && not (is_missed_to marks.missed key last)
    then mark.Complete else mark.Closed

-- the mark of a partition, if there is a number up to which deliveries were expected
abbrev pub mark_if : FeedMarks → Key → Option ℕ → Mark
mark_if marks key None = mark.Open
mark_if marks key (Some last) = closed_mark marks key last

-- the mark of a partition that ends at a tick
abbrev pub mark_told : FeedMarks → Key → (end : ℕ) → Mark
mark_told marks key end = mark_if marks key (greatest_at marks.closings.items end)

-- the mark of a partition of a table of this width
abbrev pub part_mark : FeedMarks → (width : ℕ) → Key → Mark
part_mark marks width key = mark_told marks key (end_of width key.part)

-- no delivery came
pub record HasNothing (marks : FeedMarks) : Type 0 where
  pub closings : marks.closings.items ≡ []
  pub greatest : marks.closings.greatest ≡ 0
  pub numbers : (number : ℕ) → is_accepted marks.numbers number ≡ false
  pub missed : (key : Key) (last : ℕ) → is_missed_to marks.missed key last ≡ false

-- what is told is the same
pub record TellsSame (old new : FeedMarks) : Type 0 where
  pub closings : new.closings.items ≡ old.closings.items
  pub greatest : new.closings.greatest ≡ old.closings.greatest
  pub numbers : (number : ℕ)
      → is_accepted new.numbers number ≡ is_accepted old.numbers number
  pub missed : (key : Key) (last : ℕ)
      → is_missed_to new.missed key last ≡ is_missed_to old.missed key last

-- there is room for a delivery with a number, of which these rows are set aside
pub record HasFeedRoom (number : ℕ) (asides : List Aside) (marks : FeedMarks) : Type 0 where
  pub closing : 0 < marks.closings.room
  pub place : HasPlace marks.numbers.ahead number
  pub parts : All (HasPartOf marks.missed) asides

-- a delivery with a number was taken in, which closed up to a tick, and of which these rows were
-- set aside
pub record TakesIn (number closes : ℕ) (asides : List Aside) (old new : FeedMarks) : Type 0 where
  pub closings : (end : ℕ) → greatest_at new.closings.items end
      ≡ option_or (greatest_at old.closings.items end)
      (if nat_le end closes then Some new.closings.greatest else None)
  pub greatest : new.closings.greatest ≡ max old.closings.greatest number
  pub numbers : (other : ℕ)
      → is_accepted new.numbers other ≡ (is_accepted old.numbers other || (number == other))
  pub missed : (key : Key) (last : ℕ) → is_missed_to new.missed key last
      ≡ (is_missed_to old.missed key last || list_any (is_missed key last) asides)
