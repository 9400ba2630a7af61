-- Partitions of time: which ticks one covers, which partitions meet a span of ticks, which are the
-- sources of a view's partition, and which depend on a source's. All of it is said by ticks;
-- nothing here divides, except to say what a multiple is.
use Rattle.std.specs.Prelude.{ℕ, ℤ, pos, negsuc, ◌≡◌, ◌+◌, ◌*◌, ◌%◌, ◌+ℤ◌, ◌<ℤ◌, ◌≤ℤ◌, min, max}
use Rattle.std.specs.Prelude.{Bool, true, ◌&&◌, nat_eq, nat_lt, nat_le, int_lt, int_le}
use Rattle.std.specs.Prelude.{unsigned_abs, List}
use Rattle.std.specs.List.{filter, list_any, range_with_len}
use Rattle.partition_map.specs.declared.time.Span.{Span}
use Rattle.partition_map.specs.Time.{END}

-- the first tick of a partition
abbrev pub start_of : ℕ → ℕ → ℕ
start_of width part = part * width

-- the tick after the last one of a partition
abbrev pub end_of : ℕ → ℕ → ℕ
end_of width part = min (start_of width part + width) END

-- whether a partition covers a tick
abbrev pub is_covered : ℕ → ℕ → ℕ → Bool
is_covered width part tick = nat_le (start_of width part) tick && nat_lt tick (end_of width part)

-- whether a partition covers a tick that is at least `from` and below `to`
abbrev pub is_met : (width from to part : ℕ) → Bool
is_met width from to part = nat_lt (max (start_of width part) from) (min (end_of width part) to)

-- the partitions that share a tick with `from` up to `to`, by number: each has a number below `to`
abbrev pub parts_met : (width from to : ℕ) → List ℕ
parts_met width from to = filter (is_met width from to) (range_with_len 0 to)

-- all partitions of a table of this width, by number
unfoldable pub all_parts : ℕ → List ℕ
all_parts width = parts_met width 0 END

-- whether a number is one of these
abbrev pub has : List ℕ → ℕ → Bool
has parts part = list_any (nat_eq part) parts

-- the tick at a whole number, or the first tick if it lies before time
abbrev pub tick_at_least : ℤ → ℕ
tick_at_least (pos tick) = tick
tick_at_least (negsuc _) = 0

-- the source partitions of a view's partition: those that share a tick with the span round it
abbrev pub source_parts : (width source_width : ℕ) → Span → ℕ → List ℕ
source_parts width source_width span part = parts_met source_width
    (tick_at_least (pos (part * width) +ℤ span.lo))
    (min END (tick_at_least (pos ((part + 1) * width) +ℤ span.hi)))

-- the dependents of a source's partition: the view's partitions that have it as a source
abbrev pub dependent_parts : (width source_width : ℕ) → Span → ℕ → List ℕ
dependent_parts width source_width span source =
    filter (λ part. has (source_parts width source_width span part) source) (all_parts width)

-- what a view may read of a source: a span that begins before it ends, made of whole partitions of
-- the source, at most 1,024 of them
pub record SpanFits (width source_width : ℕ) (span : Span) : Type 0 where
  pub whole : width % source_width ≡ 0
  pub whole_lo : unsigned_abs span.lo % source_width ≡ 0
  pub whole_hi : unsigned_abs span.hi % source_width ≡ 0
  pub in_order : span.lo <ℤ (span.hi +ℤ pos width)
  pub few : (span.hi +ℤ pos width) ≤ℤ (span.lo +ℤ pos (1024 * source_width))

-- whether a view's width and both offsets are multiples of the source's width
abbrev pub is_whole : (width source_width : ℕ) → Span → Bool
is_whole width source_width span = nat_eq (width % source_width) 0
    && nat_eq (unsigned_abs span.lo % source_width) 0
    && nat_eq (unsigned_abs span.hi % source_width) 0

-- `SpanFits` as a test, for definitions that compute
abbrev pub is_fitting : (width source_width : ℕ) → Span → Bool
is_fitting width source_width span = is_whole width source_width span
    && int_lt span.lo (span.hi +ℤ pos width)
    && int_le (span.hi +ℤ pos width) (span.lo +ℤ pos (1024 * source_width))

-- a view's partition has one of the source among its sources exactly if that one has it among its
-- dependents
abbrev pub HasMutualParts : Type 0
HasMutualParts = (width source_width : ℕ) (span : Span) (part source : ℕ)
    → is_met width 0 END part ≡ true
    → has (source_parts width source_width span part) source
    ≡ has (dependent_parts width source_width span source) part
