-- The sources of a view's partition: spans round a partition, and which source partitions meet one.
use Rattle.std.proofs.Common.{◌≡◌, ◌∙◌, ℕ, ◌+◌, ◌-◌, ◌*◌, ◌/◌, ◌<◌, ◌≤◌, sym, ap, arith}
use Rattle.std.proofs.Common.{[], List, length}
use Rattle.std.proofs.lemmas.List.FromFn.{length-range_with_len}
use Rattle.std.specs.List.{range_with_len}
use Rattle.std.specs.Prelude.{ℤ, pos, negsuc, ◌%◌, ◌+ℤ◌, ◌≤ℤ◌, ◌<ℤ◌, min, max, true}
use Rattle.std.specs.Prelude.{unsigned_abs}
use Rattle.std.proofs.lemmas.Bool.{lt-ltb, ltb-true}
use Rattle.std.proofs.lemmas.Int.{ints}
use Rattle.std.proofs.lemmas.Nat.{div-add-mod'}
use Rattle.std.proofs.lemmas.Nat.Gcd.{dvd_of_mod-eq-zero, mod-eq-zero_of_dvd}
use Rattle.std.proofs.Math.Nat.{mul-le-mul_right, lt_of_mul-lt-mul_right}
use Rattle.std.proofs.Math.Nat.{dvd-add, dvd-sub, dvd-mul_left_of_dvd}
use Rattle.partition_map.specs.declared.time.Span.{Span}
use Rattle.partition_map.specs.Time.{END}
use Rattle.partition_map.specs.Partitions.{start_of, end_of, is_met, tick_at_least, SpanFits}
use Rattle.partition_map.specs.Partitions.{parts_met, source_parts}
use Rattle.partition_map.proofs.PartitionLemmas.{parts_met-empty, parts_met-few, parts_met-run}
use Rattle.partition_map.proofs.PartitionLemmas.{start_of-next}

-- a whole number is at most a tick if the tick at it is
pub le-tick_at_least : (number : ℤ) (tick : ℕ) → tick_at_least number ≤ tick → number ≤ℤ pos tick
le-tick_at_least (pos number) tick at_most = omega (arith, ints)
le-tick_at_least (negsuc number) tick at_most = omega (arith, ints)

-- the tick at a whole number is at most a tick if the number is
pub tick_at_least-le : (number : ℤ) (tick : ℕ) → number ≤ℤ pos tick → tick_at_least number ≤ tick
tick_at_least-le (pos number) tick at_most = omega (arith, ints)
tick_at_least-le (negsuc number) tick at_most = omega arith

-- a tick is at most the tick at a whole number if it is at most the number
pub le-tick : (number : ℤ) (tick : ℕ) → pos tick ≤ℤ number → tick ≤ tick_at_least number
le-tick (pos number) tick at_most = omega (arith, ints)
le-tick (negsuc number) tick at_most = absurd (omega (arith, ints))

-- a tick is at most a whole number that is no less than 0 if it is at most the tick at that
pub tick-le : (number : ℤ) (tick : ℕ) → pos 0 ≤ℤ number → tick ≤ tick_at_least number
    → pos tick ≤ℤ number
tick-le (pos number) tick in_time at_most = omega (arith, ints)
tick-le (negsuc number) tick in_time at_most = absurd (omega (arith, ints))

-- a tick is before a whole number if it is before the tick at that
pub lt-tick_at_least : (number : ℤ) (tick : ℕ) → tick < tick_at_least number → pos tick <ℤ number
lt-tick_at_least (pos number) tick before = omega (arith, ints)
lt-tick_at_least (negsuc number) tick before = absurd (omega arith)

-- the tick so far before another is what subtraction leaves
tick_at_least-sub : (number : ℤ) (tick less : ℕ) → number +ℤ pos less ≡ pos tick
    → tick_at_least number ≡ tick - less
tick_at_least-sub (pos number) tick less back = omega (arith, ints)
tick_at_least-sub (negsuc number) tick less back = omega (arith, ints)

-- a multiple of a width that is moved by another one is a multiple, or the first tick
pub tick_at_least-whole : (width tick : ℕ) (offset : ℤ) → tick % width ≡ 0
    → unsigned_abs offset % width ≡ 0 → tick_at_least (pos tick +ℤ offset) % width ≡ 0
tick_at_least-whole width tick (pos more) whole whole_too =
    mod-eq-zero_of_dvd width
    (dvd-add width (dvd_of_mod-eq-zero width whole) (dvd_of_mod-eq-zero width whole_too))
tick_at_least-whole width tick (negsuc less) whole whole_too =
    let left = tick_at_least-sub (pos tick +ℤ negsuc less) tick (unsigned_abs (negsuc less))
    (omega (arith, ints)) in
    rw left
    (mod-eq-zero_of_dvd width
    (dvd-sub width (dvd_of_mod-eq-zero width whole) (dvd_of_mod-eq-zero width whole_too)))

-- a partition of a width that is a multiple of another begins at a multiple of that one
pub start_of-whole : (width source_width part : ℕ) → width % source_width ≡ 0
    → start_of width part % source_width ≡ 0
start_of-whole width source_width part whole =
    mod-eq-zero_of_dvd source_width
    (dvd-mul_left_of_dvd source_width (dvd_of_mod-eq-zero source_width whole) part)

-- a span that fits begins at a multiple of the source's width
pub from-whole : (width source_width : ℕ) (span : Span) (part : ℕ)
    → SpanFits width source_width span
    → tick_at_least (pos (part * width) +ℤ span.lo) % source_width ≡ 0
from-whole width source_width span part fits =
    tick_at_least-whole source_width (part * width) span.lo
    (start_of-whole width source_width part fits.whole) fits.whole_lo

-- a multiple of a width before the end of a partition is not after its start
start_of-le : (width from part : ℕ) → from % width ≡ 0 → from < start_of width part + width
    → from ≤ start_of width part
start_of-le width from part whole before =
    let times : from / width * width ≡ from = omega (arith, div-add-mod' from width) in
    let next = start_of-next width part in
    let fewer : from / width < part + 1 = lt_of_mul-lt-mul_right width (omega arith) in
    let least : from / width * width ≤ part * width = mul-le-mul_right width (omega arith) in
    omega arith

-- a partition that shares a tick with a span from such a multiple begins in the span
pub is_met-starts : (width from to part : ℕ) → from % width ≡ 0
    → is_met width from (min END to) part ≡ true
    → (from ≤ start_of width part) × (start_of width part < to)
is_met-starts width from to part whole met =
    let shared = ltb-true (max (start_of width part) from)
    (min (end_of width part) (min END to)) met in
    (start_of-le width from part whole (omega arith), omega arith)

-- a partition that begins in a span shares a tick with it
pub starts-is_met : (width from to part : ℕ) → 1 ≤ width → start_of width part < END
    → from ≤ start_of width part → start_of width part < to
    → is_met width from (min END to) part ≡ true
starts-is_met width from to part some in_time at_least before =
    lt-ltb (max (start_of width part) from) (min (end_of width part) (min END to)) (omega arith)

-- a source that a span fits has a width
pub source-some : (width source_width : ℕ) (span : Span) → SpanFits width source_width span
    → 1 ≤ source_width
source-some width source_width span fits = omega (arith, ints, fits.in_order, fits.few)

-- a span that fits has at most 1,024 widths of its source
pub span-short : (width source_width : ℕ) (span : Span) (begin end from to : ℕ)
    → SpanFits width source_width span → end ≡ begin + width
    → from ≡ tick_at_least (pos begin +ℤ span.lo)
    → to ≡ min (tick_at_least (pos end +ℤ span.hi)) END
    → to ≤ from + 1024 * source_width
span-short width source_width span begin end from to fits ends is_from is_to =
    let begins = le-tick_at_least (pos begin +ℤ span.lo) from (omega arith) in
    let few = fits.few in
    let at_most = tick_at_least-le (pos end +ℤ span.hi) (from + 1024 * source_width)
    (omega (arith, ints)) in
    omega arith

-- a partition reads nothing if the span round it ends before it begins, or lies after time
pub source_parts-empty : (width source_width : ℕ) (span : Span) (part begin end from to : ℕ)
    → begin ≡ start_of width part → end ≡ begin + width
    → from ≡ tick_at_least (pos begin +ℤ span.lo)
    → to ≡ min (tick_at_least (pos end +ℤ span.hi)) END → to ≤ from
    → source_parts width source_width span part ≡ []
source_parts-empty width source_width span part begin end from to begins ends is_from is_to none =
    let next = start_of-next width part in
    let from_is : tick_at_least (pos (part * width) +ℤ span.lo) ≡ from =
    ap (λ (tick : ℕ). tick_at_least (pos tick +ℤ span.lo)) (sym begins) ∙ sym is_from in
    let end_is : (part + 1) * width ≡ end = omega arith in
    let to_is = ap (λ (tick : ℕ). tick_at_least (pos tick +ℤ span.hi)) end_is in
    parts_met-empty source_width (tick_at_least (pos (part * width) +ℤ span.lo))
    (min END (tick_at_least (pos ((part + 1) * width) +ℤ span.hi))) (omega arith)

-- a run of partitions that begins with one has so many at most
count-le : (width from to many first count : ℕ) → 1 ≤ width → 1 ≤ many → from % width ≡ 0
    → from < to → to ≤ END → to ≤ from + many * width
    → parts_met width from to ≡ range_with_len first count → count ≤ many
count-le width from to many first count some some_too whole in_order in_time short exact =
    let run = parts_met-run width from to some in_order in_time in
    let same = ap (λ (parts : List ℕ). length parts) (sym exact ∙ run) in
    let few = parts_met-few width from to many some some_too whole in_order short in
    omega (
      arith,
      length-range_with_len first count,
      length-range_with_len (from / width) ((to - 1) / width - from / width + 1),
    )

-- a partition reads at most 1,024 of its source
pub source_parts-few : (width source_width : ℕ) (span : Span) (part begin end from to first
    count : ℕ) → SpanFits width source_width span
    → begin ≡ start_of width part → end ≡ begin + width
    → from ≡ tick_at_least (pos begin +ℤ span.lo)
    → to ≡ min (tick_at_least (pos end +ℤ span.hi)) END → from < to
    → parts_met source_width from to ≡ range_with_len first count → count ≤ 1024
source_parts-few width source_width span part begin end from to first count fits begins ends
    is_from is_to in_order exact =
    let short = span-short width source_width span begin end from to fits ends is_from is_to in
    let whole : from % source_width ≡ 0 =
    rw (is_from, begins) (from-whole width source_width span part fits) in
    count-le source_width from to 1024 first count (source-some width source_width span fits)
    (omega arith) whole in_order
    (omega arith) short exact
