-- The dependents of a source's partition. `IsLatest` and `IsEarliest` say which starts of a view's
-- partition, and which ends, leave a tick of the source within the span round that partition; all
-- lemmas after them are on natural numbers.
use Rattle.std.proofs.Common.{◌≡◌, ◌∙◌, ℕ, ◌+◌, ◌-◌, ◌*◌, ◌/◌, ◌<◌, ◌≤◌, sym, ap, refl, arith}
use Rattle.std.proofs.Common.{[], List, get_or, subst}
use Rattle.std.specs.Prelude.{ℤ, pos, ◌+ℤ◌, ◌-ℤ◌, ◌≤ℤ◌, ◌<ℤ◌, ◌&&◌, min, true, false}
use Rattle.std.specs.Prelude.{Bool}
use Rattle.std.specs.List.{filter, range_with_len}
use Rattle.std.proofs.lemmas.Int.{ints}
use Rattle.std.proofs.lemmas.Bool.{and_from, and_parts}
use Rattle.std.proofs.lemmas.Nat.{le-div, div_below}
use Rattle.std.proofs.lemmas.Nat.Gcd.{dvd_of_mod-eq-zero, le_of_dvd}
use Rattle.std.proofs.Math.Nat.{mul-le-mul_right, div-mul-le_self, lt-div-mul-add, add-mul}
use Rattle.partition_map.specs.declared.time.Span.{Span}
use Rattle.partition_map.specs.Time.{END}
use Rattle.partition_map.specs.Partitions.{start_of, is_met, tick_at_least, has}
use Rattle.partition_map.specs.Partitions.{source_parts, dependent_parts, all_parts, SpanFits}
use Rattle.partition_map.specs.Partitions.{HasMutualParts}
use Rattle.partition_map.proofs.BoolLemmas.{same-answer, not-true}
use Rattle.partition_map.proofs.ListLemmas.{All-range_with_len, filter-none}
use Rattle.partition_map.proofs.ListLemmas.{filter-range_with_len}
use Rattle.partition_map.proofs.NumberLemmas.{has-filter, has-parts_met}
use Rattle.partition_map.proofs.PartitionLemmas.{start_of-next, parts_met-start}
use Rattle.partition_map.proofs.SourceLemmas.{le-tick_at_least, tick_at_least-le, from-whole}
use Rattle.partition_map.proofs.SourceLemmas.{source-some}
use Rattle.partition_map.proofs.SourceLemmas.{le-tick, tick-le, lt-tick_at_least}
use Rattle.partition_map.proofs.SourceLemmas.{is_met-starts, starts-is_met}

-- the partitions of a table that have a width are those that share a tick with time
has-all_parts : (width part : ℕ) → has (all_parts width) part ≡ is_met width 0 END part
unfolding all_parts
has-all_parts width part = has-parts_met width 0 END part

-- sources and dependents mirror each other
pub mutual_parts : HasMutualParts
mutual_parts width source_width span part source is_part =
    let read = has (source_parts width source_width span part) source in
    sym (has-filter (λ part. has (source_parts width source_width span part) source)
    (all_parts width) part
    ∙ ap (λ (there : Bool). read && there) (has-all_parts width part ∙ is_part)
    ∙ same-answer (read && true) read
    (λ both. (and_parts read true both).0)
    (λ found. and_from read true found refl))

-- `latest` is the last tick in time from which a step by `lo` leads no further than a tick
pub record IsLatest (begin : ℕ) (lo : ℤ) (latest : ℕ) : Type 0 where
  pub in_time : latest < END
  pub within : pos latest ≤ℤ (pos begin -ℤ lo)
  pub reach : (base : ℕ) → base < END → tick_at_least (pos base +ℤ lo) ≤ begin → base ≤ latest

-- `earliest` is the last tick from which a step by `hi` does not lead past a tick
pub record IsEarliest (begin : ℕ) (hi : ℤ) (earliest : ℕ) : Type 0 where
  pub within : (pos begin -ℤ hi) ≤ℤ pos earliest
  pub reach : (next : ℕ) → 1 ≤ next → begin < tick_at_least (pos next +ℤ hi) → earliest < next

-- the latest start is found by going back, and stopping at the last tick
pub is_latest : (begin : ℕ) (lo : ℤ) (latest : ℕ) → lo ≤ℤ pos begin
    → latest ≡ min (tick_at_least (pos begin -ℤ lo)) (END - 1) → IsLatest begin lo latest
is_latest begin lo latest in_order is = record {
  in_time = omega arith;
  within = tick-le (pos begin -ℤ lo) latest (omega (arith, ints)) (omega arith);
  reach = λ base before at_most.
      let near = le-tick_at_least (pos base +ℤ lo) begin at_most in
      let back = le-tick (pos begin -ℤ lo) base (omega (arith, ints)) in
      omega arith;
}

-- the earliest end is found by going back, and stopping at the first tick
pub is_earliest : (begin : ℕ) (hi : ℤ) (earliest : ℕ)
    → earliest ≡ tick_at_least (pos begin -ℤ hi) → IsEarliest begin hi earliest
is_earliest begin hi earliest is = record {
  within = le-tick_at_least (pos begin -ℤ hi) earliest (omega arith);
  reach = λ next some before.
      let far = lt-tick_at_least (pos next +ℤ hi) begin before in
      let back = tick_at_least-le (pos begin -ℤ hi) (next - 1) (omega (arith, ints)) in
      omega arith;
}

-- what is known of the dependents of a partition that is in time: their latest start, and their
-- earliest end
pub record HasEnds (width source_width : ℕ) (span : Span) (source latest earliest : ℕ) : Type 0
  where
    pub some : 1 ≤ width
    pub fits : SpanFits width source_width span
    pub in_time : start_of source_width source < END
    pub is_latest : IsLatest (start_of source_width source) span.lo latest
    pub is_earliest : IsEarliest (start_of source_width source) span.hi earliest

-- they are found by going back from the partition's start
pub has_ends : (width source_width : ℕ) (span : Span) (source begin latest earliest : ℕ)
    → 1 ≤ width → SpanFits width source_width span → begin < END
    → begin ≡ start_of source_width source → span.lo ≤ℤ pos begin
    → latest ≡ min (tick_at_least (pos begin -ℤ span.lo)) (END - 1)
    → earliest ≡ tick_at_least (pos begin -ℤ span.hi)
    → HasEnds width source_width span source latest earliest
has_ends width source_width span source begin latest earliest some fits in_time begins in_order
    is_last is_first = record {
      some = some;
      fits = fits;
      in_time = omega arith;
      is_latest = subst (λ begin. IsLatest begin span.lo latest) begins
          (is_latest begin span.lo latest in_order is_last);
      is_earliest = subst (λ begin. IsEarliest begin span.hi earliest) begins
          (is_earliest begin span.hi earliest is_first);
    }

-- whether a view's partition has one of the source among its sources
abbrev reads : (width source_width : ℕ) → Span → (source part : ℕ) → Bool
reads width source_width span source part =
    has (source_parts width source_width span part) source

-- what reads a partition has the start of that within its span
reads-starts : (width source_width : ℕ) (span : Span) (source part : ℕ)
    → SpanFits width source_width span → reads width source_width span source part ≡ true
    → (tick_at_least (pos (part * width) +ℤ span.lo) ≤ start_of source_width source)
    × (start_of source_width source < tick_at_least (pos ((part + 1) * width) +ℤ span.hi))
reads-starts width source_width span source part fits found =
    let from = tick_at_least (pos (part * width) +ℤ span.lo) in
    let to = tick_at_least (pos ((part + 1) * width) +ℤ span.hi) in
    is_met-starts source_width from to source (from-whole width source_width span part fits)
    (sym (has-parts_met source_width from (min END to) source) ∙ found)

-- what reads a partition is not before that of the earliest end
reads-earliest : (width source_width : ℕ) (span : Span) (source latest earliest part : ℕ)
    → HasEnds width source_width span source latest earliest
    → reads width source_width span source part ≡ true → earliest / width ≤ part
reads-earliest width source_width span source latest earliest part ends found =
    let next = start_of-next width part in
    let some = ends.some in
    let starts = reads-starts width source_width span source part ends.fits found in
    let before = ends.is_earliest.reach ((part + 1) * width) (omega arith) starts.1 in
    let below = div_below earliest width (part + 1) some before in
    omega arith

-- and not after that of the latest start
reads-latest : (width source_width : ℕ) (span : Span) (source latest earliest part : ℕ)
    → HasEnds width source_width span source latest earliest → start_of width part < END
    → reads width source_width span source part ≡ true → part ≤ latest / width
reads-latest width source_width span source latest earliest part ends in_time found =
    let starts = reads-starts width source_width span source part ends.fits found in
    le-div part latest width ends.some
    (ends.is_latest.reach (part * width) in_time starts.0)

-- the partitions between those of the earliest end and of the latest start begin and end in reach
between : (width latest earliest part : ℕ) → 1 ≤ width → earliest / width ≤ part
    → part ≤ latest / width → (part * width ≤ latest) × (earliest < (part + 1) * width)
between width latest earliest part some at_least at_most =
    let next = start_of-next width part in
    let begins : part * width ≤ latest / width * width = mul-le-mul_right width at_most in
    let last : latest / width * width ≤ latest = div-mul-le_self latest width in
    let ends : earliest / width * width ≤ part * width = mul-le-mul_right width at_least in
    let first : earliest < earliest / width * width + width = lt-div-mul-add some in
    (omega arith, omega arith)

-- each of them reads it
reads-between : (width source_width : ℕ) (span : Span) (source latest earliest part : ℕ)
    → HasEnds width source_width span source latest earliest
    → earliest / width ≤ part → part ≤ latest / width
    → reads width source_width span source part ≡ true
reads-between width source_width span source latest earliest part ends at_least at_most =
    let from = tick_at_least (pos (part * width) +ℤ span.lo) in
    let to = tick_at_least (pos ((part + 1) * width) +ℤ span.hi) in
    let both = between width latest earliest part ends.some at_least at_most in
    let after = le-tick (pos ((part + 1) * width) +ℤ span.hi) (start_of source_width source + 1)
    (omega (arith, ints, both.1, ends.is_earliest.within)) in
    has-parts_met source_width from (min END to) source
    ∙ starts-is_met source_width from to source
    (source-some width source_width span ends.fits) ends.in_time
    (tick_at_least-le (pos (part * width) +ℤ span.lo) (start_of source_width source)
    (omega (arith, ints, both.0, ends.is_latest.within)))
    (omega (arith, after))

-- all partitions of a width are a run of numbers
all_parts-run : (width : ℕ) → 1 ≤ width
    → all_parts width ≡ range_with_len 0 ((END - 1) / width + 1)
unfolding all_parts
all_parts-run width some = parts_met-start width END some (omega arith) (omega arith)

-- each of them begins in time
start_of-in_time : (width part : ℕ) → part < (END - 1) / width + 1 → start_of width part < END
start_of-in_time width part below =
    let most : part * width ≤ (END - 1) / width * width = mul-le-mul_right width (omega arith) in
    let last : (END - 1) / width * width ≤ END - 1 = div-mul-le_self (END - 1) width in
    omega arith

-- the dependents of a partition are the numbers of that run that read it
dependent_parts-filter : (width source_width : ℕ) (span : Span) (source : ℕ) → 1 ≤ width
    → dependent_parts width source_width span source
    ≡ filter (reads width source_width span source) (range_with_len 0 ((END - 1) / width + 1))
dependent_parts-filter width source_width span source some =
    ap (λ (parts : List ℕ). filter (reads width source_width span source) parts)
    (all_parts-run width some)

-- a tick in time lies in no partition after the last
quotient-le : (width tick : ℕ) → 1 ≤ width → tick < END → tick / width ≤ (END - 1) / width
quotient-le width tick some in_time =
    let starts : tick / width * width ≤ tick = div-mul-le_self tick width in
    le-div (tick / width) (END - 1) width some (omega arith)

-- a partition before that of the earliest end does not read it
reads-before : (width source_width : ℕ) (span : Span) (source latest earliest part : ℕ)
    → HasEnds width source_width span source latest earliest → part < earliest / width
    → reads width source_width span source part ≡ false
reads-before width source_width span source latest earliest part ends before =
    not-true (reads width source_width span source part) (λ found.
    let at_least =
    reads-earliest width source_width span source latest earliest part ends found in
    omega arith)

-- nor does one in time after that of the latest start
reads-after : (width source_width : ℕ) (span : Span) (source latest earliest part : ℕ)
    → HasEnds width source_width span source latest earliest → start_of width part < END
    → latest / width < part → reads width source_width span source part ≡ false
reads-after width source_width span source latest earliest part ends in_time after =
    not-true (reads width source_width span source part) (λ found.
    let at_most =
    reads-latest width source_width span source latest earliest part ends in_time found in
    omega arith)

-- from the partition of the earliest end up to that of the latest start, all are dependents
pub dependent_parts-run : (width source_width : ℕ) (span : Span) (source latest earliest : ℕ)
    → HasEnds width source_width span source latest earliest → earliest / width ≤ latest / width
    → dependent_parts width source_width span source
    ≡ range_with_len (earliest / width) (latest / width - earliest / width + 1)
dependent_parts-run width source_width span source latest earliest ends in_order =
    let within = quotient-le width latest ends.some ends.is_latest.in_time in
    dependent_parts-filter width source_width span source ends.some
    ∙ filter-range_with_len (reads width source_width span source) (earliest / width)
    (latest / width + 1) ((END - 1) / width + 1) (omega arith) (omega arith)
    (λ part before. reads-before width source_width span source latest earliest part ends before)
    (λ part at_least before.
    reads-between width source_width span source latest earliest part ends at_least (omega arith))
    (λ part after below. reads-after width source_width span source latest earliest part ends
    (start_of-in_time width part below) (omega arith))
    ∙ ap (λ (many : ℕ). range_with_len (earliest / width) many) (omega arith)

-- if no partition in time reads it, it has no dependents
dependent_parts-none : (width source_width : ℕ) (span : Span) (source : ℕ) → 1 ≤ width
    → ((part : ℕ) → start_of width part < END
    → reads width source_width span source part ≡ true → ⊥)
    → dependent_parts width source_width span source ≡ []
dependent_parts-none width source_width span source some never =
    let test = reads width source_width span source in
    let bound = (END - 1) / width + 1 in
    dependent_parts-filter width source_width span source some
    ∙ filter-none test (range_with_len 0 bound)
    (All-range_with_len (λ part. test part ≡ false) 0 bound
    (λ part _ below. not-true (test part) (never part (start_of-in_time width part (omega arith)))))

-- if the partition of the earliest end comes after that of the latest start, there are none
pub dependent_parts-empty : (width source_width : ℕ) (span : Span) (source latest earliest : ℕ)
    → HasEnds width source_width span source latest earliest → latest / width < earliest / width
    → dependent_parts width source_width span source ≡ []
dependent_parts-empty width source_width span source latest earliest ends none =
    dependent_parts-none width source_width span source ends.some (λ part in_time found.
    let at_least =
    reads-earliest width source_width span source latest earliest part ends found in
    let at_most =
    reads-latest width source_width span source latest earliest part ends in_time found in
    omega arith)

-- a partition that begins before any span round one can has none
pub dependent_parts-before : (width source_width : ℕ) (span : Span) (source : ℕ)
    → SpanFits width source_width span → pos (start_of source_width source) <ℤ span.lo
    → dependent_parts width source_width span source ≡ []
dependent_parts-before width source_width span source fits early =
    filter-none (reads width source_width span source) (all_parts width) (λ index default _.
    let part = get_or (all_parts width) index default in
    not-true (reads width source_width span source part) (never part))
  where
    never : (part : ℕ) → reads width source_width span source part ≡ true → ⊥
    never part found =
        let starts = reads-starts width source_width span source part fits found in
        let near = le-tick_at_least (pos (part * width) +ℤ span.lo)
        (start_of source_width source) starts.0 in
        omega (arith, ints)

-- a span that fits has at most 1,024 dependents too
pub dependents-few : (width source_width : ℕ) (span : Span) (source latest earliest : ℕ)
    → HasEnds width source_width span source latest earliest
    → latest / width - earliest / width + 1 ≤ 1024
dependents-few width source_width span source latest earliest ends =
    let narrow : source_width ≤ width = le_of_dvd ends.some
    (dvd_of_mod-eq-zero source_width ends.fits.whole) in
    let first : earliest < earliest / width * width + width =
    lt-div-mul-add ends.some in
    let sum = add-mul (earliest / width) 1024 width in
    let near : latest + width ≤ earliest + 1024 * source_width =
    omega (arith, ints, ends.fits.few, ends.is_latest.within, ends.is_earliest.within) in
    let last = div_below latest width (earliest / width + 1024) ends.some (omega arith) in
    omega arith
