-- Which partitions cover a tick, and which share one with a span of ticks, by division.
use Rattle.std.proofs.Common.{◌≡◌, ◌∙◌, ℕ, ◌+◌, ◌-◌, ◌*◌, ◌/◌, ◌<◌, ◌≤◌, get_or, sym, ap, arith}
use Rattle.std.specs.Prelude.{◌%◌, min, max, nat_eq, nat_le, nat_lt, true, false}
use Rattle.std.specs.List.{range_with_len}
use Rattle.std.proofs.Math.Nat.{add-mul, one-mul}
use Rattle.std.proofs.Math.Nat.{div-eq_of_lt-le, mul-le-mul_right, div-mul-le_self, lt-div-mul-add}
use Rattle.std.proofs.Math.Nat.{div-le_self}
use Rattle.std.proofs.lemmas.Bool.{lt-ltb, le-ltb, ltb-true, eq-eqb, eqb-true, le-leb, leb-true}
use Rattle.std.proofs.lemmas.Bool.{and_parts, and_from}
use Rattle.std.proofs.lemmas.Nat.{div-add-mod', le-div, div_below}
use Rattle.partition_map.specs.Time.{END}
use Rattle.partition_map.specs.Partitions.{start_of, end_of, is_covered, is_met, parts_met}
use Rattle.partition_map.proofs.ListLemmas.{filter-none, filter-range_with_len}
use Rattle.partition_map.proofs.BoolLemmas.{same-answer}

-- an empty span shares a tick with no partition
is_met-empty : (width from to part : ℕ) → to ≤ from → is_met width from to part ≡ false
is_met-empty width from to part empty =
    le-ltb (max (start_of width part) from) (min (end_of width part) to) (omega arith)

-- no partition shares a tick with an empty span
pub parts_met-empty : (width from to : ℕ) → to ≤ from
    → parts_met width from to ≡ range_with_len 0 0
parts_met-empty width from to empty =
    filter-none (is_met width from to) (range_with_len 0 to)
    (λ index default _.
    is_met-empty width from to (get_or (range_with_len 0 to) index default) empty)

-- a partition before that of the first tick shares none with the span
is_met-before : (width from to part : ℕ) → part < from / width → is_met width from to part ≡ false
is_met-before width from to part before =
    let ends : (part + 1) * width ≤ from / width * width = mul-le-mul_right width (omega arith) in
    let at_most : from / width * width ≤ from = div-mul-le_self from width in
    le-ltb (max (start_of width part) from) (min (end_of width part) to) (omega arith)

-- a partition from that of the first tick up to that of the last shares one with the span
is_met-within : (width from to part : ℕ) → 1 ≤ width → from < to → to ≤ END
    → from / width ≤ part → part ≤ (to - 1) / width
    → is_met width from to part ≡ true
is_met-within width from to part some in_order in_time at_least at_most =
    let starts : part * width ≤ (to - 1) / width * width = mul-le-mul_right width at_most in
    let last : (to - 1) / width * width ≤ to - 1 = div-mul-le_self (to - 1) width in
    let ends : from / width * width ≤ part * width = mul-le-mul_right width at_least in
    let first : from < from / width * width + width = lt-div-mul-add (omega arith) in
    lt-ltb (max (start_of width part) from) (min (end_of width part) to) (omega arith)

-- a partition after that of the last tick shares none with the span
is_met-after : (width from to part : ℕ) → 1 ≤ width → (to - 1) / width < part
    → is_met width from to part ≡ false
is_met-after width from to part some after =
    let starts : ((to - 1) / width + 1) * width ≤ part * width =
    mul-le-mul_right width (omega arith) in
    let last : to - 1 < (to - 1) / width * width + width = lt-div-mul-add (omega arith) in
    le-ltb (max (start_of width part) from) (min (end_of width part) to) (omega arith)

-- from the partition of the first tick up to that of the last, they share one with the span
pub parts_met-run : (width from to : ℕ) → 1 ≤ width → from < to → to ≤ END
    → parts_met width from to ≡ range_with_len (from / width) ((to - 1) / width - from / width + 1)
parts_met-run width from to some in_order in_time =
    let at_most : from / width * width ≤ from = div-mul-le_self from width in
    let ordered : from / width ≤ (to - 1) / width =
    le-div (from / width) (to - 1) width some (omega arith) in
    let within : (to - 1) / width ≤ to - 1 = div-le_self (to - 1) width in
    filter-range_with_len (is_met width from to) (from / width) ((to - 1) / width + 1) to
    (omega arith) (omega arith)
    (λ part below. is_met-before width from to part below)
    (λ part at_least below.
    is_met-within width from to part some in_order in_time at_least (omega arith))
    (λ part at_least _. is_met-after width from to part some (omega arith))
    ∙ ap (λ (many : ℕ). range_with_len (from / width) many) (omega arith)

-- of a span from the first tick on these are the first ones
pub parts_met-start : (width to : ℕ) → 1 ≤ width → 0 < to → to ≤ END
    → parts_met width 0 to ≡ range_with_len 0 ((to - 1) / width + 1)
parts_met-start width to some some_too in_time =
    let first : 0 / width ≤ 0 = div-le_self 0 width in
    let zero : 0 / width ≡ 0 = omega arith in
    parts_met-run width 0 to some some_too in_time
    ∙ ap (λ (first : ℕ). range_with_len first ((to - 1) / width - first + 1)) zero
    ∙ ap (λ (many : ℕ). range_with_len 0 many) (omega arith)

-- the next partition begins a width later
pub start_of-next : (width part : ℕ) → start_of width (part + 1) ≡ start_of width part + width
start_of-next width part =
    add-mul part 1 width ∙ ap (λ (one : ℕ). part * width + one) (one-mul width)

-- a partition that covers a tick has the number that division gives
pub is_covered-quotient : (width part tick : ℕ) → is_covered width part tick ≡ true
    → part ≡ tick / width
is_covered-quotient width part tick covers =
    let begin = start_of width part in
    let both = and_parts (nat_le begin tick) (nat_lt tick (end_of width part)) covers in
    let begins = leb-true begin tick both.0 in
    let before = ltb-true tick (end_of width part) both.1 in
    let next = start_of-next width part in
    sym (div-eq_of_lt-le width begins (omega arith))

-- the partition with that number covers the tick
quotient-is_covered : (width tick : ℕ) → 1 ≤ width → tick < END
    → is_covered width (tick / width) tick ≡ true
quotient-is_covered width tick some in_time =
    let begin = start_of width (tick / width) in
    let starts : tick / width * width ≤ tick = div-mul-le_self tick width in
    let ends : tick < tick / width * width + width = lt-div-mul-add some in
    and_from (nat_le begin tick) (nat_lt tick (end_of width (tick / width)))
    (le-leb begin tick starts) (lt-ltb tick (end_of width (tick / width)) (omega arith))

-- a tick lies in a partition exactly if division gives the partition's number
pub is_covered-div : (width part tick : ℕ) → 1 ≤ width → tick < END
    → is_covered width part tick ≡ nat_eq part (tick / width)
is_covered-div width part tick some in_time =
    same-answer (is_covered width part tick) (nat_eq part (tick / width))
    (λ covers. eq-eqb part (tick / width) (is_covered-quotient width part tick covers))
    (λ same.
    rw (eqb-true part (tick / width) same) (quotient-is_covered width tick some in_time))

-- if a span has at most so many widths, so many partitions share a tick with it
pub parts_met-few : (width from to many : ℕ) → 1 ≤ width → 1 ≤ many → from % width ≡ 0
    → from < to → to ≤ from + many * width
    → (to - 1) / width - from / width + 1 ≤ many
parts_met-few width from to many some some_too whole in_order short =
    let begins : from / width * width + from % width ≡ from = div-add-mod' from width in
    let sum = add-mul (from / width) many width in
    let last : (to - 1) / width < from / width + many =
    div_below (to - 1) width (from / width + many) some (omega arith) in
    omega arith
