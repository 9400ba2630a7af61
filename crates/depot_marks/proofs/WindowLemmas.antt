-- What a run of a view's partitions reads of a source: the windows of neighbours overlap or touch,
-- so what shares a tick with one of them shares one with the span that they make up.
use Rattle.std.proofs.Common.{◌≡◌, ◌∙◌, ℕ, zero, suc, ◌+◌, ◌-◌, ◌*◌, ◌<◌, ◌≤◌, List, ◌++◌}
use Rattle.std.proofs.Common.{refl, sym, ap, arith}
use Rattle.std.specs.Prelude.{ℤ, pos, ◌+ℤ◌, ◌≤ℤ◌, Bool, true, ◌||◌, max, min}
use Rattle.std.specs.Prelude.{nat_eq, nat_lt}
use Rattle.std.specs.List.{list_any, range_with_len}
use Rattle.std.proofs.Math.Bool.{or-false}
use Rattle.std.proofs.Math.Nat.{mul-le-mul_right}
use Rattle.std.proofs.lemmas.Bool.{eq-eqb, eqb-true}
use Rattle.std.proofs.lemmas.Bool.Decides.{nat_tests}
use Rattle.std.proofs.lemmas.Int.{ints}
use Rattle.std.proofs.lemmas.List.Folds.{Any-from_list_any, list_any-append, list_any_at}
use Rattle.partition_map.specs.declared.parts.Parts.{Parts}
use Rattle.partition_map.specs.declared.time.Span.{Span}
use Rattle.partition_map.specs.Partitions.{end_of, has, is_met, parts_met, source_parts, start_of}
use Rattle.partition_map.specs.Partitions.{tick_at_least}
use Rattle.partition_map.specs.Time.{END}
use Rattle.partition_map.proofs.BoolLemmas.{same-answer}
use Rattle.partition_map.proofs.NumberLemmas.{has-parts_met, has-range_with_len}
use Rattle.partition_map.proofs.PartitionLemmas.{start_of-next}
use Rattle.partition_map.proofs.SourceLemmas.{le-tick_at_least, tick_at_least-le}
use Rattle.desc_types.specs.declared.table.Key.{Key}
use Rattle.view_meaning.specs.Partitions.{key_of}
use Rattle.view_meaning.proofs.ListLemmas.{list_any-map}
use Rattle.depot_marks.specs.Runs.{run_of}

-- a test that finds a number in a list finds one in a list that has all its numbers
list_any-more : (test : ℕ → Bool) (xs ys : List ℕ)
    → ((number : ℕ) → has xs number ≡ has ys number)
    → list_any test xs ≡ true → list_any test ys ≡ true
list_any-more test xs ys same passes =
    let found = Any-from_list_any test xs passes in
    let number = found.1 in
    let own : has xs number ≡ true =
    list_any_at (nat_eq number) xs found.0 number found.2
    (rw found.3 (eq-eqb number number refl)) in
    let there = Any-from_list_any (nat_eq number) ys (sym (same number) ∙ own) in
    list_any_at test ys there.0 there.1 there.2
    (rw (there.3, ← eqb-true number there.1 there.4) found.4)

-- a test finds a number alike in two lists that have the same ones
pub list_any-same : (test : ℕ → Bool) (xs ys : List ℕ)
    → ((number : ℕ) → has xs number ≡ has ys number) → list_any test xs ≡ list_any test ys
list_any-same test xs ys same =
    same-answer (list_any test xs) (list_any test ys) (list_any-more test xs ys same)
    (list_any-more test ys xs (λ number. sym (same number)))

-- two runs of numbers that overlap or touch have the numbers of one
has-joined : (first end next last number : ℕ) → next ≤ end → first ≤ last
    → has (range_with_len (min first next) (max end last - min first next)) number
    ≡ (has (range_with_len first (end - first)) number
    || has (range_with_len next (last - next)) number)
has-joined first end next last number touches also =
    rw (
      has-range_with_len (min first next) (max end last - min first next) number,
      has-range_with_len first (end - first) number,
      has-range_with_len next (last - next) number,
    )
    (same-answer _ _ (grind (arith, nat_tests)) (grind (arith, nat_tests)))

-- so two runs of partitions have those of one
pub list_any-joined : (test : Key → Bool) (table first end next last : ℕ)
    → next ≤ end → first ≤ last
    → list_any test (run_of table (min first next) (max end last - min first next))
    ≡ (list_any test (run_of table first (end - first))
    || list_any test (run_of table next (last - next)))
list_any-joined test table first end next last touches also =
    let part_test : ℕ → Bool = λ part. test (key_of table part) in
    let both = range_with_len (min first next) (max end last - min first next) in
    let one = range_with_len first (end - first) in
    let other = range_with_len next (last - next) in
    rw (
      list_any-map test (key_of table) both,
      list_any-map test (key_of table) one,
      list_any-map test (key_of table) other,
    )
    (list_any-same part_test both (one ++ other)
    (λ number. has-joined first end next last number touches also
    ∙ sym (list_any-append (nat_eq number) one other))
    ∙ list_any-append part_test one other)

-- the tick at a whole number is no later than that at a greater one
tick_at_least-rises : (less more : ℤ) → less ≤ℤ more → tick_at_least less ≤ tick_at_least more
tick_at_least-rises less more at_most =
    let reach = le-tick_at_least more (tick_at_least more) (omega arith) in
    tick_at_least-le less (tick_at_least more) (omega (arith, ints, at_most, reach))

-- what shares a tick with a span shares one with its first part or with its last, if these overlap
-- or touch, or the last has no ticks
lt-joined : (start finish from to next end : ℕ) → from ≤ next → to ≤ end → min next end ≤ to
    → nat_lt (max start from) (min finish end)
    ≡ (nat_lt (max start from) (min finish to) || nat_lt (max start next) (min finish end))
lt-joined start finish from to next end rises also touches =
    same-answer _ _ (grind (arith, nat_tests)) (grind (arith, nat_tests))

-- the first tick that a view's partition reads of a source
abbrev begin_at : (width : ℕ) → Span → ℕ → ℕ
begin_at width span part = tick_at_least (pos (part * width) +ℤ span.lo)

-- the tick after the last one that the partition before this one reads
abbrev end_at : (width : ℕ) → Span → ℕ → ℕ
end_at width span part = min END (tick_at_least (pos (part * width) +ℤ span.hi))

-- later partitions read later ticks
begin_at-rises : (width : ℕ) (span : Span) (part : ℕ)
    → begin_at width span part ≤ begin_at width span (part + 1)
begin_at-rises width span part =
    let next = start_of-next width part in
    tick_at_least-rises (pos (part * width) +ℤ span.lo) (pos ((part + 1) * width) +ℤ span.lo)
    (omega (arith, ints, next))

-- up to a later end
end_at-rises : (width : ℕ) (span : Span) (part end : ℕ) → part ≤ end
    → end_at width span part ≤ end_at width span end
end_at-rises width span part end rises =
    let later : part * width ≤ end * width = mul-le-mul_right width rises in
    let ticks = tick_at_least-rises (pos (part * width) +ℤ span.hi) (pos (end * width) +ℤ span.hi)
    (omega (arith, ints, later)) in
    omega (arith, ticks)

-- no ticks are left out between a partition's and those of the next
begin_at-touches : (width : ℕ) (span : Span) (part end : ℕ) → span.lo ≤ℤ span.hi
    → min (begin_at width span part) (end_at width span end) ≤ end_at width span part
begin_at-touches width span part end no_gaps =
    let ticks = tick_at_least-rises (pos (part * width) +ℤ span.lo) (pos (part * width) +ℤ span.hi)
    (omega (arith, ints, no_gaps)) in
    omega (arith, ticks)

-- what shares a tick with the span of a run is read by its first partition, or shares one with the
-- span of the others
is_met-window : (width source_width : ℕ) (span : Span) (source part end : ℕ)
    → span.lo ≤ℤ span.hi → part + 1 ≤ end
    → is_met source_width (begin_at width span part) (end_at width span end) source
    ≡ (has (source_parts width source_width span part) source
    || is_met source_width (begin_at width span (part + 1)) (end_at width span end) source)
is_met-window width source_width span source part end no_gaps more =
    let from = begin_at width span part in
    let to = end_at width span (part + 1) in
    let next = begin_at width span (part + 1) in
    lt-joined (start_of source_width source) (end_of source_width source) from to next
    (end_at width span end) (begin_at-rises width span part)
    (end_at-rises width span (part + 1) end more)
    (begin_at-touches width span (part + 1) end no_gaps)
    ∙ ap (λ (own : Bool). own || is_met source_width next (end_at width span end) source)
    (sym (has-parts_met source_width from to source))

-- so it is read by one of the run's partitions
has-windows : (width source_width : ℕ) (span : Span) (source first count end : ℕ)
    → span.lo ≤ℤ span.hi → first + suc count ≡ end
    → is_met source_width (begin_at width span first) (end_at width span end) source
    ≡ list_any (λ part. has (source_parts width source_width span part) source)
    (range_with_len first (suc count))
has-windows width source_width span source first zero end no_gaps ends =
    let next : end ≡ first + 1 = omega arith in
    let own = has (source_parts width source_width span first) source in
    rw next
    (sym (has-parts_met source_width (begin_at width span first) (end_at width span (first + 1))
    source) ∙ sym (or-false own))
has-windows width source_width span source first (suc count) end no_gaps ends =
    is_met-window width source_width span source first end no_gaps (omega arith)
    ∙ ap (λ (others : Bool). has (source_parts width source_width span first) source || others)
    (has-windows width source_width span source (first + 1) count end no_gaps (omega arith))

-- a span that begins no earlier than it ends may as well begin where it ends
is_met-min : (width from to part : ℕ)
    → is_met width (min from to) to part ≡ is_met width from to part
is_met-min width from to part =
    let begin = start_of width part in
    let end = end_of width part in
    same-answer (nat_lt (max begin (min from to)) (min end to))
    (nat_lt (max begin from) (min end to)) (grind (arith, nat_tests)) (grind (arith, nat_tests))

-- the partitions that share a tick with the span of a run are those that the run reads
pub has-sources_of_run : (width source_width : ℕ) (span : Span) (parts : Parts)
    (from to first count source : ℕ) → 0 < parts.count → span.lo ≤ℤ span.hi
    → from ≡ begin_at width span parts.first → to ≡ end_at width span (parts.first + parts.count)
    → parts_met source_width (min from to) to ≡ range_with_len first count
    → has (range_with_len first count) source
    ≡ list_any (λ part. has (source_parts width source_width span part) source)
    (range_with_len parts.first parts.count)
has-sources_of_run width source_width span parts from to first count source some no_gaps is_from
    is_to exact =
    let more : parts.count ≡ suc (parts.count - 1) = omega (arith, some) in
    ap (λ (met : List ℕ). has met source) (sym exact)
    ∙ has-parts_met source_width (min from to) to source ∙ is_met-min source_width from to source
    ∙ ap (λ (tick : ℕ). is_met source_width tick to source) is_from
    ∙ ap (λ (tick : ℕ). is_met source_width (begin_at width span parts.first) tick source) is_to
    ∙ has-windows width source_width span source parts.first (parts.count - 1)
    (parts.first + parts.count) no_gaps (omega (arith, more))
    ∙ ap (λ (many : ℕ). list_any (λ part. has (source_parts width source_width span part) source)
    (range_with_len parts.first many)) (sym more)
