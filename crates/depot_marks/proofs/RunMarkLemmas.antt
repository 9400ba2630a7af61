-- The least mark of a run of partitions is told by the last of them, and by what is missed of any.
use Rattle.std.proofs.Common.{◌≡◌, ◌∙◌, ℕ, ◌+◌, ◌-◌, ◌*◌, ◌≤◌, map, get_or, refl}
use Rattle.std.proofs.Common.{sym, ap, arith}
use Rattle.std.specs.Prelude.{All, Bool, true, false, not, ◌&&◌, Option, Some, None, IsSomeAnd}
use Rattle.std.specs.Prelude.{nat_le, if◌then◌else◌}
use Rattle.std.specs.BTreeMap.{is_at}
use Rattle.std.specs.List.{list_all, list_any, range_with_len}
use Rattle.std.specs.Map.{lookup}
use Rattle.std.specs.List.Sorted.{IsNonDecreasingBy}
use Rattle.std.proofs.Math.Nat.{mul-le-mul_right}
use Rattle.std.proofs.lemmas.Bool.{and_from, and_parts, not-true, not_from_false}
use Rattle.std.proofs.lemmas.List.Folds.{list_any_none}
use Rattle.std.proofs.lemmas.List.FromFn.{get_or-map-range_with_len, length-map-range_with_len}
use Rattle.std.proofs.lemmas.List.Sums.{AllPass-from_list_all, list_all-from_AllPass}
use Rattle.partition_map.specs.Partitions.{end_of}
use Rattle.partition_map.proofs.BoolLemmas.{same-answer}
use Rattle.desc_types.specs.declared.table.Key.{Key}
use Rattle.desc_types.specs.Keys.{key_cmp}
use Rattle.desc_types.proofs.ListLemmas.{list_any-none}
use Rattle.view_meaning.specs.declared.request.Mark.TheVariants as mark
use Rattle.view_meaning.specs.Marks.{least}
use Rattle.view_meaning.specs.Partitions.{key_of}
use Rattle.view_meaning.specs.Ranks.{rank_of}
use Rattle.depot_marks.specs.declared.feed.FeedMarks.{FeedMarks}
use Rattle.depot_marks.specs.Closings.{greatest_at, greatest_of}
use Rattle.depot_marks.specs.FeedMarks.{mark_if, part_mark}
use Rattle.depot_marks.specs.Missed.{is_found_in, is_missed_when, is_missed_to}
use Rattle.depot_marks.specs.Numbers.{is_accepted}
use Rattle.depot_marks.specs.Runs.{run_of}
use Rattle.depot_marks.proofs.ClosingLemmas.{greatest_at-le}
use Rattle.depot_marks.proofs.LeastLemmas.{least-closed, least-open}
use Rattle.depot_marks.proofs.NumberLemmas.{list_all-lesser}
use Rattle.depot_marks.proofs.RunLemmas.{All-run_of, run_of-All}

-- the greatest number that was expected of a partition of a table of this width
abbrev expected : FeedMarks → (width : ℕ) → Key → Option ℕ
expected marks width key = greatest_at marks.closings.items (end_of width key.part)

-- whether all numbers up to one were accepted
abbrev has_all : FeedMarks → (last : ℕ) → Bool
has_all marks last = list_all (is_accepted marks.numbers) (range_with_len 0 (last + 1))

-- whether something is missed of a partition
abbrev misses : FeedMarks → (width : ℕ) → Key → Bool
misses marks width key = is_missed_when marks.missed marks.closings.items width key

-- whether a partition's mark is at least so far
abbrev reaches : FeedMarks → (width rank : ℕ) → Key → Bool
reaches marks width rank key = nat_le rank (rank_of (part_mark marks width key))

-- a partition ends no later than one after it
end_of-le : (width part later : ℕ) → part ≤ later → end_of width part ≤ end_of width later
end_of-le width part later before =
    let starts : part * width ≤ later * width = mul-le-mul_right width before in
    omega arith

-- of a partition of a run no more was expected than of the last one
expected-le : (marks : FeedMarks) (width table first count part last : ℕ)
    → IsNonDecreasingBy greatest_of marks.closings.items → part + 1 ≡ first + count
    → expected marks width (key_of table part) ≡ Some last
    → All (λ key. IsSomeAnd (expected marks width key) (λ number. number ≤ last))
    (run_of table first count)
expected-le marks width table first count part last rises ends found =
    run_of-All (λ key. IsSomeAnd (expected marks width key) (λ number. number ≤ last)) table first
    count (λ earlier _ below.
    greatest_at-le (end_of width earlier) (end_of width part) last marks.closings.items rises
    (end_of-le width earlier part (omega arith)) found)

-- a partition of which deliveries were expected up to a number is closed
mark_if-closed : (marks : FeedMarks) (key : Key) (last : ℕ) (found : Option ℕ)
    → IsSomeAnd found (λ number. number ≤ last)
    → nat_le 1 (rank_of (mark_if marks key found)) ≡ true
mark_if-closed marks key last None some = absurd some
mark_if-closed marks key last (Some number) some =
    at_test (has_all marks number && not (is_missed_to marks.missed key number))
  where
    at_test : (test : Bool)
        → nat_le 1 (rank_of (if test then mark.Complete else mark.Closed)) ≡ true
    at_test true = refl
    at_test false = refl

-- it is complete exactly if all of these were accepted and nothing is missed
mark_if-complete : (marks : FeedMarks) (key : Key) (number : ℕ)
    → nat_le 2 (rank_of (mark_if marks key (Some number)))
    ≡ (has_all marks number && not (is_missed_to marks.missed key number))
mark_if-complete marks key number =
    at_test (has_all marks number && not (is_missed_to marks.missed key number))
  where
    at_test : (test : Bool)
        → nat_le 2 (rank_of (if test then mark.Complete else mark.Closed)) ≡ test
    at_test true = refl
    at_test false = refl

-- nothing is missed of a partition that is complete
is_found_in-complete : (marks : FeedMarks) (key : Key) (found : Option ℕ)
    → nat_le 2 (rank_of (mark_if marks key found)) ≡ true
    → is_found_in (lookup (is_at (key_cmp key)) marks.missed) found ≡ false
is_found_in-complete marks key None complete = refl
is_found_in-complete marks key (Some number) complete =
    let missed = is_missed_to marks.missed key number in
    not-true missed
    (and_parts (has_all marks number) (not missed)
    (sym (mark_if-complete marks key number) ∙ complete)).1

-- if nothing is, and all up to a number were accepted, it is complete
mark_if-all : (marks : FeedMarks) (key : Key) (last : ℕ) (found : Option ℕ)
    → IsSomeAnd found (λ number. number ≤ last) → has_all marks last ≡ true
    → is_found_in (lookup (is_at (key_cmp key)) marks.missed) found ≡ false
    → nat_le 2 (rank_of (mark_if marks key found)) ≡ true
mark_if-all marks key last None some all none = absurd some
mark_if-all marks key last (Some number) some all none =
    let missed = is_missed_to marks.missed key number in
    mark_if-complete marks key number
    ∙ and_from (has_all marks number) (not missed)
    (list_all-lesser marks.numbers number last some all) (not_from_false missed none)

-- a run of partitions of a table of this width, of which the last one is closed, and deliveries up
-- to a number were expected of that one
pub record IsClosedRun (marks : FeedMarks) (width table first count part last : ℕ) : Type 0 where
  pub rises : IsNonDecreasingBy greatest_of marks.closings.items
  pub begins : first ≤ part
  pub ends : part + 1 ≡ first + count
  pub found : greatest_at marks.closings.items (end_of width part) ≡ Some last

-- all of them are complete only if all up to that number were accepted and nothing is missed
has_all-run : (marks : FeedMarks) (width table first count part last : ℕ)
    → IsClosedRun marks width table first count part last
    → list_all (reaches marks width 2) (run_of table first count) ≡ true
    → (has_all marks last && not (list_any (misses marks width) (run_of table first count))) ≡ true
has_all-run marks width table first count part last closed all =
    let run = run_of table first count in
    let each = AllPass-from_list_all (reaches marks width 2) run all in
    let own = All-run_of (λ key. reaches marks width 2 key ≡ true) table first count part each
    closed.begins (omega (arith, closed.ends)) in
    let missed = is_missed_to marks.missed (key_of table part) last in
    and_from (has_all marks last) (not (list_any (misses marks width) run))
    (and_parts (has_all marks last) (not missed)
    (sym (mark_if-complete marks (key_of table part) last) ∙ rw closed.found at own)).0
    (not_from_false (list_any (misses marks width) run)
    (list_any_none (misses marks width) run (λ index default within.
    is_found_in-complete marks (get_or run index default)
    (expected marks width (get_or run index default)) (each index default within))))

-- and they are if so
list_all-run : (marks : FeedMarks) (width table first count part last : ℕ)
    → IsClosedRun marks width table first count part last
    → (has_all marks last && not (list_any (misses marks width) (run_of table first count))) ≡ true
    → list_all (reaches marks width 2) (run_of table first count) ≡ true
list_all-run marks width table first count part last closed both =
    let run = run_of table first count in
    let parts = and_parts (has_all marks last) (not (list_any (misses marks width) run)) both in
    let none = list_any-none (misses marks width) run
    (not-true (list_any (misses marks width) run) parts.1) in
    let upto = expected-le marks width table first count part last closed.rises closed.ends
    closed.found in
    list_all-from_AllPass (reaches marks width 2) run (λ index default within.
    mark_if-all marks (get_or run index default) last
    (expected marks width (get_or run index default)) (upto index default within) parts.0
    (none index default within))

-- so the least mark is told by that number and by what is missed
pub least-closed_run : (marks : FeedMarks) (width table first count part last : ℕ)
    → IsClosedRun marks width table first count part last
    → least (map (part_mark marks width) (run_of table first count))
    ≡ (if has_all marks last && not (list_any (misses marks width) (run_of table first count))
    then mark.Complete else mark.Closed)
least-closed_run marks width table first count part last closed =
    let run = run_of table first count in
    let upto = expected-le marks width table first count part last closed.rises closed.ends
    closed.found in
    least-closed (part_mark marks width) run
    (λ index default within. mark_if-closed marks (get_or run index default) last
    (expected marks width (get_or run index default)) (upto index default within))
    ∙ ap (λ (complete : Bool). if complete then mark.Complete else mark.Closed)
    (same-answer (list_all (reaches marks width 2) run)
    (has_all marks last && not (list_any (misses marks width) run))
    (has_all-run marks width table first count part last closed)
    (list_all-run marks width table first count part last closed))

-- if the last one is open, so is the least mark
pub least-open_run : (marks : FeedMarks) (width table first count part : ℕ) → first ≤ part
    → part + 1 ≡ first + count → greatest_at marks.closings.items (end_of width part) ≡ None
    → least (map (part_mark marks width) (run_of table first count)) ≡ mark.Open
least-open_run marks width table first count part begins ends none =
    let run = run_of table first count in
    let here : get_or run (part - first) (key_of table 0) ≡ key_of table part =
    get_or-map-range_with_len (key_of table) first count (part - first) part (key_of table 0)
    (omega arith) (omega arith) in
    least-open (part_mark marks width) run (part - first) (key_of table 0)
    (omega (arith, length-map-range_with_len (key_of table) first count)) (rw (here, none) refl)
