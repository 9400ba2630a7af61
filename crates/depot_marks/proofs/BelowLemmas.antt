-- Runs of partitions that wait to be looked at, and what a run reads of its sources.
use Rattle.std.proofs.Common.{◌≡◌, ◌∙◌, ℕ, ◌+◌, ◌-◌, List, [], ◌∷◌, ◌++◌, map, refl, sym, ap}
use Rattle.std.proofs.Common.{arith, get_or, subst, ◌<◌, ◌≤◌}
use Rattle.std.specs.Prelude.{Bool, true, false, ◌||◌, All, flat_map, max, min, nat_eq}
use Rattle.std.specs.List.{list_any, range_with_len}
use Rattle.std.specs.BTreeSet.{insert_key}
use Rattle.std.specs.Ordering.{is_eq, match_ordering, nat_cmp, ordering_then}
use Rattle.std.specs.declared.cmp.Ordering.{Ordering}
use Rattle.std.specs.declared.cmp.Ordering.TheVariants.{Less, Equal, Greater}
use Rattle.std.proofs.lemmas.Bool.{and_parts, eqb-true, ltb-true}
use Rattle.std.proofs.lemmas.List.{append-nil}
use Rattle.std.proofs.lemmas.List.Concat.{flat_map-append}
use Rattle.std.proofs.lemmas.List.Folds.{list_any-append}
use Rattle.std.proofs.lemmas.List.FromFn.{get_or-map-range_with_len, length-map-range_with_len}
use Rattle.std.proofs.Math.Bool.{or-false, or_assoc, or_comm}
use Rattle.std.proofs.Math.Nat.{le-mul_of_pos_right}
use Rattle.desc_types.specs.declared.table.Key.{Key}
use Rattle.desc_types.specs.declared.view.Src.{Src}
use Rattle.desc_types.specs.Descriptions.{DescOf}
use Rattle.desc_types.specs.Sources.{table_width}
use Rattle.partition_map.specs.declared.parts.Parts.{Parts}
use Rattle.partition_map.specs.Partitions.{end_of, has, is_met, source_parts, start_of}
use Rattle.partition_map.specs.Time.{END}
use Rattle.partition_map.proofs.ListLemmas.{range_with_len-append}
use Rattle.view_meaning.specs.Partitions.{is_part, key_of, keys_read}
use Rattle.view_meaning.proofs.ListLemmas.{flat_map-none, list_any-agree}
use Rattle.view_meaning.proofs.ListLemmas.{list_any-flat_map, list_any-map}
use Rattle.depot_marks.specs.declared.below.WaitingRun.{WaitingRun}
use Rattle.depot_marks.specs.Below.{keys_of_waiting, keys_read_by, keys_waiting}
use Rattle.depot_marks.specs.Runs.{run_of}
use Rattle.depot_marks.specs.Windows.{BeginsInTime}
use Rattle.depot_marks.proofs.KeyLemmas.{is_eq-nat_cmp, is_eq-ordering_then}
use Rattle.depot_marks.proofs.WindowLemmas.{list_any-same}

-- runs that wait go by their tables, then by their first partitions, then by their ends
abbrev pub waiting_cmp : WaitingRun → WaitingRun → Ordering
waiting_cmp run other = ordering_then (nat_cmp run.table other.table)
    (ordering_then (nat_cmp run.first other.first) (nat_cmp run.end other.end))

-- numbers that compare as equal are the same
nat_cmp-same : (number other : ℕ) → is_eq (nat_cmp number other) ≡ true → number ≡ other
nat_cmp-same number other equal =
    eqb-true number other (sym (is_eq-nat_cmp number other) ∙ equal)

-- so are runs
waiting_cmp-same : (run other : WaitingRun) → is_eq (waiting_cmp run other) ≡ true → run ≡ other
waiting_cmp-same run other equal =
    let rest = ordering_then (nat_cmp run.first other.first) (nat_cmp run.end other.end) in
    let parts = and_parts (is_eq (nat_cmp run.table other.table)) (is_eq rest)
    (sym (is_eq-ordering_then (nat_cmp run.table other.table) rest) ∙ equal) in
    let ends = and_parts (is_eq (nat_cmp run.first other.first)) (is_eq (nat_cmp run.end other.end))
    (sym (is_eq-ordering_then (nat_cmp run.first other.first) (nat_cmp run.end other.end))
    ∙ parts.1) in
    let table = nat_cmp-same run.table other.table parts.0 in
    let first = nat_cmp-same run.first other.first ends.0 in
    let end = nat_cmp-same run.end other.end ends.1 in
    λ i. record { table = table i; first = first i; end = end i }

-- a test holds of one item more, or of one that was there
list_any-insert_key : {X : Type 0} (cmp : X → X → Ordering)
    → ((x y : X) → is_eq (cmp x y) ≡ true → x ≡ y) → (test : X → Bool) (xs : List X) (x : X)
    → list_any test (insert_key cmp xs x) ≡ (list_any test xs || test x)
list_any-insert_key cmp same test [] x = or-false (test x)
list_any-insert_key cmp same test (first ∷ later) x =
    at_first (cmp x first) refl (list_any-insert_key cmp same test later x)
  where
    twice : (one rest : Bool) → (one || rest) ≡ ((one || rest) || one)
    twice true rest = refl
    twice false true = refl
    twice false false = refl

    at_first : (order : Ordering) → cmp x first ≡ order
        → list_any test (insert_key cmp later x) ≡ (list_any test later || test x)
        → list_any test (match_ordering order (x ∷ first ∷ later) (first ∷ later)
        (first ∷ insert_key cmp later x))
        ≡ ((test first || list_any test later) || test x)
    at_first Less is rest = or_comm (test x) (test first || list_any test later)
    at_first Equal is rest =
        rw (same x first (ap is_eq is)) (twice (test first) (list_any test later))
    at_first Greater is rest =
        ap (λ (others : Bool). test first || others) rest
        ∙ sym (or_assoc (test first) (list_any test later) (test x))

-- a run that was put among others waits beside them
pub list_any-put : (test : Key → Bool) (runs : List WaitingRun) (table first count end : ℕ)
    → first + count ≡ end
    → list_any test (keys_waiting (insert_key waiting_cmp runs
    (record { table = table; first = first; end = end })))
    ≡ (list_any test (keys_waiting runs) || list_any test (run_of table first count))
list_any-put test runs table first count end ends =
    let run : WaitingRun = record { table = table; first = first; end = end } in
    let in_run : WaitingRun → Bool = λ run. list_any test (keys_of_waiting run) in
    let same : end - first ≡ count = omega arith in
    list_any-flat_map test keys_of_waiting (insert_key waiting_cmp runs run)
    ∙ list_any-insert_key waiting_cmp waiting_cmp-same in_run runs run
    ∙ ap (λ (before : Bool). before || in_run run)
    (sym (list_any-flat_map test keys_of_waiting runs))
    ∙ ap (λ (many : ℕ). list_any test (keys_waiting runs)
    || list_any test (run_of table first many)) same

-- what the partitions of a run read, with one partition more
pub list_any-read_more : (test : Key → Bool) (was now new : Bool) (reads : ℕ → List Key)
    (first count part : ℕ) → first + count ≡ part
    → now ≡ (was || list_any test (flat_map reads (range_with_len first count)))
    → new ≡ (now || list_any test (reads part))
    → new ≡ (was || list_any test (flat_map reads (range_with_len first (count + 1))))
list_any-read_more test was now new reads first count part next before one =
    let run = range_with_len first count in
    let found = list_any test (flat_map reads run) in
    let more : list_any test (flat_map reads (range_with_len first (count + 1)))
    ≡ (found || list_any test (reads part)) =
    ap (λ (parts : List ℕ). list_any test (flat_map reads parts))
    (range_with_len-append first count 1 part next)
    ∙ ap (list_any test) (flat_map-append reads run (part ∷ []))
    ∙ list_any-append test (flat_map reads run) (reads part ++ [])
    ∙ ap (λ (keys : List Key). found || list_any test keys) (append-nil (reads part)) in
    rw (one, before, more) (or_assoc was found (list_any test (reads part)))

-- a run of a source that a view's partition reads is all that it reads of it
pub keys_read-run : (desc : DescOf) (width part : ℕ) (src : Src) (first count : ℕ)
    → source_parts width (table_width desc src.table) src.span part ≡ range_with_len first count
    → run_of src.table first count ≡ flat_map (keys_read desc width part) (src ∷ [])
keys_read-run desc width part src first count same =
    ap (λ (parts : List ℕ). map (key_of src.table) parts) (sym same)
    ∙ sym (append-nil (keys_read desc width part src))

-- what partitions read of a source, by number
list_any-sources : (desc : DescOf) (width : ℕ) (src : Src) (parts : Parts) (test : Key → Bool)
    → list_any (λ source. test (key_of src.table source)) (flat_map
    (source_parts width (table_width desc src.table) src.span)
    (range_with_len parts.first parts.count))
    ≡ list_any test (keys_read_by desc width parts (src ∷ []))
list_any-sources desc width src parts test =
    let part_test : ℕ → Bool = λ source. test (key_of src.table source) in
    let sources = source_parts width (table_width desc src.table) src.span in
    let reads : ℕ → List Key = λ part. flat_map (keys_read desc width part) (src ∷ []) in
    let run = range_with_len parts.first parts.count in
    list_any-flat_map part_test sources run
    ∙ list_any-agree (λ part. list_any part_test (sources part))
    (λ part. list_any test (reads part)) run (λ index default _.
    let part = get_or run index default in
    sym (ap (list_any test) (append-nil (keys_read desc width part src))
    ∙ list_any-map test (key_of src.table) (sources part)))
    ∙ sym (list_any-flat_map test reads run)

-- a run of a source that a run of a view's partitions reads is all that they read of it
pub list_any-run_read : (desc : DescOf) (width : ℕ) (src : Src) (parts : Parts) (first count : ℕ)
    (test : Key → Bool)
    → ((source : ℕ) → has (range_with_len first count) source ≡ list_any (λ part.
    has (source_parts width (table_width desc src.table) src.span part) source)
    (range_with_len parts.first parts.count))
    → list_any test (run_of src.table first count)
    ≡ list_any test (keys_read_by desc width parts (src ∷ []))
list_any-run_read desc width src parts first count test same =
    let sources = source_parts width (table_width desc src.table) src.span in
    let run = range_with_len parts.first parts.count in
    list_any-map test (key_of src.table) (range_with_len first count)
    ∙ list_any-same (λ source. test (key_of src.table source)) (range_with_len first count)
    (flat_map sources run)
    (λ source. same source ∙ sym (list_any-flat_map (nat_eq source) sources run))
    ∙ list_any-sources desc width src parts test

-- of no sources partitions read nothing
pub list_any-none_read : (desc : DescOf) (width : ℕ) (parts : Parts) (test : Key → Bool)
    (was : Bool) → was ≡ (was || list_any test (keys_read_by desc width parts []))
list_any-none_read desc width parts test was =
    sym (ap (λ (keys : List Key). was || list_any test keys)
    (flat_map-none (λ part. []) (range_with_len parts.first parts.count) (λ part. refl))
    ∙ or-false was)

-- of four tests it makes no difference which are asked first
or-crossed : (first second third fourth : Bool)
    → ((first || second) || (third || fourth)) ≡ ((first || third) || (second || fourth))
or-crossed true second third fourth = refl
or-crossed false true true fourth = refl
or-crossed false true false fourth = refl
or-crossed false false third fourth = refl

-- what partitions read in two ways is what they read in either
list_any-either : (test : Key → Bool) (one other : ℕ → List Key) (parts : List ℕ)
    → list_any test (flat_map (λ part. one part ++ other part) parts)
    ≡ (list_any test (flat_map (λ part. one part ++ []) parts)
    || list_any test (flat_map other parts))
list_any-either test one other [] = refl
list_any-either test one other (part ∷ parts) =
    let own = flat_map (λ part. one part ++ []) parts in
    rw (
      append-nil (one part),
      list_any-append test (one part ++ other part)
          (flat_map (λ part. one part ++ other part) parts),
      list_any-append test (one part) (other part),
      list_any-append test (one part) own,
      list_any-append test (other part) (flat_map other parts),
      list_any-either test one other parts,
    )
    (or-crossed (list_any test (one part)) (list_any test (other part)) (list_any test own)
    (list_any test (flat_map other parts)))

-- what waits, after the sources of both sides of a join were put there
pub list_any-both : (desc : DescOf) (width : ℕ) (parts : Parts) (left right : Src)
    (test : Key → Bool) (was now new : Bool)
    → now ≡ (was || list_any test (keys_read_by desc width parts (left ∷ [])))
    → new ≡ (now || list_any test (keys_read_by desc width parts (right ∷ [])))
    → new ≡ (was || list_any test (keys_read_by desc width parts (left ∷ right ∷ [])))
list_any-both desc width parts left right test was now new one other =
    let found = list_any test (keys_read_by desc width parts (left ∷ [])) in
    let also = list_any test (keys_read_by desc width parts (right ∷ [])) in
    other ∙ ap (λ (before : Bool). before || also) one ∙ or_assoc was found also
    ∙ ap (λ (either : Bool). was || either) (sym (list_any-either test
    (λ part. keys_read desc width part left)
    (λ part. flat_map (keys_read desc width part) (right ∷ []))
    (range_with_len parts.first parts.count)))

-- what is true of each key of a run is true of its partitions by number
pub All-run_of : (P : Key → Type 0) (table first count index : ℕ) → index < count
    → All P (run_of table first count) → P (key_of table (first + index))
All-run_of P table first count index within all =
    let default = key_of table 0 in
    subst P
    (get_or-map-range_with_len (key_of table) first count index (first + index) default within refl)
    (all index default (omega (arith, length-map-range_with_len (key_of table) first count)))

-- a partition of a width begins in time
met-begins : (width part : ℕ) → is_met width 0 END part ≡ true → start_of width part < END
met-begins width part met =
    omega (arith, ltb-true (max (start_of width part) 0) (min (end_of width part) END) met)

-- its number is in time too
pub met-within : (width part : ℕ) → is_met width 0 END part ≡ true → part < END
met-within width part met =
    let shared = ltb-true (max (start_of width part) 0) (min (end_of width part) END) met in
    let some : 0 < width = omega arith in
    let at_most : part ≤ start_of width part = le-mul_of_pos_right part some in
    omega (arith, shared, at_most)

-- a run of partitions begins in time
pub BeginsInTime-run : (desc : DescOf) (table first count : ℕ) → 0 < count
    → All (λ key. is_part desc key ≡ true) (run_of table first count)
    → BeginsInTime (table_width desc table) (record { first = first; count = count })
BeginsInTime-run desc table first count some parts =
    let width = table_width desc table in
    let same : first + (count - 1) ≡ first + count - 1 = omega (arith, some) in
    let met : is_met width 0 END (first + count - 1) ≡ true =
    subst (λ (part : ℕ). is_met width 0 END part ≡ true) same
    (All-run_of (λ key. is_part desc key ≡ true) table first count (count - 1)
    (omega (arith, some)) parts) in
    record {
      some = some;
      last = met-begins width (first + count - 1) met;
      within = omega (arith, some, met-within width (first + count - 1) met);
    }
