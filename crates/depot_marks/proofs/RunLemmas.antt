-- Runs of partitions: which keys they have, and what a map has for these.
use Rattle.std.proofs.Common.{◌≡◌, ◌∙◌, ℕ, zero, suc, ◌+◌, ◌<◌, ◌≤◌, List, [], ◌∷◌, ◌++◌, length}
use Rattle.std.proofs.Common.{◌-◌, ◌*◌, ◌^◌, sym, ap, subst, arith}
use Rattle.std.specs.Prelude.{Bool, true, false, ◌&&◌, ◌==◌, Option, Some, None, All, filter}
use Rattle.std.specs.Prelude.{max, min, nat_le, nat_lt}
use Rattle.std.specs.BTreeMap.{is_at}
use Rattle.std.specs.BTreeMap.Range.{range_contains}
use Rattle.std.specs.List.{list_any, range_with_len}
use Rattle.std.specs.Map.{lookup}
use Rattle.std.specs.declared.ops.Bound.TheVariants.{Included, Excluded}
use Rattle.std.proofs.lemmas.Bool.{false≢true, ltb-true}
use Rattle.std.proofs.lemmas.Bool.Decides.{nat_tests}
use Rattle.std.proofs.lemmas.List.Elements.{All-map, All-weaker, filter_passes}
use Rattle.std.proofs.lemmas.List.Folds.{Any-from_list_any, list_any-from_Any}
use Rattle.std.proofs.lemmas.List.{append-nil}
use Rattle.std.proofs.lemmas.List.FromFn.{get_or-map-range_with_len, length-map-range_with_len}
use Rattle.std.proofs.Math.Nat.{le-mul_of_pos_right}
use Rattle.std.proofs.lemmas.Grind.{flat_map-append}
use Rattle.std.proofs.lemmas.Map.Entries.{lookup-filter-keys}
use Rattle.std.proofs.lemmas.Map.Views.{Contains-from_lookup}
use Rattle.partition_map.specs.Partitions.{end_of, is_met, start_of}
use Rattle.partition_map.specs.Time.{END}
use Rattle.partition_map.proofs.BoolLemmas.{same-answer}
use Rattle.partition_map.proofs.ListLemmas.{All-range_with_len}
use Rattle.desc_types.specs.declared.table.Key.{Key}
use Rattle.desc_types.specs.Keys.{key_cmp}
use Rattle.view_meaning.specs.Partitions.{is_among, is_key, key_of}
use Rattle.view_meaning.proofs.AmongLemmas.{All-is_among, is_key-same}
use Rattle.depot_marks.specs.Runs.{IsInTime, IsPartOf, keys_in, keys_of_run, run_of}
use Rattle.depot_marks.specs.declared.run.Run.{Run}
use Rattle.depot_marks.proofs.KeyLemmas.{is_among-each, is_at-key_cmp}

-- what is true of each partition of a run is true of one
pub All-run_of : (P : Key → Type 0) (table first count part : ℕ) → All P (run_of table first count)
    → first ≤ part → part < first + count → P (key_of table part)
All-run_of P table first count part all from below =
    let long : length (run_of table first count) ≡ count =
    length-map-range_with_len (key_of table) first count in
    subst P
    (get_or-map-range_with_len (key_of table) first count (part - first) part (key_of table 0)
    (omega arith) (omega arith))
    (all (part - first) (key_of table 0) (omega (arith, long)))

-- and the other way
pub run_of-All : (P : Key → Type 0) (table first count : ℕ)
    → ((part : ℕ) → first ≤ part → part < first + count → P (key_of table part))
    → All P (run_of table first count)
run_of-All P table first count each =
    All-map P (key_of table) (range_with_len first count)
    (All-range_with_len (λ part. P (key_of table part)) first count each)

-- a key is one of a run if it is of the table and its number lies between the ends
pub is_among-run_of : (table first count : ℕ) (key : Key)
    → is_among (run_of table first count) key
    ≡ ((table == key.table) && (nat_le first key.part && nat_lt key.part (first + count)))
is_among-run_of table first zero key = grind (arith, nat_tests)
is_among-run_of table first (suc count) key =
    grind (arith, nat_tests, is_among-run_of table (first + 1) count key)

-- the keys from one of a table up to another are those of a run
pub range_contains-run : (table first count next : ℕ) → first + count ≡ next → (key : Key)
    → range_contains key_cmp (Included (key_of table first)) (Excluded (key_of table next)) key
    ≡ is_among (run_of table first count) key
range_contains-run table first count next ends key =
    grind (arith, nat_tests, is_among-run_of table first count key)

-- one run more adds its partitions
pub keys_in-push : (runs : List Run) (run : Run)
    → keys_in (runs ++ run ∷ []) ≡ keys_in runs ++ keys_of_run run
keys_in-push runs run =
    flat_map-append keys_of_run runs (run ∷ [])
    ∙ ap (λ (keys : List Key). keys_in runs ++ keys) (append-nil (keys_of_run run))

-- a partition begins in time
pub is_met-starts : (width part : ℕ) → is_met width 0 END part ≡ true → start_of width part < END
is_met-starts width part met =
    let shared = ltb-true (max (start_of width part) 0) (min (end_of width part) END) met in
    omega arith

-- and its number is below the end of time
pub is_met-below : (width part : ℕ) → is_met width 0 END part ≡ true → part < END
is_met-below width part met =
    let shared = ltb-true (max (start_of width part) 0) (min (end_of width part) END) met in
    let wide : part ≤ part * width = le-mul_of_pos_right part (omega arith) in
    omega arith

-- so are those of all partitions of a table
pub IsInTime-parts : (width : ℕ) (keys : List Key) → All (IsPartOf width) keys → All IsInTime keys
IsInTime-parts width keys parts =
    All-weaker (IsPartOf width) IsInTime (λ key met. is_met-below width key.part met) keys parts

-- a run of such partitions ends before numbers do
pub run_of-fits : (table first count : ℕ) → All IsInTime (run_of table first count)
    → first < 2 ^ 64 → first + count < 2 ^ 64
run_of-fits table first zero within fits = omega arith
run_of-fits table first (suc index) within fits =
    let last = All-run_of IsInTime table first (suc index) (first + index) within (omega arith)
    (omega arith) in
    omega (arith, last)

-- a test passes a key that it passes among others
list_any-among : (test : Key → Bool) (keys : List Key) (key : Key) → is_among keys key ≡ true
    → test key ≡ true → list_any test keys ≡ true
list_any-among test keys key among passes =
    let at = Any-from_list_any (is_key key) keys among in
    list_any-from_Any test keys (
      at.0,
      at.1,
      at.2,
      at.3,
      subst (λ (key : Key). test key ≡ true) (sym (is_key-same key at.1 at.4)) passes,
    )

-- the entries of a map at some keys
abbrev pub entries_at : {V : Type 0} → (keys : List Key) → List (Key × V) → List (Key × V)
entries_at keys entries = filter (λ entry. is_among keys entry.0) entries

-- what is true of each key is true of those of the entries
pub All-entries_at : {V : Type 0} (P : Key → Type 0) (keys : List Key) (entries : List (Key × V))
    → All P keys → All (λ entry. P entry.0) (entries_at keys entries)
All-entries_at {V} P keys entries all =
    All-weaker (λ (entry : Key × V). is_among keys entry.0 ≡ true) (λ (entry : Key × V). P entry.0)
    (λ entry among. All-is_among P keys entry.0 all among) (entries_at keys entries)
    (filter_passes (λ (entry : Key × V). is_among keys entry.0) entries)

-- a test of an entry at some keys is one of what is found at its key
list_any-entry : {V : Type 0} (its : Key → Option V → Bool) (keys : List Key)
    (entries : List (Key × V))
    → All (λ entry. lookup (is_at (key_cmp entry.0)) entries ≡ Some entry.1)
    (entries_at keys entries)
    → list_any (λ entry. its entry.0 (Some entry.1)) (entries_at keys entries) ≡ true
    → list_any (λ key. its key (lookup (is_at (key_cmp key)) entries)) keys ≡ true
list_any-entry {V} its keys entries found passes =
    let test : Key × V → Bool = λ entry. its entry.0 (Some entry.1) in
    let at = Any-from_list_any test (entries_at keys entries) passes in
    list_any-among (λ key. its key (lookup (is_at (key_cmp key)) entries)) keys at.1.0
    (subst (λ (entry : Key × V). is_among keys entry.0 ≡ true) at.3
    (filter_passes (λ (entry : Key × V). is_among keys entry.0) entries at.0 at.1 at.2))
    (rw (subst (λ (entry : Key × V). lookup (is_at (key_cmp entry.0)) entries ≡ Some entry.1) at.3
    (found at.0 at.1 at.2)) at.4)

-- what is found at one of some keys is an entry at these
lookup-entries_at : {V : Type 0} (keys : List Key) (entries : List (Key × V)) (key : Key)
    → is_among keys key ≡ true
    → lookup (is_at (key_cmp key)) (entries_at keys entries) ≡ lookup (is_at (key_cmp key)) entries
lookup-entries_at keys entries key among =
    lookup-filter-keys (is_at (key_cmp key)) (is_among keys) true
    (λ other same. subst (λ (key : Key). is_among keys key ≡ true)
    (is_key-same other key (sym (is_at-key_cmp key other) ∙ same)) among) entries

-- a test of what is found at a key is one of an entry
list_any-lookup : {V : Type 0} (its : Key → Option V → Bool) (entries : List (Key × V)) (key : Key)
    (value : V) → lookup (is_at (key_cmp key)) entries ≡ Some value
    → its key (Some value) ≡ true
    → list_any (λ entry. its entry.0 (Some entry.1)) entries ≡ true
list_any-lookup {V} its entries key value found passes =
    let at = Contains-from_lookup
    (λ (one other : Key) (same : is_at (key_cmp one) other ≡ true).
    is_key-same other one (sym (is_at-key_cmp one other) ∙ same))
    key value entries found in
    list_any-from_Any (λ (entry : Key × V). its entry.0 (Some entry.1)) entries
    (at.0, (key, value), at.1, at.2, passes)

-- a test of what is found at some keys is one of an entry at these
list_any-found : {V : Type 0} (its : Key → Option V → Bool) (keys : List Key)
    (entries : List (Key × V)) → ((key : Key) → its key None ≡ false)
    → list_any (λ key. its key (lookup (is_at (key_cmp key)) entries)) keys ≡ true
    → list_any (λ entry. its entry.0 (Some entry.1)) (entries_at keys entries) ≡ true
list_any-found {V} its keys entries none passes =
    let at = Any-from_list_any (λ key. its key (lookup (is_at (key_cmp key)) entries)) keys passes in
    let among : is_among keys at.1 ≡ true =
    subst (λ (key : Key). is_among keys key ≡ true) at.3 (is_among-each keys at.0 at.1 at.2) in
    each (lookup (is_at (key_cmp at.1)) entries) (lookup-entries_at keys entries at.1 among) at.4
  where
    each : {key : Key} (value : Option V)
        → lookup (is_at (key_cmp key)) (entries_at keys entries) ≡ value → its key value ≡ true
        → list_any (λ (entry : Key × V). its entry.0 (Some entry.1)) (entries_at keys entries)
        ≡ true
    each {key} None lost passes = absurd (false≢true (sym (none key) ∙ passes))
    each {key} (Some value) there passes =
        list_any-lookup its (entries_at keys entries) key value there passes

-- so it is the same as one of the entries at these
pub list_any-entries_at : {V : Type 0} (its : Key → Option V → Bool) (keys : List Key)
    (entries : List (Key × V)) → ((key : Key) → its key None ≡ false)
    → All (λ entry. lookup (is_at (key_cmp entry.0)) entries ≡ Some entry.1)
    (entries_at keys entries)
    → list_any (λ entry. its entry.0 (Some entry.1)) (entries_at keys entries)
    ≡ list_any (λ key. its key (lookup (is_at (key_cmp key)) entries)) keys
list_any-entries_at {V} its keys entries none found =
    same-answer
    (list_any (λ (entry : Key × V). its entry.0 (Some entry.1)) (entries_at keys entries))
    (list_any (λ key. its key (lookup (is_at (key_cmp key)) entries)) keys)
    (list_any-entry its keys entries found) (list_any-found its keys entries none)
