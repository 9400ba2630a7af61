-- What a search for raw partitions leads to, as it looks at one run of partitions and at more.
use Rattle.std.proofs.Common.{◌≡◌, ◌∙◌, ℕ, suc, ◌+◌, ◌-◌, ◌<◌, ◌≤◌, List, [], ◌∷◌, ◌++◌, get_or}
use Rattle.std.proofs.Common.{refl, sym, ap, arith}
use Rattle.std.specs.Prelude.{Bool, true, false, ◌||◌, All, flat_map, slice_get}
use Rattle.std.specs.Prelude.{if◌then◌else◌}
use Rattle.std.specs.List.{list_any, range_with_len}
use Rattle.std.specs.Ordering.{is_gt}
use Rattle.std.proofs.lemmas.Bool.Decides.{nat_tests}
use Rattle.std.proofs.lemmas.List.{get_or_append_left, length-append}
use Rattle.std.proofs.lemmas.List.Concat.{flat_map-append}
use Rattle.std.proofs.lemmas.List.Elements.{All-append, All-cons, All-map, All-nil}
use Rattle.std.proofs.lemmas.List.Elements.{All-tail, All-weaker}
use Rattle.std.proofs.lemmas.List.Folds.{list_any-append, list_any_none}
use Rattle.std.proofs.Math.Bool.{or-false, or_assoc, or_comm}
use Rattle.desc_types.specs.declared.table.Key.{Key}
use Rattle.desc_types.specs.Descriptions.{DescOf}
use Rattle.desc_types.specs.Sources.{HasEarlierSources}
use Rattle.view_meaning.specs.Partitions.{is_among, is_key, is_part, key_of}
use Rattle.view_meaning.specs.Partitions.{sources_of}
use Rattle.view_meaning.specs.RawBelow.{raw_below, raw_below_within}
use Rattle.view_meaning.specs.Versions.{is_raw}
use Rattle.view_meaning.proofs.AmongLemmas.{All-is_among}
use Rattle.view_meaning.proofs.KeyLemmas.{sources_of-parts}
use Rattle.view_meaning.proofs.ListLemmas.{All-flat_map, flat_map-agree, list_any-agree}
use Rattle.view_meaning.proofs.ListLemmas.{list_any-flat_map, list_any-map}
use Rattle.view_meaning.proofs.SourceLemmas.{sources_of-earlier, within-enough}
use Rattle.depot_marks.specs.declared.below.Search.{Search}
use Rattle.depot_marks.specs.declared.below.WaitingRun.{WaitingRun}
use Rattle.depot_marks.specs.declared.run.Run.{Run}
use Rattle.depot_marks.specs.Below.{IsSearchOf, LooksAt, Puts, WaitsBelow, is_below}
use Rattle.depot_marks.specs.Below.{keys_of_waiting, keys_waiting, leads_to}
use Rattle.depot_marks.specs.MarkBooks.{IsRawPart}
use Rattle.depot_marks.specs.Runs.{keys_in, keys_of_run, run_of}
use Rattle.depot_marks.proofs.BelowLemmas.{All-run_of, waiting_cmp}
use Rattle.depot_marks.proofs.KeyLemmas.{is_among-each}
use Rattle.depot_marks.proofs.RunLemmas.{keys_in-push}

-- within any two depths that are enough the same raw partitions are below
raw_below_within-enough : (desc : DescOf) → HasEarlierSources desc → (depth more : ℕ) (key : Key)
    → key.table < depth → key.table < more
    → raw_below_within depth desc key ≡ raw_below_within more desc key
raw_below_within-enough desc earlier =
    within-enough (λ depth key. raw_below_within depth desc key) step (λ _ _. refl) agrees
  where
    step : (Key → List Key) → Key → List Key
    step below key = if is_raw (slice_get desc.tables key.table) then key ∷ []
        else flat_map below (sources_of desc key)

    agrees : (below other : Key → List Key) (key : Key)
        → ((source : Key) → source.table < key.table → below source ≡ other source)
        → step below key ≡ step other key
    agrees below other key same =
        ap (λ (keys : List Key).
        if is_raw (slice_get desc.tables key.table) then key ∷ [] else keys)
        (flat_map-agree below other (sources_of desc key) (λ index default within.
        same (get_or (sources_of desc key) index default)
        (sources_of-earlier desc key earlier index default within)))

-- the raw partitions below a view's are those below its sources
is_below-sources : (desc : DescOf) (key other : Key) → HasEarlierSources desc
    → is_raw (slice_get desc.tables key.table) ≡ false
    → is_among (raw_below desc key) other ≡ is_below desc (sources_of desc key) other
is_below-sources desc key other earlier view =
    let sources = sources_of desc key in
    ap (λ (keys : List Key). is_among keys other)
    (rw view refl)
    ∙ list_any-flat_map (is_key other) (raw_below_within key.table desc) sources
    ∙ list_any-agree (λ source. is_among (raw_below_within key.table desc source) other)
    (λ source. is_among (raw_below desc source) other) sources
    (λ index default within.
    let source = get_or sources index default in
    ap (λ (keys : List Key). is_among keys other)
    (raw_below_within-enough desc earlier key.table (suc source.table) source
    (sources_of-earlier desc key earlier index default within) (omega arith)))

-- what a run of partitions of a table reads
abbrev pub run_reads : DescOf → (table first count : ℕ) → List Key
run_reads desc table first count =
    flat_map (λ part. sources_of desc (key_of table part)) (range_with_len first count)

-- the raw partitions below a run of a view's are those below what the run reads
is_below-view : (desc : DescOf) (table first count : ℕ) (other : Key) → HasEarlierSources desc
    → is_raw (slice_get desc.tables table) ≡ false
    → is_below desc (run_of table first count) other
    ≡ is_below desc (run_reads desc table first count) other
is_below-view desc table first count other earlier view =
    let below : Key → Bool = λ key. is_among (raw_below desc key) other in
    let reads : ℕ → List Key = λ part. sources_of desc (key_of table part) in
    let run = range_with_len first count in
    list_any-map below (key_of table) run
    ∙ list_any-agree (λ part. below (key_of table part)) (λ part. list_any below (reads part)) run
    (λ index default _.
    is_below-sources desc (key_of table (get_or run index default)) other earlier view)
    ∙ sym (list_any-flat_map below reads run)

-- those below a run of raw ones are these
is_below-raw : (desc : DescOf) (table first count : ℕ) (other : Key)
    → is_raw (slice_get desc.tables table) ≡ true
    → is_below desc (run_of table first count) other ≡ is_among (run_of table first count) other
is_below-raw desc table first count other raw =
    let below : Key → Bool = λ key. is_among (raw_below desc key) other in
    let run = range_with_len first count in
    list_any-map below (key_of table) run
    ∙ list_any-agree (λ part. below (key_of table part)) (λ part. is_key other (key_of table part))
    run (λ index default _.
    rw raw (or-false (is_key other (key_of table (get_or run index default)))))
    ∙ sym (list_any-map (is_key other) (key_of table) run)

-- what is true of each key of a list is true of each of another in which tests find the same
All-same_keys : (P : Key → Type 0) (keys others : List Key)
    → ((test : Key → Bool) → list_any test others ≡ list_any test keys)
    → All P keys → All P others
All-same_keys P keys others same all index default within =
    let other = get_or others index default in
    All-is_among P keys other all
    (sym (same (is_key other)) ∙ is_among-each others index default within)

-- what a run of a view's partitions reads waits below a table that is not before theirs
run_reads-wait : (desc : DescOf) (table first count above : ℕ) → HasEarlierSources desc
    → table ≤ above → All (WaitsBelow desc above) (run_reads desc table first count)
run_reads-wait desc table first count above earlier before =
    let run = range_with_len first count in
    All-flat_map (WaitsBelow desc above) (λ part. sources_of desc (key_of table part)) run
    (λ index default _ source_index source_default within.
    let key = key_of table (get_or run index default) in
    record {
      part = sources_of-parts desc key source_index source_default within;
      before = omega (
        arith,
        before,
        sources_of-earlier desc key earlier source_index source_default within,
      );
    })

-- a search for which what a run of a view's partitions reads has to wait leads to what is below it
leads_to-view : (desc : DescOf) (table first count : ℕ) (old new : Search) (other : Key)
    → HasEarlierSources desc → is_raw (slice_get desc.tables table) ≡ false
    → new.found.items ≡ old.found.items
    → Puts (run_reads desc table first count) old.waiting.keys new.waiting.keys
    → leads_to desc new other
    ≡ (leads_to desc old other || is_below desc (run_of table first count) other)
leads_to-view desc table first count old new other earlier view same puts =
    rw (
      same,
      puts (λ key. is_among (raw_below desc key) other),
      is_below-view desc table first count other earlier view,
    )
    (sym (or_assoc (is_among (keys_in old.found.items) other)
    (is_below desc (keys_waiting old.waiting.keys) other)
    (is_below desc (run_reads desc table first count) other)))

-- so it looks at that run
pub LooksAt-view : (desc : DescOf) (table first count : ℕ) (old new : Search)
    → HasEarlierSources desc → is_raw (slice_get desc.tables table) ≡ false → 0 < count
    → new.found.items ≡ old.found.items
    → Puts (run_reads desc table first count) old.waiting.keys new.waiting.keys
    → LooksAt desc (run_of table first count) old new
LooksAt-view desc table first count old new earlier view some same puts = record {
  exact = λ other. leads_to-view desc table first count old new other earlier view same puts;
  raw = λ all. rw same all;
  waiting = λ above tables all.
      let before = keys_waiting old.waiting.keys in
      let reads = run_reads desc table first count in
      All-same_keys (WaitsBelow desc above) (before ++ reads) (keys_waiting new.waiting.keys)
      (λ test. puts test ∙ sym (list_any-append test before reads))
      (All-append (WaitsBelow desc above) before reads all
      (run_reads-wait desc table first count above earlier
      (All-run_of (λ key. key.table ≤ above) table first count 0 some tables)));
}

-- partitions of a run of a raw table are raw
IsRawPart-run : (desc : DescOf) (run : Run) → is_raw (slice_get desc.tables run.table) ≡ true
    → All (λ key. is_part desc key ≡ true) (keys_of_run run)
    → All (IsRawPart desc) (keys_of_run run)
IsRawPart-run desc run raw parts index default within = record {
  raw = All-map (λ (key : Key). is_raw (slice_get desc.tables key.table) ≡ true) (key_of run.table)
      (range_with_len run.parts.first run.parts.count) (λ _ _ _. raw) index default within;
  part = parts index default within;
}

-- a search that found a run of raw partitions leads to them
leads_to-raw : (desc : DescOf) (run : Run) (old new : Search) (other : Key)
    → is_raw (slice_get desc.tables run.table) ≡ true
    → new.found.items ≡ old.found.items ++ run ∷ [] → new.waiting.keys ≡ old.waiting.keys
    → leads_to desc new other
    ≡ (leads_to desc old other || is_below desc (keys_of_run run) other)
leads_to-raw desc run old new other raw more same =
    let found = is_among (keys_in old.found.items) other in
    let own = is_among (keys_of_run run) other in
    let waits = is_below desc (keys_waiting old.waiting.keys) other in
    rw (
      more,
      same,
      keys_in-push old.found.items run,
      list_any-append (is_key other) (keys_in old.found.items) (keys_of_run run),
      is_below-raw desc run.table run.parts.first run.parts.count other raw,
    )
    (or_assoc found own waits ∙ ap (λ (rest : Bool). found || rest) (or_comm own waits)
    ∙ sym (or_assoc found waits own))

-- so it looks at that run
pub LooksAt-raw : (desc : DescOf) (run : Run) (old new : Search)
    → is_raw (slice_get desc.tables run.table) ≡ true
    → All (λ key. is_part desc key ≡ true) (keys_of_run run)
    → new.found.items ≡ old.found.items ++ run ∷ [] → new.waiting.keys ≡ old.waiting.keys
    → LooksAt desc (keys_of_run run) old new
LooksAt-raw desc run old new raw parts more same = record {
  exact = λ other. leads_to-raw desc run old new other raw more same;
  raw = λ all. rw (more, keys_in-push old.found.items run)
      (All-append (IsRawPart desc) (keys_in old.found.items) (keys_of_run run) all
      (IsRawPart-run desc run raw parts));
  waiting = λ above tables all. rw same all;
}

-- a search looked at some of these partitions, and the rest is still to come: what it leads to,
-- with what is below the rest, is what the search before led to, with what is below all
pub record IsOnItsWay (desc : DescOf) (keys : List Key) (old : Search) (rest : List Key)
    (now : Search) : Type 0 where
  pub parts : All (λ key. is_part desc key ≡ true) rest
  pub exact : (other : Key) → (leads_to desc now other || is_below desc rest other)
      ≡ (leads_to desc old other || is_below desc keys other)
  pub raw : All (IsRawPart desc) (keys_in old.found.items)
      → All (IsRawPart desc) (keys_in now.found.items)
  pub below : (above : ℕ) → All (λ (key : Key). key.table ≤ above) keys
      → All (λ (key : Key). key.table ≤ above) rest
  pub waiting : (above : ℕ) → All (λ (key : Key). key.table ≤ above) keys
      → All (WaitsBelow desc above) (keys_waiting old.waiting.keys)
      → All (WaitsBelow desc above) (keys_waiting now.waiting.keys)

-- it is on its way too if the rest is cut into runs in another way
IsOnItsWay-same : (desc : DescOf) (keys : List Key) (old : Search) (rest others : List Key)
    (now : Search) → ((test : Key → Bool) → list_any test others ≡ list_any test rest)
    → IsOnItsWay desc keys old rest now → IsOnItsWay desc keys old others now
IsOnItsWay-same desc keys old rest others now same way = record {
  parts = All-same_keys (λ key. is_part desc key ≡ true) rest others same way.parts;
  exact = λ other. rw (same (λ key. is_among (raw_below desc key) other)) (way.exact other);
  raw = way.raw;
  below = λ above tables.
      All-same_keys (λ key. key.table ≤ above) rest others same (way.below above tables);
  waiting = way.waiting;
}

-- as if the first two runs of the rest are joined
pub IsOnItsWay-joined : (desc : DescOf) (keys : List Key) (old : Search)
    (run next both rest : List Key) (now : Search)
    → ((test : Key → Bool) → list_any test both ≡ (list_any test run || list_any test next))
    → IsOnItsWay desc keys old (run ++ (next ++ rest)) now
    → IsOnItsWay desc keys old (both ++ rest) now
IsOnItsWay-joined desc keys old run next both rest now same =
    IsOnItsWay-same desc keys old (run ++ (next ++ rest)) (both ++ rest) now (λ test.
    rw (
      list_any-append test both rest,
      list_any-append test run (next ++ rest),
      list_any-append test next rest,
      same test,
    )
    (or_assoc (list_any test run) (list_any test next) (list_any test rest)))

-- the first part of what is so of all
pub All-front : {X : Type 0} (P : X → Type 0) (xs ys : List X) → All P (xs ++ ys) → All P xs
All-front P xs ys all index default within =
    rw (← get_or_append_left xs ys default index within)
    (all index default (omega (arith, length-append xs ys)))

-- and the last part
pub All-back : {X : Type 0} (P : X → Type 0) (xs ys : List X) → All P (xs ++ ys) → All P ys
All-back P [] ys all = all
All-back P (x ∷ xs) ys all = All-back P xs ys (All-tail P x (xs ++ ys) all)

-- it goes on if it looks at the first run
pub IsOnItsWay-step : (desc : DescOf) (keys : List Key) (old : Search) (run rest : List Key)
    (now next : Search) → IsOnItsWay desc keys old (run ++ rest) now
    → LooksAt desc run now next → IsOnItsWay desc keys old rest next
IsOnItsWay-step desc keys old run rest now next way looks = record {
  parts = All-back (λ key. is_part desc key ≡ true) run rest way.parts;
  exact = λ other.
      let below : Key → Bool = λ key. is_among (raw_below desc key) other in
      rw (looks.exact other)
      (or_assoc (leads_to desc now other) (list_any below run) (list_any below rest)
      ∙ ap (λ (rest : Bool). leads_to desc now other || rest) (sym (list_any-append below run rest))
      ∙ way.exact other);
  raw = λ all. looks.raw (way.raw all);
  below = λ above tables.
      All-back (λ key. key.table ≤ above) run rest (way.below above tables);
  waiting = λ above tables all.
      looks.waiting above (All-front (λ key. key.table ≤ above) run rest (way.below above tables))
      (way.waiting above tables all);
}

-- at the end it looked at all of them
pub IsOnItsWay-end : (desc : DescOf) (keys : List Key) (old now : Search)
    → IsOnItsWay desc keys old [] now → LooksAt desc keys old now
IsOnItsWay-end desc keys old now way = record {
  exact = λ other. sym (or-false (leads_to desc now other)) ∙ way.exact other;
  raw = way.raw;
  waiting = way.waiting;
}

-- a search begins with the partition itself
pub IsSearchOf-start : (desc : DescOf) (key : Key) (search : Search) → is_part desc key ≡ true
    → search.found.items ≡ []
    → ((test : Key → Bool) → list_any test (keys_waiting search.waiting.keys)
    ≡ list_any test (key ∷ []))
    → IsSearchOf desc key (key.table + 1) search
IsSearchOf-start desc key search part none waits = record {
  exact = λ other. rw (none, waits (λ key. is_among (raw_below desc key) other))
      (or-false (is_among (raw_below desc key) other));
  raw = rw none (All-nil (IsRawPart desc));
  waiting = All-same_keys (WaitsBelow desc (key.table + 1)) (key ∷ [])
      (keys_waiting search.waiting.keys) waits
      (All-cons (WaitsBelow desc (key.table + 1)) key []
      (record { part = part; before = omega arith })
      (All-nil (WaitsBelow desc (key.table + 1))));
}

-- a run before the first partition of a table is of an earlier table
before_first : (table : ℕ) (run : WaitingRun)
    → is_gt (waiting_cmp (record { table = table; first = 0; end = 0 }) run) ≡ true
    → run.table < table
before_first table run before = grind (arith, nat_tests)

-- what still waits after a split at a table is of earlier ones
WaitsBelow-split : (desc : DescOf) (table : ℕ) (split : List WaitingRun)
    → All (WaitsBelow desc (table + 1)) (keys_waiting split)
    → All (λ run. is_gt (waiting_cmp (record { table = table; first = 0; end = 0 }) run) ≡ true)
    split → All (WaitsBelow desc table) (keys_waiting split)
WaitsBelow-split desc table split waits before index default within = record {
  part = (waits index default within).part;
  before = All-flat_map (λ key. key.table < table) keys_of_waiting split
      (λ run_index run_default run_within.
      let run = get_or split run_index run_default in
      All-map (λ (key : Key). key.table < table) (key_of run.table)
      (range_with_len run.first (run.end - run.first))
      (λ _ _ _. before_first table run (before run_index run_default run_within)))
      index default within;
}

-- a search that was split leads to the same, with what is below the part that was taken
leads_to-split : (desc : DescOf) (old split : Search) (here : List WaitingRun) (other : Key)
    → split.found.items ≡ old.found.items → old.waiting.keys ≡ split.waiting.keys ++ here
    → (leads_to desc split other || is_below desc (keys_waiting here) other)
    ≡ leads_to desc old other
leads_to-split desc old split here other same parts =
    let found = is_among (keys_in old.found.items) other in
    let still = keys_waiting split.waiting.keys in
    let below : Key → Bool = λ key. is_among (raw_below desc key) other in
    rw (
      same,
      parts,
      flat_map-append keys_of_waiting split.waiting.keys here,
      list_any-append below still (keys_waiting here),
    )
    (or_assoc found (list_any below still) (list_any below (keys_waiting here)))

-- what waits before the table after one is of that table or an earlier one
WaitsBelow-le : (desc : DescOf) (table : ℕ) (keys : List Key)
    → All (WaitsBelow desc (table + 1)) keys → All (λ (key : Key). key.table ≤ table) keys
WaitsBelow-le desc table keys waits =
    All-weaker (WaitsBelow desc (table + 1)) (λ (key : Key). key.table ≤ table)
    (λ key waits. omega (arith, waits.before)) keys waits

-- a table is passed if all that wait of it are looked at
pub IsSearchOf-step : (desc : DescOf) (key : Key) (table : ℕ) (old split new : Search)
    (here : List WaitingRun) → IsSearchOf desc key (table + 1) old
    → split.found.items ≡ old.found.items → old.waiting.keys ≡ split.waiting.keys ++ here
    → All (λ run. is_gt (waiting_cmp (record { table = table; first = 0; end = 0 }) run) ≡ true)
    split.waiting.keys
    → LooksAt desc (keys_waiting here) split new → IsSearchOf desc key table new
IsSearchOf-step desc key table old split new here search same parts before looks =
    let Waits = WaitsBelow desc (table + 1) in
    let still = keys_waiting split.waiting.keys in
    let waits : All Waits (still ++ keys_waiting here) =
    rw (← flat_map-append keys_of_waiting split.waiting.keys here, ← parts) search.waiting in
    record {
      exact = λ other. looks.exact other
          ∙ leads_to-split desc old split here other same parts ∙ search.exact other;
      raw = looks.raw (rw same search.raw);
      waiting = looks.waiting table
          (WaitsBelow-le desc table (keys_waiting here)
          (All-back Waits still (keys_waiting here) waits))
          (WaitsBelow-split desc table split.waiting.keys
          (All-front Waits still (keys_waiting here) waits) before);
    }

-- after the first table the search is at its end
pub IsSearchOf-end : (desc : DescOf) (key : Key) (search : Search) → IsSearchOf desc key 0 search
    → (other : Key) → is_among (keys_in search.found.items) other
    ≡ is_among (raw_below desc key) other
IsSearchOf-end desc key search is other =
    let waiting = keys_waiting search.waiting.keys in
    let found = is_among (keys_in search.found.items) other in
    sym (or-false found)
    ∙ ap (λ (rest : Bool). found || rest)
    (sym (list_any_none (λ key. is_among (raw_below desc key) other) waiting
    (λ index default within. absurd (omega (arith, (is.waiting index default within).before)))))
    ∙ is.exact other
