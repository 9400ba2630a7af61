-- The search for the raw partitions below a partition.
use Rattle.std.specs.Prelude.{ℕ, ◌≡◌, ◌<◌, ◌≤◌, ◌-◌, ◌||◌, Bool, true, List, All, flat_map}
use Rattle.std.specs.List.{list_any, range_with_len}
use Rattle.desc_types.specs.declared.table.Key.{Key}
use Rattle.desc_types.specs.declared.view.Src.{Src}
use Rattle.desc_types.specs.Descriptions.{DescOf}
use Rattle.partition_map.specs.declared.parts.Parts.{Parts}
use Rattle.view_meaning.specs.Partitions.{is_among, is_part, keys_read}
use Rattle.view_meaning.specs.RawBelow.{raw_below}
use Rattle.depot_marks.specs.declared.below.Search.{Search}
use Rattle.depot_marks.specs.declared.below.WaitingRun.{WaitingRun}
use Rattle.depot_marks.specs.MarkBooks.{IsRawPart}
use Rattle.depot_marks.specs.Runs.{keys_in, run_of}

-- the partitions of a run that waits
abbrev pub keys_of_waiting : WaitingRun → List Key
keys_of_waiting run = run_of run.table run.first (run.end - run.first)

-- the partitions of some runs that wait, one run after another
abbrev pub keys_waiting : List WaitingRun → List Key
keys_waiting runs = flat_map keys_of_waiting runs

-- these partitions were put among those that wait: a test finds one of them there, or what it found
abbrev pub Puts : (keys : List Key) → (old new : List WaitingRun) → Type 0
Puts keys old new = (test : Key → Bool)
    → list_any test (keys_waiting new) ≡ (list_any test (keys_waiting old) || list_any test keys)

-- what a run of partitions of a width reads of some sources, partition by partition
abbrev pub keys_read_by : DescOf → (width : ℕ) → Parts → List Src → List Key
keys_read_by desc width parts sources =
    flat_map (λ part. flat_map (keys_read desc width part) sources)
    (range_with_len parts.first parts.count)

-- whether a partition is a raw one below one of some others
abbrev pub is_below : DescOf → List Key → Key → Bool
is_below desc keys other = list_any (λ key. is_among (raw_below desc key) other) keys

-- whether a raw partition was found, or is below one that waits
abbrev pub leads_to : DescOf → Search → Key → Bool
leads_to desc search other = is_among (keys_in search.found.items) other
    || is_below desc (keys_waiting search.waiting.keys) other

-- a partition of a table before one
pub record WaitsBelow (desc : DescOf) (above : ℕ) (key : Key) : Type 0 where
  pub part : is_part desc key ≡ true
  pub before : key.table < above

-- a search looked at partitions: it leads to what it led to, and to what is below these
pub record LooksAt (desc : DescOf) (keys : List Key) (old new : Search) : Type 0 where
  pub exact : (other : Key)
      → leads_to desc new other ≡ (leads_to desc old other || is_below desc keys other)
  pub raw : All (IsRawPart desc) (keys_in old.found.items)
      → All (IsRawPart desc) (keys_in new.found.items)
  pub waiting : (above : ℕ) → All (λ (key : Key). key.table ≤ above) keys
      → All (WaitsBelow desc above) (keys_waiting old.waiting.keys)
      → All (WaitsBelow desc above) (keys_waiting new.waiting.keys)

-- a search for what is below a partition: it leads to that, and what waits is of tables before one
pub record IsSearchOf (desc : DescOf) (key : Key) (above : ℕ) (search : Search) : Type 0 where
  pub exact : (other : Key)
      → leads_to desc search other ≡ is_among (raw_below desc key) other
  pub raw : All (IsRawPart desc) (keys_in search.found.items)
  pub waiting : All (WaitsBelow desc above) (keys_waiting search.waiting.keys)
