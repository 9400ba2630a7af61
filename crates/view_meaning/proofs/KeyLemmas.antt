-- The keys of a description: the partitions of its views are in order, they are all that have
-- sources, and each source is a partition.
use Rattle.std.proofs.Common.{◌≡◌, ◌∙◌, ℕ, zero, suc, ◌+◌, ◌*◌, ◌<◌, ◌≤◌, List, [], length, get_or}
use Rattle.std.proofs.Common.{refl, sym, ap, map, subst, inl, inr, arith}
use Rattle.std.specs.Prelude.{Bool, true, false, ◌&&◌, ◌==◌, Option, Some, None, All, flat_map}
use Rattle.std.specs.Prelude.{slice_get, pos, ◌+ℤ◌, min, max}
use Rattle.std.specs.List.{AllPairs, list_any, range_with_len}
use Rattle.std.proofs.Math.Nat.{mul-le-mul_left}
use Rattle.std.proofs.lemmas.Bool.{cases_Bool, both_ways, false≢true, cond_both, eq-eqb, eqb-true}
use Rattle.std.proofs.lemmas.Bool.{ltb-true, lt-ltb}
use Rattle.std.proofs.lemmas.Map.Views.{any-filter_same}
use Rattle.std.proofs.lemmas.Option.{slice_get_within}
use Rattle.std.proofs.lemmas.List.Elements.{All-nil, All-map, filter_passes, All-weaker}
use Rattle.std.proofs.lemmas.List.Folds.{list_any_at}
use Rattle.std.proofs.lemmas.List.FromFn.{length-range_with_len, get_or-range_with_len}
use Rattle.std.proofs.lemmas.List.Kept.{AllPairs-filter}
use Rattle.desc_types.specs.declared.table.Key.{Key}
use Rattle.desc_types.specs.declared.view.Src.{Src}
use Rattle.desc_types.specs.Descriptions.{DescOf}
use Rattle.desc_types.specs.Tables.{TableOf}
use Rattle.desc_types.specs.KindValues.{KindOf, Raw, Filter, Group, Join}
use Rattle.desc_types.specs.Sources.{width_of, table_width, kind_sources}
use Rattle.partition_map.specs.Time.{END}
use Rattle.partition_map.specs.Partitions.{start_of, end_of, is_met, parts_met, all_parts}
use Rattle.view_meaning.specs.Partitions.{is_part}
use Rattle.partition_map.specs.Partitions.{tick_at_least}
use Rattle.view_meaning.specs.Partitions.{keys_read, keys_below, sources_of}
use Rattle.view_meaning.specs.Versions.{is_raw, is_raw_kind}
use Rattle.view_meaning.specs.Drains.{view_keys, all_view_keys}
use Rattle.view_meaning.proofs.ListLemmas.{list_any-agree, list_any-map, list_any-flat_map}
use Rattle.partition_map.proofs.ListLemmas.{All-range_with_len}
use Rattle.view_meaning.proofs.ListLemmas.{All-flat_map}
use Rattle.view_meaning.proofs.ListLemmas.{list_any-range_with_len, AllPairs-append, AllPairs-map}
use Rattle.view_meaning.proofs.ListLemmas.{AllPairs-range_with_len}
use Rattle.view_meaning.specs.Partitions.{is_among, is_key}
use Rattle.view_meaning.proofs.AmongLemmas.{IsBefore}
use Rattle.view_meaning.proofs.PartitionLemmas.{is_met-no_width}

-- what shares a tick with a span of time shares one with time
is_met-wider : (width from to part : ℕ) → is_met width from to part ≡ true → to ≤ END
    → is_met width 0 END part ≡ true
is_met-wider width from to part met in_time =
    let shared : max (start_of width part) from < min (end_of width part) to =
    ltb-true (max (start_of width part) from) (min (end_of width part) to) met in
    lt-ltb (max (start_of width part) 0) (min (end_of width part) END) (omega arith)

-- a partition is of a table that is there
pub is_part-table : (desc : DescOf) (key : Key) → is_part desc key ≡ true
    → key.table < length desc.tables
is_part-table desc key = at_table (slice_get desc.tables key.table) refl
  where
    at_table : (found : Option TableOf) → slice_get desc.tables key.table ≡ found
        → is_met (width_of found) 0 END key.part ≡ true → key.table < length desc.tables
    at_table None no_table met =
        absurd (both_ways (is_met 0 0 END key.part) (is_met-no_width 0 END key.part) met)
    at_table (Some table) found met = slice_get_within desc.tables key.table table found

-- what is read of a source are partitions
keys_read-parts : (desc : DescOf) (width part : ℕ) (src : Src)
    → All (λ source. is_part desc source ≡ true) (keys_read desc width part src)
keys_read-parts desc width part src =
    let source_width = table_width desc src.table in
    let from = tick_at_least (pos (part * width) +ℤ src.span.lo) in
    let to = min END (tick_at_least (pos ((part + 1) * width) +ℤ src.span.hi)) in
    All-map (λ source. is_part desc source ≡ true)
    (λ source. record { table = src.table; part = source })
    (parts_met source_width from to)
    (All-weaker (λ source. is_met source_width from to source ≡ true)
    (λ source. is_met source_width 0 END source ≡ true)
    (λ source met. is_met-wider source_width from to source met (omega arith))
    (parts_met source_width from to)
    (filter_passes (is_met source_width from to) (range_with_len 0 to)))

-- the sources of a partition are partitions
pub sources_of-parts : (desc : DescOf) (key : Key)
    → All (λ source. is_part desc source ≡ true) (sources_of desc key)
sources_of-parts desc key = below (slice_get desc.tables key.table)
  where
    below : (found : Option TableOf)
        → All (λ source. is_part desc source ≡ true) (keys_below desc key.part found)
    below None = λ index default within. absurd (omega arith)
    below (Some table) =
        All-flat_map (λ source. is_part desc source ≡ true)
        (keys_read desc table.width key.part) (kind_sources table.kind)
        (λ index default within. keys_read-parts desc table.width key.part
        (get_or (kind_sources table.kind) index default))

-- the partitions that share a tick with a span are in order
AllPairs-parts_met : (width from to : ℕ)
    → AllPairs (λ (part next : ℕ). part < next) (parts_met width from to)
AllPairs-parts_met width from to =
    AllPairs-filter (λ (part next : ℕ). part < next) (is_met width from to)
    (range_with_len 0 to) (AllPairs-range_with_len 0 to)

-- so are all partitions of a table
pub AllPairs-all_parts : (width : ℕ) → AllPairs (λ (part next : ℕ). part < next) (all_parts width)
unfolding all_parts
AllPairs-all_parts width = AllPairs-parts_met width 0 END

-- the keys of the partitions of a table, if it is a view
abbrev view_keys_of : DescOf → (number : ℕ) → List Key
view_keys_of desc number = view_keys number (slice_get desc.tables number)

-- what is true of each partition of a view is true of its keys
All-view_keys : (P : Key → Type 0) (number : ℕ) (found : Option TableOf)
    → ((table : TableOf) (part : ℕ) → found ≡ Some table → is_raw_kind table.kind ≡ false
    → is_met table.width 0 END part ≡ true → P (record { table = number; part = part }))
    → All P (view_keys number found)
unfolding all_parts
All-view_keys P number None each = All-nil P
All-view_keys P number (Some table) each =
    cond_both (is_raw_kind table.kind) []
    (map (λ part. record { table = number; part = part }) (all_parts table.width)) (All P)
    (λ _. All-nil P)
    (λ view. All-map P (λ part. record { table = number; part = part }) (all_parts table.width)
    (λ index default within.
    each table (get_or (all_parts table.width) index default) refl view
    (filter_passes (is_met table.width 0 END) (range_with_len 0 END) index default within)))

-- the keys of views from one table on are of these tables
All-view_keys_of : (P : Key → Type 0) (desc : DescOf) (from many : ℕ)
    → ((number part : ℕ) (table : TableOf) → from ≤ number
    → slice_get desc.tables number ≡ Some table → is_raw_kind table.kind ≡ false
    → is_met table.width 0 END part ≡ true → P (record { table = number; part = part }))
    → All P (flat_map (view_keys_of desc) (range_with_len from many))
All-view_keys_of P desc from many each =
    All-flat_map P (view_keys_of desc) (range_with_len from many)
    (All-range_with_len (λ number. All P (view_keys_of desc number)) from many
    (λ number at_least _. All-view_keys P number (slice_get desc.tables number)
    (λ table part found view met. each number part table at_least found view met)))

-- the partitions of a view are in order
AllPairs-view_keys : (number : ℕ) (found : Option TableOf)
    → AllPairs IsBefore (view_keys number found)
AllPairs-view_keys number None = λ first second default before within. absurd (omega arith)
AllPairs-view_keys number (Some table) =
    cond_both (is_raw_kind table.kind) []
    (map (λ part. record { table = number; part = part }) (all_parts table.width))
    (AllPairs IsBefore)
    (λ _ first second default before within. absurd (omega arith))
    (λ _. AllPairs-map IsBefore (λ part. record { table = number; part = part })
    (all_parts table.width)
    (λ first second default before within.
    inr (refl, AllPairs-all_parts table.width first second default before within)))

-- the partitions of the views from one table on are in order
AllPairs-view_keys_of : (desc : DescOf) (from many : ℕ)
    → AllPairs IsBefore (flat_map (view_keys_of desc) (range_with_len from many))
AllPairs-view_keys_of desc from zero =
    λ first second default before within. absurd (omega arith)
AllPairs-view_keys_of desc from (suc many) =
    AllPairs-append IsBefore (view_keys_of desc from)
    (flat_map (view_keys_of desc) (range_with_len (from + 1) many))
    (AllPairs-view_keys from (slice_get desc.tables from))
    (AllPairs-view_keys_of desc (from + 1) many)
    (All-view_keys
    (λ key. All (IsBefore key) (flat_map (view_keys_of desc) (range_with_len (from + 1) many)))
    from (slice_get desc.tables from)
    (λ _ part _ _ _.
    All-view_keys_of (IsBefore (record { table = from; part = part })) desc (from + 1) many
    (λ number next _ behind _ _ _. inl (omega arith))))

-- the keys of all views are in order
pub AllPairs-all_view_keys : (desc : DescOf) → AllPairs IsBefore (all_view_keys desc)
AllPairs-all_view_keys desc = AllPairs-view_keys_of desc 0 (length desc.tables)

-- none of them is of a raw table
pub all_view_keys-not_raw : (desc : DescOf)
    → All (λ (key : Key). is_raw (slice_get desc.tables key.table) ≡ false) (all_view_keys desc)
all_view_keys-not_raw desc =
    All-view_keys_of (λ (key : Key). is_raw (slice_get desc.tables key.table) ≡ false) desc 0
    (length desc.tables) (λ number part table _ found view _. rw found view)

-- all of them are partitions
pub all_view_keys-parts : (desc : DescOf)
    → All (λ key. is_part desc key ≡ true) (all_view_keys desc)
all_view_keys-parts desc =
    All-view_keys_of (λ key. is_part desc key ≡ true) desc 0 (length desc.tables)
    (λ number part table _ found view met. rw found met)

-- a partition that shares a tick with a span is among those that do
list_any-parts_met : (width from to part : ℕ) → is_met width from to part ≡ true
    → list_any (λ number. number == part) (parts_met width from to) ≡ true
list_any-parts_met width from to part met =
    let shared : max (start_of width part) from < min (end_of width part) to =
    ltb-true (max (start_of width part) from) (min (end_of width part) to) met in
    let far : part * 1 ≤ part * width = mul-le-mul_left part (omega arith) in
    any-filter_same (λ number. number == part) (is_met width from to) true
    (λ number same. subst (λ (number : ℕ). is_met width from to number ≡ true)
    (sym (eqb-true number part same)) met)
    (range_with_len 0 to)
    ∙ list_any-range_with_len part to (omega arith)

-- a partition is among those of its table
list_any-all_parts : (width part : ℕ) → is_met width 0 END part ≡ true
    → list_any (λ number. number == part) (all_parts width) ≡ true
unfolding all_parts
list_any-all_parts width part met = list_any-parts_met width 0 END part met

-- so is its key, if the table is a view
list_any-view_keys : (key : Key) (table : TableOf) → is_raw_kind table.kind ≡ false
    → is_met table.width 0 END key.part ≡ true
    → list_any (is_key key) (view_keys key.table (Some table)) ≡ true
list_any-view_keys key table view met =
    rw view
    (list_any-map (is_key key) (λ part. record { table = key.table; part = part })
    (all_parts table.width)
    ∙ list_any-agree (λ part. (key.table == key.table) && (part == key.part))
    (λ part. part == key.part) (all_parts table.width)
    (λ index default within.
    ap (λ (same : Bool). same && (get_or (all_parts table.width) index default == key.part))
    (eq-eqb key.table key.table refl))
    ∙ list_any-all_parts table.width key.part met)

-- a partition of a view is among those of all views
is_among-all_view_keys : (desc : DescOf) (key : Key) (table : TableOf)
    → slice_get desc.tables key.table ≡ Some table → is_raw_kind table.kind ≡ false
    → is_part desc key ≡ true → is_among (all_view_keys desc) key ≡ true
is_among-all_view_keys desc key table found view part =
    let below : key.table < length desc.tables =
    slice_get_within desc.tables key.table table found in
    list_any-flat_map (is_key key) (view_keys_of desc) (range_with_len 0 (length desc.tables))
    ∙ list_any_at (λ number. list_any (is_key key) (view_keys_of desc number))
    (range_with_len 0 (length desc.tables)) key.table 0
    (omega (arith, length-range_with_len 0 (length desc.tables)))
    (subst (λ (number : ℕ). list_any (is_key key) (view_keys_of desc number) ≡ true)
    (let there : key.table ≡ get_or (range_with_len 0 (length desc.tables)) key.table 0 =
    omega (arith, get_or-range_with_len 0 (length desc.tables) key.table 0 below) in there)
    (subst
    (λ (found : Option TableOf). list_any (is_key key) (view_keys key.table found) ≡ true)
    (sym found)
    (list_any-view_keys key table view
    (subst (λ (found : Option TableOf). is_met (width_of found) 0 END key.part ≡ true) found
    part))))

-- a raw table names no sources
kind_sources-raw : (kind : KindOf) → is_raw_kind kind ≡ true → kind_sources kind ≡ []
kind_sources-raw (Raw feed time) raw = refl
kind_sources-raw (Filter src conds keep) raw = absurd (false≢true raw)
kind_sources-raw (Group src keys aggs) raw = absurd (false≢true raw)
kind_sources-raw (Join left right pairs) raw = absurd (false≢true raw)

-- a partition of a raw table has no sources
pub sources_of-raw : (desc : DescOf) (key : Key)
    → is_raw (slice_get desc.tables key.table) ≡ true → sources_of desc key ≡ []
sources_of-raw desc key raw = at_table (slice_get desc.tables key.table) raw
  where
    at_table : (found : Option TableOf) → is_raw found ≡ true → keys_below desc key.part found ≡ []
    at_table None raw = refl
    at_table (Some table) raw =
        ap (λ (sources : List Src). flat_map (keys_read desc table.width key.part) sources)
        (kind_sources-raw table.kind raw)

-- nor has one that is not among those of views
pub sources_of-none : (desc : DescOf) (key : Key) → is_part desc key ≡ true
    → is_among (all_view_keys desc) key ≡ false → sources_of desc key ≡ []
sources_of-none desc key part other = at_table (slice_get desc.tables key.table) refl
  where
    at_table : (found : Option TableOf) → slice_get desc.tables key.table ≡ found
        → sources_of desc key ≡ []
    at_table None no_table =
        ap (λ (found : Option TableOf). keys_below desc key.part found) no_table
    at_table (Some table) found =
        elim (cases_Bool (is_raw_kind table.kind)) [
          | inl raw ↦ sources_of-raw desc key (ap is_raw found ∙ raw)
          | inr view ↦ absurd (both_ways (is_among (all_view_keys desc) key) other
              (is_among-all_view_keys desc key table found view part))
        ]
