-- Which keys are among those of all views: the partitions of views.
use Rattle.std.proofs.Common.{◌≡◌, ◌∙◌, ℕ, ◌<◌, List, map, get_or, length, refl, sym, ap}
use Rattle.std.proofs.Common.{subst, arith}
use Rattle.std.specs.Prelude.{Bool, true, false, ◌&&◌, ◌==◌, Option, Some, None, nat_eq, slice_get}
use Rattle.std.specs.List.{filter, range_with_len}
use Rattle.std.proofs.lemmas.Bool.{and_from, eq-eqb, false≢true}
use Rattle.std.proofs.lemmas.Bool.Decides.{nat_tests}
use Rattle.std.proofs.lemmas.List.Folds.{list_any_at}
use Rattle.std.proofs.lemmas.List.FromFn.{get_or-range_with_len, length-range_with_len}
use Rattle.std.proofs.lemmas.Map.Views.{any-filter_same}
use Rattle.partition_map.specs.Partitions.{all_parts, has, is_met}
use Rattle.partition_map.specs.Time.{END}
use Rattle.desc_types.specs.declared.table.Key.{Key}
use Rattle.desc_types.specs.Descriptions.{DescOf}
use Rattle.desc_types.specs.Sources.{width_of}
use Rattle.desc_types.specs.Tables.{TableOf}
use Rattle.view_meaning.specs.Drains.{all_view_keys, view_keys}
use Rattle.view_meaning.specs.Partitions.{is_among, is_key, is_part, key_of}
use Rattle.view_meaning.specs.Versions.{is_raw, is_raw_kind}
use Rattle.view_meaning.proofs.AmongLemmas.{All-is_among, is_key-same}
use Rattle.view_meaning.proofs.KeyLemmas.{all_view_keys-not_raw, all_view_keys-parts}
use Rattle.view_meaning.proofs.KeyLemmas.{is_part-table}
use Rattle.view_meaning.proofs.ListLemmas.{list_any-agree, list_any-and, list_any-flat_map}
use Rattle.view_meaning.proofs.ListLemmas.{list_any-map}
use Rattle.view_meaning.proofs.PartitionLemmas.{is_met-no_width}
use Rattle.stale_test.proofs.BoolLemmas.{and-swap}
use Rattle.stale_test.proofs.PartListLemmas.{has-all_parts}

-- a key is among those of a table exactly if its number is listed
pub is_among-key_of : (table : ℕ) (parts : List ℕ) (key : Key)
    → is_among (map (key_of table) parts) key ≡ (has parts key.part && (table == key.table))
is_among-key_of table parts key =
    list_any-map (is_key key) (key_of table) parts
    ∙ list_any-agree (λ part. is_key key (key_of table part))
    (λ part. nat_eq key.part part && (table == key.table)) parts
    (λ index default _. swapped (get_or parts index default))
    ∙ list_any-and (nat_eq key.part) (table == key.table) parts
  where
    swapped : (part : ℕ)
        → is_key key (key_of table part) ≡ (nat_eq key.part part && (table == key.table))
    swapped part = grind (arith, nat_tests)

-- a partition is among those of its table, if that is a view
is_among-view_keys : (key : Key) (table : TableOf) → is_raw_kind table.kind ≡ false
    → is_met table.width 0 END key.part ≡ true
    → is_among (view_keys key.table (Some table)) key ≡ true
is_among-view_keys key table view met =
    rw view
    (is_among-key_of key.table (all_parts table.width) key
    ∙ and_from (has (all_parts table.width) key.part) (key.table == key.table)
    (has-all_parts table.width key.part ∙ met) (eq-eqb key.table key.table refl))

-- what is among the keys of a table that there is, is among those of all views
is_among-table : (desc : DescOf) (key : Key) → key.table < length desc.tables
    → is_among (view_keys key.table (slice_get desc.tables key.table)) key ≡ true
    → is_among (all_view_keys desc) key ≡ true
is_among-table desc key within own =
    let keys = λ (number : ℕ). view_keys number (slice_get desc.tables number) in
    let tables = range_with_len 0 (length desc.tables) in
    list_any-flat_map (is_key key) keys tables
    ∙ list_any_at (λ number. is_among (keys number) key) tables key.table 0
    (omega (arith, length-range_with_len 0 (length desc.tables)))
    (subst (λ (number : ℕ). is_among (keys number) key ≡ true)
    (let there : key.table ≡ get_or tables key.table 0 =
    omega (arith, get_or-range_with_len 0 (length desc.tables) key.table 0 within) in there) own)

-- a partition of a view is among those of all views
pub is_among-all_view_keys : (desc : DescOf) (key : Key) → is_part desc key ≡ true
    → is_raw (slice_get desc.tables key.table) ≡ false
    → is_among (all_view_keys desc) key ≡ true
is_among-all_view_keys desc key part view =
    is_among-table desc key (is_part-table desc key part)
    (at_table (slice_get desc.tables key.table) part view)
  where
    at_table : (found : Option TableOf) → is_met (width_of found) 0 END key.part ≡ true
        → is_raw found ≡ false → is_among (view_keys key.table found) key ≡ true
    at_table None part view =
        absurd (false≢true (sym (is_met-no_width 0 END key.part) ∙ part))
    at_table (Some table) part view = is_among-view_keys key table view part

-- a key that is among them is a partition
pub is_part-all_view_keys : (desc : DescOf) (key : Key) → is_among (all_view_keys desc) key ≡ true
    → is_part desc key ≡ true
is_part-all_view_keys desc key =
    All-is_among (λ key. is_part desc key ≡ true) (all_view_keys desc) key
    (all_view_keys-parts desc)

-- its table is not raw
pub is_raw-all_view_keys : (desc : DescOf) (key : Key) → is_among (all_view_keys desc) key ≡ true
    → is_raw (slice_get desc.tables key.table) ≡ false
is_raw-all_view_keys desc key =
    All-is_among (λ (key : Key). is_raw (slice_get desc.tables key.table) ≡ false)
    (all_view_keys desc) key (all_view_keys-not_raw desc)

-- whether a key passes a test among the keys of all views
pub is_among-filter : (test : Key → Bool) (keys : List Key) (key : Key)
    → is_among (filter test keys) key ≡ (is_among keys key && test key)
is_among-filter test keys key =
    any-filter_same (is_key key) test (test key)
    (λ other same. ap test (is_key-same key other same)) keys
    ∙ and-swap (test key) (is_among keys key)
