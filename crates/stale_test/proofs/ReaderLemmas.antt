-- The readers of partitions, as the program finds them table by table.
use Rattle.std.proofs.Common.{◌≡◌, ◌∙◌, ℕ, ◌+◌, List, [], ◌++◌, map, length, get_or, refl}
use Rattle.std.proofs.Common.{sym, ap, inl, inr, arith}
use Rattle.std.specs.Prelude.{Bool, true, false, ◌&&◌, ◌||◌, Option, Some, nat_lt, slice_get}
use Rattle.std.specs.List.{list_any}
use Rattle.std.proofs.lemmas.Bool.{cases_Bool, cases_eq, eq-eqb, le-ltb, lt-ltb, ne_eqb}
use Rattle.std.proofs.lemmas.Bool.Decides.{nat_tests}
use Rattle.std.proofs.lemmas.List.Folds.{list_any-append}
use Rattle.std.proofs.Math.Bool.{and-false, and-true, or-false}
use Rattle.desc_types.specs.declared.table.Key.{Key}
use Rattle.desc_types.specs.Descriptions.{DescOf}
use Rattle.desc_types.specs.Sources.{kind_sources, table_width, width_of}
use Rattle.desc_types.specs.Tables.{TableOf}
use Rattle.partition_map.specs.Partitions.{has, is_met}
use Rattle.partition_map.specs.Time.{END}
use Rattle.view_meaning.specs.Drains.{all_view_keys}
use Rattle.view_meaning.specs.Partitions.{is_among, is_key, is_part, key_of, keys_below, sources_of}
use Rattle.view_meaning.proofs.KeyLemmas.{is_part-table, sources_of-none}
use Rattle.view_meaning.proofs.ListLemmas.{list_any-agree}
use Rattle.stale_test.specs.PartLists.{AreGained, AreInTime, Gains, is_listed, reads_listed}
use Rattle.stale_test.specs.Readers.{AreReaders, reads}
use Rattle.stale_test.proofs.GainedLemmas.{AreParts}
use Rattle.stale_test.proofs.ReachedListLemmas.{start-is_part}
use Rattle.stale_test.proofs.ViewKeyLemmas.{is_among-key_of, is_part-all_view_keys}

-- whether a partition of a view reads one of some keys
abbrev pub is_reader : DescOf → (keys : List Key) → Key → Bool
is_reader desc keys key = reads desc keys key && is_part desc key

-- lists of partitions have none that begins after time
pub AreInTime-AreGained : (desc : DescOf) (gained : Key → Bool) (lists : List (List ℕ))
    → AreParts desc gained → AreGained gained lists → AreInTime desc lists
AreInTime-AreGained desc gained lists parts exact key listed =
    start-is_part (table_width desc key.table) key.part
    (parts key (sym (exact key.table key.part) ∙ listed))

-- the numbers of a table's partitions that read listed ones are those of the readers
pub has-readers : (desc : DescOf) (keys : List Key) (lists : List (List ℕ)) (number : ℕ)
    (table : TableOf) (read sorted : List ℕ) → slice_get desc.tables number ≡ Some table
    → AreGained (is_among keys) lists
    → Gains (reads_listed desc lists table.width (kind_sources table.kind)) [] read
    → ((part : ℕ) → has sorted part ≡ has read part)
    → (part : ℕ) → has sorted part ≡ is_reader desc keys (key_of number part)
has-readers desc keys lists number table read sorted there exact gains same part =
    let key = key_of number part in
    same part
    ∙ gains part
    ∙ ap (λ (found : Option TableOf). list_any (is_listed lists) (keys_below desc part found)
    && is_met (width_of found) 0 END part) (sym there)
    ∙ ap (λ (any : Bool). any && is_part desc key)
    (list_any-agree (is_listed lists) (is_among keys) (sources_of desc key)
    (λ index default _.
    let source : Key = get_or (sources_of desc key) index default in
    exact source.table source.part))

-- of the tables below one, the readers were found
abbrev pub AreReadersBelow : DescOf → (keys : List Key) → (limit : ℕ) → List Key → Type 0
AreReadersBelow desc keys limit readers = (key : Key)
    → is_among readers key ≡ (nat_lt key.table limit && is_reader desc keys key)

-- of no table none
pub AreReadersBelow-start : (desc : DescOf) (keys : List Key) → AreReadersBelow desc keys 0 []
AreReadersBelow-start desc keys key = rw (le-ltb key.table 0 (omega arith)) refl

-- those of one table more
pub AreReadersBelow-push : (desc : DescOf) (keys : List Key) (number : ℕ) (readers : List Key)
    (parts : List ℕ) → AreReadersBelow desc keys number readers
    → ((part : ℕ) → has parts part ≡ is_reader desc keys (key_of number part))
    → AreReadersBelow desc keys (number + 1) (readers ++ map (key_of number) parts)
AreReadersBelow-push desc keys number readers parts before own key =
    list_any-append (is_key key) readers (map (key_of number) parts)
    ∙ (λ i. before key i || is_among-key_of number parts key i)
    ∙ elim (cases_eq key.table number) [
      | inl same ↦ rw (
        own key.part,
        le-ltb key.table number (omega arith),
        lt-ltb key.table (number + 1) (omega arith),
        eq-eqb number key.table (sym same),
      )
          (and-true (is_reader desc keys (key_of number key.part))
          ∙ ap (λ (table : ℕ). is_reader desc keys (key_of table key.part)) (sym same))
      | inr other ↦ rw (
        ne_eqb number key.table (λ same. other (sym same)),
        and-false (has parts key.part),
        or-false (nat_lt key.table number && is_reader desc keys key),
      )
          (ap (λ (below : Bool). below && is_reader desc keys key)
          (let below : nat_lt key.table number ≡ nat_lt key.table (number + 1) =
          grind (arith, nat_tests, other) in below))
    ]

-- of all tables all readers
pub AreReaders-all : (desc : DescOf) (keys readers : List Key)
    → AreReadersBelow desc keys (length desc.tables) readers → AreReaders desc keys readers
AreReaders-all desc keys readers all key =
    all key
    ∙ elim (cases_Bool (is_among (all_view_keys desc) key)) [
      | inl view ↦
          let part = is_part-all_view_keys desc key view in
          rw (view, part, lt-ltb key.table (length desc.tables) (is_part-table desc key part))
          (and-true (reads desc keys key))
      | inr other ↦ rw other (none (is_part desc key) refl other)
    ]
  where
    none : (part : Bool) → is_part desc key ≡ part → is_among (all_view_keys desc) key ≡ false
        → (nat_lt key.table (length desc.tables) && (reads desc keys key && is_part desc key))
        ≡ false
    none true part other =
        rw (sources_of-none desc key part other)
        (and-false (nat_lt key.table (length desc.tables)))
    none false part other =
        rw (part, and-false (reads desc keys key))
        (and-false (nat_lt key.table (length desc.tables)))
