-- The lists of reached partitions' numbers, as the program that computes them makes one after the
-- other, and the keys that it tells of them.
use Rattle.std.proofs.Common.{◌≡◌, ◌∙◌, ℕ, ◌+◌, ◌<◌, List, [], ◌∷◌, ◌++◌, length, get_or, map, refl}
use Rattle.std.proofs.Common.{ap, sym, arith, ⊎_elim}
use Rattle.std.specs.Prelude.{Bool, true, false, ◌&&◌, ◌||◌, Option, Some, All, flat_map, max, min}
use Rattle.std.specs.Prelude.{slice_get, if◌then◌else◌, Vec}
use Rattle.std.specs.List.{filter, list_any, range_with_len}
use Rattle.std.specs.declared.alloc.Global.{Global}
use Rattle.std.specs.List.Sorted.{IsStrictlyIncreasing}
use Rattle.std.proofs.lemmas.Bool.{and_parts, cases_lt, false≢true, ltb-true}
use Rattle.std.proofs.lemmas.List.{append-nil, get_or_append_left, get_or_past, length-append}
use Rattle.std.proofs.lemmas.List.Concat.{flat_map-append}
use Rattle.std.proofs.lemmas.List.Kept.{AllPairs-filter, AllPairs-from_increasing}
use Rattle.std.proofs.Math.Bool.{and-true}
use Rattle.std.proofs.Math.Seq.{get_or-append_seam}
use Rattle.partition_map.specs.Time.{END}
use Rattle.partition_map.specs.Partitions.{start_of, end_of, is_met, all_parts, has}
use Rattle.partition_map.proofs.ListLemmas.{range_with_len-append}
use Rattle.partition_map.proofs.NumberLemmas.{has-filter}
use Rattle.desc_types.specs.declared.table.Key.{Key}
use Rattle.desc_types.specs.Descriptions.{DescOf}
use Rattle.desc_types.specs.Tables.{TableOf}
use Rattle.desc_types.specs.Sources.{HasEarlierSources, kind_sources, table_width, width_of}
use Rattle.view_meaning.specs.Partitions.{is_part, key_of, keys_below, sources_of}
use Rattle.view_meaning.specs.Versions.{is_raw_kind}
use Rattle.view_meaning.specs.Drains.{view_keys}
use Rattle.view_meaning.specs.Reached.{is_reached, reached}
use Rattle.stale_test.specs.PartLists.{AllReached, AreGained, AreInTime, AreUpTo, Gains}
use Rattle.stale_test.specs.PartLists.{is_listed, is_reached_part, keys_of_view, lists_of}
use Rattle.stale_test.specs.PartLists.{reached_of, reads_listed}
use Rattle.stale_test.proofs.BoolLemmas.{or-and}
use Rattle.view_meaning.proofs.ListLemmas.{list_any-agree}
use Rattle.stale_test.proofs.ListLemmas.{filter-flat_map, filter-map}
use Rattle.view_meaning.proofs.KeyLemmas.{AllPairs-all_parts, sources_of-parts}
use Rattle.stale_test.proofs.NumberLemmas.{rising-same}
use Rattle.stale_test.proofs.PartListLemmas.{AreGained-at, has-all_parts, length-lists_of}
use Rattle.stale_test.proofs.GainedLemmas.{AreParts, gained-outside}
use Rattle.view_meaning.proofs.ReachedLemmas.{is_reached-step}
use Rattle.view_meaning.proofs.SourceLemmas.{sources_of-earlier}

-- a partition that shares a tick with time begins in it
pub start-is_part : (width part : ℕ) → is_met width 0 END part ≡ true → start_of width part < END
start-is_part width part met =
    let shared = ltb-true (max (start_of width part) 0) (min (end_of width part) END) met in
    omega arith

-- listed numbers of reached partitions are of partitions that begin in time
pub AreInTime-AllReached : (desc : DescOf) (gained : Key → Bool) (lists : List (List ℕ))
    → AllReached desc gained lists → AreInTime desc lists
AreInTime-AllReached desc gained lists reached key listed = ⊎_elim
    (λ below. start-is_part (table_width desc key.table) key.part
    (and_parts (is_reached desc gained key) (is_part desc key)
    (sym (reached key.table key.part below) ∙ listed)).1)
    (λ behind. absurd (false≢true
    (ap (λ (parts : List ℕ). has parts key.part) (sym (get_or_past lists key.table [] behind))
    ∙ listed)))
    (cases_lt key.table (length lists))

-- the numbers are those of a table's partitions that are reached, in order
pub record IsNext (desc : DescOf) (gained : Key → Bool) (number : ℕ) (table : TableOf)
    (parts : List ℕ) : Type 0 where
  pub there : slice_get desc.tables number ≡ Some table
  pub rising : IsStrictlyIncreasing parts
  pub exact : (part : ℕ) → has parts part ≡ is_reached_part desc gained (key_of number part)

-- of the first table without a list, the sources that are listed are those that are reached
is_listed-sources : (desc : DescOf) (gained : Key → Bool) (lists : List (List ℕ))
    (key : Key) → HasEarlierSources desc → AllReached desc gained lists
    → key.table ≡ length lists
    → All (λ source. is_listed lists source ≡ is_reached desc gained source)
    (sources_of desc key)
is_listed-sources desc gained lists key earlier reached next index default within =
    let source = get_or (sources_of desc key) index default in
    let before : source.table < key.table =
    sources_of-earlier desc key earlier index default within in
    reached source.table source.part (omega arith)
    ∙ ap (λ (part : Bool). is_reached desc gained source && part)
    (sources_of-parts desc key index default within)
    ∙ and-true (is_reached desc gained source)

-- so a partition of that table reads a listed one exactly if it has a source that is reached
reads_listed-reached : (desc : DescOf) (gained : Key → Bool) (lists : List (List ℕ))
    (number : ℕ) (table : TableOf) (part : ℕ)
    → HasEarlierSources desc → slice_get desc.tables number ≡ Some table → number ≡ length lists
    → AllReached desc gained lists
    → reads_listed desc lists table.width (kind_sources table.kind) part
    ≡ (list_any (is_reached desc gained) (sources_of desc (key_of number part))
    && is_part desc (key_of number part))
reads_listed-reached desc gained lists number table part earlier there next reached =
    let key = key_of number part in
    ap (λ (found : Option TableOf). list_any (is_listed lists) (keys_below desc part found)
    && is_met (width_of found) 0 END part) (sym there)
    ∙ ap (λ (any : Bool). any && is_part desc key)
    (list_any-agree (is_listed lists) (is_reached desc gained) (sources_of desc key)
    (is_listed-sources desc gained lists key earlier reached next))

-- the numbers of a table's partitions that gained rows, with those that read listed ones, are
-- those that are reached of it
pub has-reached : (desc : DescOf) (gained : Key → Bool) (lists : List (List ℕ))
    (number : ℕ) (table : TableOf) (own all : List ℕ)
    → HasEarlierSources desc → AreParts desc gained
    → slice_get desc.tables number ≡ Some table → number ≡ length lists
    → AllReached desc gained lists
    → ((part : ℕ) → has own part ≡ gained (key_of number part))
    → Gains (reads_listed desc lists table.width (kind_sources table.kind)) own all
    → (part : ℕ) → has all part ≡ is_reached_part desc gained (key_of number part)
has-reached desc gained lists number table own all earlier parts there next reached exact gains
    part =
    let key = key_of number part in
    gains part
    ∙ ap (λ (had : Bool). had || reads_listed desc lists table.width (kind_sources table.kind) part)
    (exact part)
    ∙ ap (λ (read : Bool). gained key || read)
    (reads_listed-reached desc gained lists number table part earlier there next reached)
    ∙ or-and (gained key) (list_any (is_reached desc gained) (sources_of desc key))
    (is_part desc key) (gained-outside desc gained key parts)
    ∙ ap (λ (any : Bool). any && is_part desc key) (sym (is_reached-step desc gained key earlier))

-- one list more
AllReached-push : (desc : DescOf) (gained : Key → Bool) (lists : List (List ℕ))
    (parts : List ℕ) → AllReached desc gained lists
    → ((part : ℕ) → has parts part ≡ is_reached_part desc gained (key_of (length lists) part))
    → AllReached desc gained (lists ++ parts ∷ [])
AllReached-push desc gained lists parts reached own table part within = ⊎_elim
    (λ below. ap (λ (parts : List ℕ). has parts part)
    (get_or_append_left lists (parts ∷ []) [] table below) ∙ reached table part below)
    (λ behind. let last : table ≡ length lists = omega (arith, length-append lists (parts ∷ [])) in
    rw last (ap (λ (parts : List ℕ). has parts part) (get_or-append_seam lists parts [] [])
    ∙ own part))
    (cases_lt table (length lists))

-- rising numbers that are reached of a table are, of all its partitions, those that are reached
rising-reached : (desc : DescOf) (gained : Key → Bool) (number : ℕ) (table : TableOf)
    (parts : List ℕ) → IsNext desc gained number table parts
    → parts ≡ filter (λ part. is_reached desc gained (key_of number part))
    (all_parts table.width)
rising-reached desc gained number table parts next =
    rising-same parts (filter test (all_parts table.width))
    (AllPairs-from_increasing parts next.rising)
    (AllPairs-filter (λ x y. x < y) test (all_parts table.width)
    (AllPairs-all_parts table.width))
    (λ part. next.exact part
    ∙ ap (λ (found : Option TableOf). test part && is_met (width_of found) 0 END part) next.there
    ∙ ap (λ (there : Bool). test part && there) (sym (has-all_parts table.width part))
    ∙ sym (has-filter test (all_parts table.width) part))
  where
    test : ℕ → Bool
    test part = is_reached desc gained (key_of number part)

-- the keys told of a view are those of its partitions that are reached
keys_of_view-reached : (desc : DescOf) (gained : Key → Bool) (number : ℕ)
    (table : TableOf) (parts : List ℕ) → IsNext desc gained number table parts
    → keys_of_view number table.kind parts ≡ reached_of desc gained number
keys_of_view-reached desc gained number table parts next =
    at_kind (is_raw_kind table.kind)
    ∙ ap (λ (found : Option TableOf). filter (is_reached desc gained) (view_keys number found))
    (sym next.there)
  where
    at_kind : (raw : Bool) → (if raw then [] else map (key_of number) parts)
        ≡ filter (is_reached desc gained)
        (if raw then [] else map (key_of number) (all_parts table.width))
    at_kind true = refl
    at_kind false =
        ap (λ (parts : List ℕ). map (key_of number) parts)
        (rising-reached desc gained number table parts next)
        ∙ sym (filter-map (is_reached desc gained) (key_of number) (all_parts table.width))

-- the keys of the tables up to one are those of the tables before it, then those of that one
reached_of-push : (desc : DescOf) (gained : Key → Bool) (number : ℕ)
    → flat_map (reached_of desc gained) (range_with_len 0 (number + 1))
    ≡ flat_map (reached_of desc gained) (range_with_len 0 number)
    ++ reached_of desc gained number
reached_of-push desc gained number =
    let keys = reached_of desc gained in
    ap (λ (numbers : List ℕ). flat_map keys numbers)
    (range_with_len-append 0 number 1 number (omega arith))
    ∙ flat_map-append keys (range_with_len 0 number) (number ∷ [])
    ∙ ap (λ (last : List Key). flat_map keys (range_with_len 0 number) ++ last)
    (append-nil (keys number))

-- the keys of all tables are all keys that are reached
pub reached_of-all : (desc : DescOf) (gained : Key → Bool)
    → flat_map (reached_of desc gained) (range_with_len 0 (length desc.tables))
    ≡ reached desc gained
reached_of-all desc gained =
    sym (filter-flat_map (is_reached desc gained)
    (λ number. view_keys number (slice_get desc.tables number))
    (range_with_len 0 (length desc.tables)))

-- one table more
pub AreUpTo-push : (desc : DescOf) (gained : Key → Bool) (lists : List (List ℕ))
    (keys : List Key) (number : ℕ) (table : TableOf) (parts : List ℕ)
    → number ≡ length lists
    → IsNext desc gained number table parts → AreUpTo desc gained lists keys
    → AreUpTo desc gained (lists ++ parts ∷ []) (keys ++ keys_of_view number table.kind parts)
AreUpTo-push desc gained lists keys number table parts end next up_to = record {
  listed = AllReached-push desc gained lists parts up_to.listed (rw end at next.exact);
  told = ap (λ (own : List Key). keys ++ own)
      (keys_of_view-reached desc gained number table parts next)
      ∙ ap (λ (before : List Key). before ++ reached_of desc gained number)
      (rw (← end) at up_to.told)
      ∙ sym (reached_of-push desc gained number)
      ∙ ap (λ (many : ℕ). flat_map (reached_of desc gained) (range_with_len 0 many))
      (omega (arith, length-append lists (parts ∷ [])));
}

-- a turn of the program: the vector of a table gets the numbers that read listed ones, beside those
-- that gained rows, and these are sorted
pub record IsTurn (desc : DescOf) (gained : Key → Bool) (lists : List (Vec ℕ Global))
    (number : ℕ) (table : TableOf) (all : List (Vec ℕ Global)) (parts : Vec ℕ Global)
    (read sorted : List ℕ) : Type 0 where
  pub there : slice_get desc.tables number ≡ Some table
  pub last : number ≡ length lists
  pub within : number < length all
  pub own : parts ≡ get_or all number parts
  pub exact : AreGained gained (lists_of all)
  pub gains : Gains
      (reads_listed desc (lists_of lists) table.width (kind_sources table.kind))
      parts.items read
  pub rising : IsStrictlyIncreasing sorted
  pub same : (part : ℕ) → has sorted part ≡ has read part

-- a turn makes the lists and the keys those of one table more
pub AreUpTo-turn : (desc : DescOf) (gained : Key → Bool) (lists : List (Vec ℕ Global))
    (keys : List Key) (number : ℕ) (table : TableOf) (all : List (Vec ℕ Global))
    (parts : Vec ℕ Global) (read sorted : List ℕ)
    → HasEarlierSources desc → AreParts desc gained
    → IsTurn desc gained lists number table all parts read sorted
    → AreUpTo desc gained (lists_of lists) keys
    → AreUpTo desc gained (lists_of lists ++ sorted ∷ [])
    (keys ++ keys_of_view number table.kind sorted)
AreUpTo-turn desc gained lists keys number table all parts read sorted earlier are_parts turn
    up_to =
    let last : number ≡ length (lists_of lists) =
    omega (arith, turn.last, length-lists_of lists) in
    AreUpTo-push desc gained (lists_of lists) keys number table sorted last
    record {
      there = turn.there;
      rising = turn.rising;
      exact = λ part. turn.same part
          ∙ has-reached desc gained (lists_of lists) number table parts.items read earlier are_parts
          turn.there last up_to.listed
          (AreGained-at gained all number parts turn.within turn.own turn.exact)
          turn.gains part;
    }
    up_to
