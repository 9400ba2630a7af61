-- Lists of partitions' numbers, one for each table, as the program that computes reached partitions
-- fills them.
use Rattle.std.proofs.Common.{◌≡◌, ◌∙◌, ℕ, ◌<◌, List, [], ◌∷◌, ◌++◌, length, get_or, set, refl}
use Rattle.std.proofs.Common.{sym, ap, inl, inr, arith}
use Rattle.std.specs.Prelude.{Bool, true, false, ◌||◌, ◌&&◌, nat_eq, All, Vec, flat_map}
use Rattle.std.specs.List.{list_any}
use Rattle.std.specs.declared.alloc.Global.{Global}
use Rattle.std.proofs.lemmas.Bool.{cases_eq}
use Rattle.std.proofs.lemmas.Bool.Decides.{nat_tests}
use Rattle.std.proofs.lemmas.List.{append-nil, get_or-map, get_or-set_other, get_or-set_same}
use Rattle.std.proofs.lemmas.List.{length-map}
use Rattle.std.proofs.lemmas.List.Elements.{Contains-get_or}
use Rattle.std.proofs.lemmas.List.Folds.{list_any-append}
use Rattle.std.proofs.Math.Bool.{and-true, or-false}
use Rattle.partition_map.specs.declared.time.Span.{Span}
use Rattle.partition_map.specs.Time.{END}
use Rattle.partition_map.specs.Partitions.{start_of, is_met, all_parts, has}
use Rattle.partition_map.specs.Partitions.{source_parts, dependent_parts}
use Rattle.partition_map.proofs.DependentLemmas.{mutual_parts}
use Rattle.partition_map.proofs.NumberLemmas.{has-filter, has-parts_met}
use Rattle.desc_types.specs.declared.table.Key.{Key}
use Rattle.desc_types.specs.declared.view.Src.{Src}
use Rattle.desc_types.specs.Descriptions.{DescOf}
use Rattle.desc_types.specs.Sources.{table_width}
use Rattle.view_meaning.specs.Partitions.{is_among, is_key, key_of, keys_read}
use Rattle.stale_test.specs.PartLists.{AreGained, AreInTime, Gains, is_listed, lists_of}
use Rattle.stale_test.specs.PartLists.{parts_at, reads_listed}
use Rattle.stale_test.proofs.BoolLemmas.{or-or_and}
use Rattle.view_meaning.proofs.ListLemmas.{list_any-agree, list_any-and, list_any-flat_map}
use Rattle.view_meaning.proofs.ListLemmas.{list_any-map}
use Rattle.stale_test.proofs.NumberLemmas.{has-Contains, list_any-has}

-- there are as many lists as vectors
pub length-lists_of : (lists : List (Vec ℕ Global)) → length (lists_of lists) ≡ length lists
length-lists_of lists = length-map lists (λ (parts : Vec ℕ Global). parts.items)

-- the list of a table is that of its vector
pub parts_at-lists_of : (lists : List (Vec ℕ Global)) (table : ℕ) (parts : Vec ℕ Global)
    → table < length lists → parts ≡ get_or lists table parts
    → parts_at (lists_of lists) table ≡ parts.items
parts_at-lists_of lists table parts within read =
    let items = λ (parts : Vec ℕ Global). parts.items in
    get_or-map items lists table parts [] within ∙ ap items (sym read)

-- the vector of a table has the numbers of its partitions that gained rows
pub AreGained-at : (gained : Key → Bool) (lists : List (Vec ℕ Global)) (table : ℕ)
    (parts : Vec ℕ Global) → table < length lists → parts ≡ get_or lists table parts
    → AreGained gained (lists_of lists)
    → (part : ℕ) → has parts.items part ≡ gained (key_of table part)
AreGained-at gained lists table parts within read exact part =
    ap (λ (parts : List ℕ). has parts part) (sym (parts_at-lists_of lists table parts within read))
    ∙ exact table part

-- a list with a number at its end has the number of one key more
has-push : (keys : List Key) (key : Key) (parts : List ℕ) (part : ℕ)
    → has parts part ≡ is_among keys (key_of key.table part)
    → has (parts ++ key.part ∷ []) part ≡ is_among (keys ++ key ∷ []) (key_of key.table part)
has-push keys key parts part had =
    let last : nat_eq part key.part ≡ is_key (key_of key.table part) key =
    grind (arith, nat_tests) in
    list_any-append (nat_eq part) parts (key.part ∷ [])
    ∙ (λ i. had i || (last i || false))
    ∙ sym (list_any-append (is_key (key_of key.table part)) keys (key ∷ []))

-- a key of another table is among as many as before
is_among-other : (keys : List Key) (key : Key) (table part : ℕ) → (table ≡ key.table → ⊥)
    → is_among (keys ++ key ∷ []) (key_of table part) ≡ is_among keys (key_of table part)
is_among-other keys key table part other =
    let last : is_key (key_of table part) key ≡ false = grind (arith, nat_tests, other) in
    list_any-append (is_key (key_of table part)) keys (key ∷ [])
    ∙ ap (λ (same : Bool). is_among keys (key_of table part) || (same || false)) last
    ∙ or-false (is_among keys (key_of table part))

-- the lists have the numbers of one key more, if its number is put at the end of those of its table
pub AreGained-push : (keys : List Key) (key : Key) (lists : List (List ℕ))
    → key.table < length lists → AreGained (is_among keys) lists
    → AreGained (is_among (keys ++ key ∷ []))
    (set lists key.table (parts_at lists key.table ++ key.part ∷ []))
AreGained-push keys key lists within gained table part =
    let parts = parts_at lists key.table ++ key.part ∷ [] in
    elim (cases_eq table key.table) [
      | inl same ↦ rw same
          (ap (λ (parts : List ℕ). has parts part)
          (get_or-set_same lists key.table parts [] within)
          ∙ has-push keys key (parts_at lists key.table) part (gained key.table part))
      | inr other ↦
          ap (λ (parts : List ℕ). has parts part)
          (get_or-set_other lists key.table table parts [] other)
          ∙ gained table part
          ∙ sym (is_among-other keys key table part other)
    ]

-- each number listed of a table is that of a partition that begins in time
pub All-in_time : (desc : DescOf) (lists : List (List ℕ)) (table : ℕ) → AreInTime desc lists
    → All (λ part. start_of (table_width desc table) part < END) (parts_at lists table)
All-in_time desc lists table in_time index default within =
    let listed = parts_at lists table in
    let part = get_or listed index default in
    in_time (key_of table part)
    (has-Contains listed part (Contains-get_or listed index default within))

-- a partition is among all of a table exactly if it shares a tick with time
pub has-all_parts : (width part : ℕ) → has (all_parts width) part ≡ is_met width 0 END part
unfolding all_parts
has-all_parts width part = has-parts_met width 0 END part

-- a number is among the dependents of a source's partition exactly if it is that of a partition
-- which has that one among its sources: sources and dependents mirror each other
pub has-dependent_parts : (width source_width : ℕ) (span : Span) (source part : ℕ)
    → has (dependent_parts width source_width span source) part
    ≡ (has (source_parts width source_width span part) source && is_met width 0 END part)
has-dependent_parts width source_width span source part = at_part (is_met width 0 END part) refl
  where
    reads : ℕ → Bool
    reads part = has (source_parts width source_width span part) source

    at_part : (is_part : Bool) → is_met width 0 END part ≡ is_part
        → has (dependent_parts width source_width span source) part ≡ (reads part && is_part)
    at_part true met =
        sym (and-true (reads part) ∙ mutual_parts width source_width span part source met)
    at_part false met =
        has-filter reads (all_parts width) part
        ∙ ap (λ (there : Bool). reads part && there) (has-all_parts width part ∙ met)

-- a partition reads a listed one of a source exactly if a listed one is among its sources
list_any-keys_read : (desc : DescOf) (width part : ℕ) (src : Src) (lists : List (List ℕ))
    → list_any (has (source_parts width (table_width desc src.table) src.span part))
    (parts_at lists src.table)
    ≡ list_any (is_listed lists) (keys_read desc width part src)
list_any-keys_read desc width part src lists =
    let read = source_parts width (table_width desc src.table) src.span part in
    list_any-has read (parts_at lists src.table)
    ∙ sym (list_any-map (is_listed lists) (key_of src.table) read)

-- the dependents of listed partitions of a source are the partitions that read a listed one
has-dependents : (desc : DescOf) (width part : ℕ) (src : Src) (lists : List (List ℕ))
    → has (flat_map (dependent_parts width (table_width desc src.table) src.span)
    (parts_at lists src.table)) part
    ≡ reads_listed desc lists width (src ∷ []) part
has-dependents desc width part src lists =
    let met = is_met width 0 END part in
    let listed = parts_at lists src.table in
    let source_width = table_width desc src.table in
    let dependents = dependent_parts width source_width src.span in
    let read = source_parts width source_width src.span part in
    list_any-flat_map (nat_eq part) dependents listed
    ∙ list_any-agree (λ source. has (dependents source) part) (λ source. has read source && met)
    listed (λ index default _.
    has-dependent_parts width source_width src.span (get_or listed index default) part)
    ∙ list_any-and (has read) met listed
    ∙ ap (λ (any : Bool). any && met) (list_any-keys_read desc width part src lists)
    ∙ ap (λ (keys : List Key). list_any (is_listed lists) keys && met)
    (sym (append-nil (keys_read desc width part src)))

-- a list gains the partitions that read listed ones of a source, by their numbers put at its end
pub Gains-dependents : (desc : DescOf) (width : ℕ) (src : Src) (lists : List (List ℕ))
    (old new : List ℕ)
    → new ≡ old ++ flat_map (dependent_parts width (table_width desc src.table) src.span)
    (parts_at lists src.table)
    → Gains (reads_listed desc lists width (src ∷ [])) old new
Gains-dependents desc width src lists old new pushed part =
    let dependents = dependent_parts width (table_width desc src.table) src.span in
    ap (λ (parts : List ℕ). has parts part) pushed
    ∙ list_any-append (nat_eq part) old (flat_map dependents (parts_at lists src.table))
    ∙ ap (λ (read : Bool). has old part || read) (has-dependents desc width part src lists)

-- a list that gains those of one source, then those of another, gains those of both
pub Gains-both : (desc : DescOf) (lists : List (List ℕ)) (width : ℕ) (left right : Src)
    (old between new : List ℕ)
    → Gains (reads_listed desc lists width (left ∷ [])) old between
    → Gains (reads_listed desc lists width (right ∷ [])) between new
    → Gains (reads_listed desc lists width (left ∷ right ∷ [])) old new
Gains-both desc lists width left right old between new first second part =
    let met = is_met width 0 END part in
    let keys = keys_read desc width part left in
    let more = flat_map (keys_read desc width part) (right ∷ []) in
    let any = list_any (is_listed lists) in
    second part
    ∙ ap (λ (had : Bool). had || (any more && met))
    (first part
    ∙ ap (λ (keys : List Key). has old part || (any keys && met)) (append-nil keys))
    ∙ or-or_and (has old part) (any keys) (any more) met
    ∙ ap (λ (read : Bool). has old part || (read && met))
    (sym (list_any-append (is_listed lists) keys more))
