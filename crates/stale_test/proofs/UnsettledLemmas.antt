-- The unsettled partitions in order of key, as a map holds them: `unsettled_keys-unsettled`.
use Rattle.std.proofs.Common.{◌≡◌, ◌∙◌, List, [], ◌∷◌, get_or, cond, refl, sym, ap}
use Rattle.std.proofs.Common.{inl, inr, arith}
use Rattle.std.specs.Prelude.{Bool, true, false, ◌||◌, ◌&&◌, ◌⊎◌, Option, Some, None, All, find}
use Rattle.std.specs.Prelude.{not}
use Rattle.std.specs.Prelude.{is_some, unwrap_or}
use Rattle.std.specs.BTreeMap.{is_at}
use Rattle.std.specs.BTreeMap.Range.{entries_between}
use Rattle.std.specs.List.{AllPairs, filter}
use Rattle.std.specs.List.Sorted.{IsStrictlySortedBy}
use Rattle.std.specs.Map.{keys_of, lookup}
use Rattle.std.specs.Ordering.{is_gt}
use Rattle.std.specs.declared.cmp.Ordering.{Ordering}
use Rattle.std.specs.declared.cmp.Ordering.TheVariants.{Less, Equal, Greater}
use Rattle.std.specs.declared.ops.Bound.TheVariants.{Included, Unbounded}
use Rattle.std.specs.Option.{option_map}
use Rattle.std.proofs.lemmas.Bool.{cases_Bool, false≢true, or_left}
use Rattle.std.proofs.lemmas.Bool.Decides.{nat_tests}
use Rattle.std.proofs.lemmas.Cmp.{eq_by_cmp_equiv}
use Rattle.std.proofs.lemmas.List.{get_or-map, length-map}
use Rattle.std.proofs.lemmas.List.Kept.{AllPairs-filter}
use Rattle.std.proofs.lemmas.Map.Entries.{lookup-filter-values, option_filter}
use Rattle.std.proofs.lemmas.Map.Keys.{IsDistinct-from_sorted, Less-from_sorted}
use Rattle.std.proofs.lemmas.Map.Made.{is_some-lookup}
use Rattle.desc_types.specs.declared.table.Key.{Key}
use Rattle.desc_types.specs.Descriptions.{DescOf}
use Rattle.desc_types.specs.Keys.{key_cmp}
use Rattle.view_meaning.specs.declared.journal.Entry.{Entry}
use Rattle.view_meaning.specs.Drains.{all_view_keys, unsettled}
use Rattle.view_meaning.specs.Partitions.{is_among, is_key}
use Rattle.view_meaning.specs.Staleness.{is_settled}
use Rattle.view_meaning.proofs.AmongLemmas.{All-is_among, IsBefore, is_among-after, is_key-itself}
use Rattle.view_meaning.proofs.AmongLemmas.{is_key-same}
use Rattle.view_meaning.proofs.KeyLemmas.{AllPairs-all_view_keys}
use Rattle.view_meaning.proofs.ListLemmas.{AllPairs-head, AllPairs-map, AllPairs-tail}
use Rattle.view_meaning.proofs.ListLemmas.{list_any-agree}
use Rattle.stale_test.specs.declared.standing.Standing.{Standing}
use Rattle.stale_test.specs.declared.standing.Standing.TheVariants.{Place}
use Rattle.stale_test.specs.Books.{StaleBookOf, TellsStale}
use Rattle.stale_test.specs.Standings.{Standings, standing_in, tells_unsettled, unsettled_keys}
use Rattle.stale_test.proofs.OrderLemmas.{is_at-is_key, key_cmp-total}

-- whether an entry is of an unsettled partition
abbrev pub is_open : Key × Standing → Bool
is_open entry = tells_unsettled entry.1

-- the first entry from a key on that is of an unsettled partition is that of the first such key
pub find-unsettled_keys : (from : Key) (entries : Standings)
    → option_map (λ (entry : Key × Standing). entry.0)
    (find is_open (entries_between key_cmp (Included from) Unbounded entries))
    ≡ find (λ key. not (is_gt (key_cmp from key))) (unsettled_keys entries)
find-unsettled_keys from [] = refl
find-unsettled_keys from (entry ∷ later) =
    at (key_cmp from entry.0) (tells_unsettled entry.1) refl refl (find-unsettled_keys from later)
  where
    first : Standings → Option Key
    first entries = option_map (λ (entry : Key × Standing). entry.0)
        (find is_open (entries_between key_cmp (Included from) Unbounded entries))

    told : Standings → Option Key
    told entries = find (λ key. not (is_gt (key_cmp from key))) (unsettled_keys entries)

    at : (order : Ordering) (unsettled : Bool) → key_cmp from entry.0 ≡ order
        → tells_unsettled entry.1 ≡ unsettled → first later ≡ told later
        → first (entry ∷ later) ≡ told (entry ∷ later)
    at Less true order is rest = rw (order, is, order) refl
    at Less false order is rest = rw (order, is) rest
    at Equal true order is rest = rw (order, is, order) refl
    at Equal false order is rest = rw (order, is) rest
    at Greater true order is rest = rw (order, is, order) rest
    at Greater false order is rest = rw (order, is) rest

-- of an entry that is of one, it is the first
pub find-open : (key : Key) (standing : Standing) (later : Standings)
    → tells_unsettled standing ≡ true
    → find is_open ((key, standing) ∷ later) ≡ Some (key, standing)
find-open key standing later unsettled = rw unsettled refl

-- of an entry that is not of one, the first is after it
pub find-settled : (key : Key) (standing : Standing) (later : Standings)
    → tells_unsettled standing ≡ false
    → find is_open ((key, standing) ∷ later) ≡ find is_open later
find-settled key standing later settled = rw settled refl

-- two keys are the same either way round
is_key-swap : (key other : Key) → is_key key other ≡ is_key other key
is_key-swap key other = grind (arith, nat_tests)

-- the keys of a map tell whether each is unsettled
is_among-unsettled_keys : (entries : Standings) (key : Key)
    → IsStrictlySortedBy key_cmp (keys_of entries)
    → is_among (unsettled_keys entries) key ≡ tells_unsettled (standing_in entries key)
is_among-unsettled_keys entries key sorted =
    let kept = filter is_open entries in
    list_any-agree (is_key key) (is_at (key_cmp key)) (keys_of kept)
    (λ index default _. mirrored (get_or (keys_of kept) index default))
    ∙ sym (is_some-lookup (is_at (key_cmp key)) kept)
    ∙ ap is_some (lookup-filter-values (eq_by_cmp_equiv key_cmp-total) tells_unsettled key entries
    (IsDistinct-from_sorted key_cmp (keys_of entries) sorted))
    ∙ at (lookup (is_at (key_cmp key)) entries)
  where
    mirrored : (other : Key) → is_key key other ≡ is_at (key_cmp key) other
    mirrored other = is_key-swap key other ∙ sym (is_at-is_key key other)

    at : (found : Option Standing) → is_some (option_filter tells_unsettled found)
        ≡ tells_unsettled (unwrap_or found Place)
    at None = refl
    at (Some standing) = each (tells_unsettled standing)
      where
        each : (unsettled : Bool) → is_some (cond unsettled (Some standing) None) ≡ unsettled
        each true = refl
        each false = refl

-- a key that compares as less stands before
IsBefore-Less : (key later : Key) → key_cmp key later ≡ Less → IsBefore key later
IsBefore-Less key later less = grind (arith, nat_tests, less)

-- the keys of a map stand in order
AllPairs-unsettled_keys : (entries : Standings) → IsStrictlySortedBy key_cmp (keys_of entries)
    → AllPairs IsBefore (unsettled_keys entries)
AllPairs-unsettled_keys entries sorted =
    AllPairs-map IsBefore (λ (entry : Key × Standing). entry.0) (filter is_open entries)
    (AllPairs-filter (λ (entry next : Key × Standing). IsBefore entry.0 next.0) is_open entries
    (λ first second default before within.
    let key = λ (entry : Key × Standing). entry.0 in
    let less = Less-from_sorted key_cmp (keys_of entries) first second (default.0) sorted before
    (omega (arith, length-map entries key)) in
    IsBefore-Less (get_or entries first default).0 (get_or entries second default).0
    (rw (
      get_or-map key entries first default (default.0) (omega arith),
      get_or-map key entries second default (default.0) within,
    ) at less)))

-- of keys in order, the first is the least
first-least : (first key : Key) (later : List Key) → All (IsBefore first) later
    → is_among (first ∷ later) key ≡ true → (is_key key first ≡ true) ⊎ IsBefore first key
first-least first key later before among =
    elim (cases_Bool (is_key key first)) [
      | inl same ↦ inl same
      | inr other ↦ inr (All-is_among (IsBefore first) later key before
          (ap (λ (here : Bool). here || is_among later key) (sym other) ∙ among))
    ]

-- no key stands before one that stands before it
IsBefore-apart : (key other : Key) → IsBefore key other → IsBefore other key → ⊥
IsBefore-apart key other before after = omega arith

-- the first keys of two lists in order are the same, if each has that of the other
firsts-same : (x y : Key) (xs ys : List Key) → All (IsBefore x) xs → All (IsBefore y) ys
    → is_among (y ∷ ys) x ≡ true → is_among (x ∷ xs) y ≡ true → x ≡ y
firsts-same x y xs ys above above_too there here =
    elim (first-least y x ys above_too there) [
      | inl same ↦ sym (is_key-same x y same)
      | inr after ↦ elim (first-least x y xs above here) [
        | inl same ↦ is_key-same y x same
        | inr before ↦ absurd (IsBefore-apart x y before after)
      ]
    ]

-- after its first key a list in order has the other keys that it has
is_among-rest : (first key : Key) (xs : List Key) (here : Bool) → All (IsBefore first) xs
    → is_key key first ≡ here
    → is_among xs key ≡ (not here && is_among (first ∷ xs) key)
is_among-rest first key xs true above same =
    ap (λ (key : Key). is_among xs key) (sym (is_key-same key first same))
    ∙ is_among-after first xs above
is_among-rest first key xs false above other = rw other refl

-- a list with a key in front has that key
is_among-first : (first : Key) (xs : List Key) → is_among (first ∷ xs) first ≡ true
is_among-first first xs =
    or_left (is_key first first) (is_among xs first) (is_key-itself first)

-- two lists of keys in order that have the same keys are the same
keys-same : (xs ys : List Key) → AllPairs IsBefore xs → AllPairs IsBefore ys
    → ((key : Key) → is_among xs key ≡ is_among ys key) → xs ≡ ys
keys-same [] [] order also same = refl
keys-same [] (y ∷ ys) order also same = absurd (false≢true (same y ∙ is_among-first y ys))
keys-same (x ∷ xs) [] order also same =
    absurd (false≢true (sym (same x) ∙ is_among-first x xs))
keys-same (x ∷ xs) (y ∷ ys) order also same =
    let above = AllPairs-head IsBefore x xs order in
    let above_too = AllPairs-head IsBefore y ys also in
    let firsts : x ≡ y = firsts-same x y xs ys above above_too
    (sym (same x) ∙ is_among-first x xs) (same y ∙ is_among-first y ys) in
    let rest : (key : Key) → is_among xs key ≡ is_among ys key = λ key.
    is_among-rest x key xs (is_key key x) above refl
    ∙ ap (λ (among : Bool). not (is_key key x) && among) (same key)
    ∙ sym (is_among-rest y key ys (is_key key x) above_too
    (ap (λ (first : Key). is_key key first) (sym firsts))) in
    λ i. firsts i ∷ keys-same xs ys (AllPairs-tail IsBefore x xs order)
    (AllPairs-tail IsBefore y ys also) rest i

-- what a map holds as unsettled is what is
pub unsettled_keys-unsettled : (desc : DescOf) (journal : List Entry) (book : StaleBookOf)
    → IsStrictlySortedBy key_cmp (keys_of book.unsettled) → TellsStale desc journal book
    → unsettled_keys book.unsettled ≡ unsettled desc journal
unsettled_keys-unsettled desc journal book sorted tells =
    keys-same (unsettled_keys book.unsettled) (unsettled desc journal)
    (AllPairs-unsettled_keys book.unsettled sorted)
    (AllPairs-filter IsBefore (λ key. not (is_settled desc journal key)) (all_view_keys desc)
    (AllPairs-all_view_keys desc))
    (λ key. is_among-unsettled_keys book.unsettled key sorted ∙ tells.unsettled key)
