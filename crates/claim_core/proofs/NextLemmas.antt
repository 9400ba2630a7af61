-- The search for a ready partition: what the first unsettled one from a partition on is, how far a
-- search came, and that it ends.
use Rattle.std.proofs.Common.{◌≡◌, ◌∙◌, ◌+◌, ◌-◌, ◌*◌, ◌<◌, ◌≤◌, ◌∷◌, List, Some, [], ap, arith, cond}
use Rattle.std.proofs.Common.{inl, inr, length, refl, subst, sym, true, ℕ}
use Rattle.std.specs.Prelude.{All, Bool, None, Option, false, find, not, ◌||◌, ◌⊎◌}
use Rattle.std.specs.BTreeMap.{is_at}
use Rattle.std.specs.List.{AllPairs}
use Rattle.std.specs.Ordering.{is_eq, is_gt, nat_cmp, ordering_then}
use Rattle.std.specs.declared.cmp.Ordering.{Ordering}
use Rattle.std.specs.declared.cmp.Ordering.TheVariants.{Less, Equal, Greater}
use Rattle.std.proofs.lemmas.Bool.{both_ways, cases_Bool, false_from_ne_true, false≢true, or_left}
use Rattle.std.proofs.lemmas.Bool.{or_right}
use Rattle.std.proofs.lemmas.Bool.Decides.{nat_tests}
use Rattle.std.proofs.lemmas.Cmp.{tied_itself, upto}
use Rattle.std.proofs.lemmas.List.Kept.{AllPairs-filter}
use Rattle.desc_types.specs.Descriptions.{DescOf}
use Rattle.desc_types.specs.Keys.{key_cmp}
use Rattle.desc_types.specs.Sources.{HasEarlierSources, table_width}
use Rattle.desc_types.specs.declared.table.Key.{Key}
use Rattle.partition_map.specs.Time.{END}
use Rattle.view_meaning.specs.declared.journal.Entry.{Entry}
use Rattle.view_meaning.specs.Drains.{all_view_keys, unsettled}
use Rattle.view_meaning.specs.Partitions.{is_among, is_key, is_part}
use Rattle.view_meaning.specs.Staleness.{is_settled, is_stale}
use Rattle.view_meaning.proofs.AmongLemmas.{All-is_among, IsBefore, is_key-itself, is_key-same}
use Rattle.view_meaning.proofs.DrainLemmas.{All-unsettled}
use Rattle.view_meaning.proofs.KeyLemmas.{AllPairs-all_view_keys, all_view_keys-parts, is_part-table}
use Rattle.view_meaning.proofs.LegalLemmas.{is_raw-stale}
use Rattle.view_meaning.proofs.ListLemmas.{AllPairs-head, AllPairs-tail}
use Rattle.view_meaning.proofs.SettledLemmas.{is_stale-settled}
use Rattle.depot_marks.proofs.RunLemmas.{is_met-below}
use Rattle.query_pin.proofs.OrderLemmas.{key_cmp-same, key_cmp-total}
use Rattle.stale_test.proofs.TellsLemmas.{is_among-unsettled}
use Rattle.stale_test.proofs.ViewKeyLemmas.{is_among-all_view_keys}
use Rattle.machine_meaning.specs.States.{IsReady, State}
use Rattle.claim_core.specs.Cores.{IsFirstFrom, IsFirstKey, IsNextReady}

-- a partition does not stand before another
abbrev pub IsFromKey : (from key : Key) → Type 0
IsFromKey from key = is_gt (key_cmp from key) ≡ false

-- a partition that stands before another is not after it
IsFromKey-before : (key later : Key) → IsBefore key later → IsFromKey key later
IsFromKey-before key later before = grind (arith, nat_tests, before)

-- one of a list is another than the first, and so is one of the others
is_among-others : (key next : Key) (later : List Key) → is_key key next ≡ false
    → is_among (next ∷ later) key ≡ true → is_among later key ≡ true
is_among-others key next later apart among =
    ap (λ (here : Bool). here || is_among later key) (sym apart) ∙ among

-- if the first stands before a partition, each that does not is one of the others
is_among-behind : (from key next : Key) (later : List Key) → is_gt (key_cmp from next) ≡ true
    → is_among (next ∷ later) key ≡ true → IsFromKey from key → is_among later key ≡ true
is_among-behind from key next later before among here =
    elim (cases_Bool (is_key key next)) [
      | inl same ↦ absurd (both_ways (is_gt (key_cmp from next))
          (ap (λ (key : Key). is_gt (key_cmp from key)) (is_key-same key next same) ∙ here) before)
      | inr apart ↦ is_among-others key next later apart among
    ]

-- then what is first among the others is first among all
IsFirstFrom-behind : (from next : Key) (later : List Key) (found : Option Key)
    → is_gt (key_cmp from next) ≡ true → IsFirstFrom from later found
    → IsFirstFrom from (next ∷ later) found
IsFirstFrom-behind from next later None before none = λ key among here.
    none key (is_among-behind from key next later before among here) here
IsFirstFrom-behind from next later (Some first) before is = record {
  not_before = is.not_before;
  among = or_right (is_key first next) (is_among later first) is.among;
  least = λ key among here.
      is.least key (is_among-behind from key next later before among here) here;
}

-- if it does not stand before, it is first itself
IsFirstKey-here : (from next : Key) (later : List Key) → All (IsBefore next) later
    → IsFromKey from next → IsFirstKey from (next ∷ later) next
IsFirstKey-here from next later ordered here = record {
  not_before = here;
  among = or_left (is_key next next) (is_among later next) (is_key-itself next);
  least = λ key among not_before. elim (cases_Bool (is_key key next)) [
    | inl same ↦ subst (IsFromKey next) (is_key-same key next same)
        (rw (tied_itself key_cmp-total next) refl)
    | inr apart ↦ IsFromKey-before next key
        (All-is_among (IsBefore next) later key ordered
        (is_among-others key next later apart among))
  ];
}

-- of a list in order the first that does not stand before one is the least of those
find-first : (from : Key) (keys : List Key) → AllPairs IsBefore keys
    → IsFirstFrom from keys (find (λ key. not (is_gt (key_cmp from key))) keys)
find-first from [] ordered = λ key among not_before. false≢true among
find-first from (next ∷ later) ordered =
    step (is_gt (key_cmp from next)) refl
    (find-first from later (AllPairs-tail IsBefore next later ordered))
  where
    step : (past : Bool) → is_gt (key_cmp from next) ≡ past
        → IsFirstFrom from later (find (λ key. not (is_gt (key_cmp from key))) later)
        → IsFirstFrom from (next ∷ later)
        (cond (not past) (Some next) (find (λ key. not (is_gt (key_cmp from key))) later))
    step true before first = IsFirstFrom-behind from next later
        (find (λ key. not (is_gt (key_cmp from key))) later) before first
    step false here first =
        IsFirstKey-here from next later (AllPairs-head IsBefore next later ordered) here

-- unsettled partitions stand in order, so the one that is found is the first
pub IsFirstFrom-unsettled : (desc : DescOf) (journal : List Entry) (from : Key)
    (found : Option Key)
    → found ≡ find (λ key. not (is_gt (key_cmp from key))) (unsettled desc journal)
    → IsFirstFrom from (unsettled desc journal) found
IsFirstFrom-unsettled desc journal from found is =
    subst (IsFirstFrom from (unsettled desc journal)) (sym is)
    (find-first from (unsettled desc journal)
    (AllPairs-filter IsBefore (λ key. not (is_settled desc journal key)) (all_view_keys desc)
    (AllPairs-all_view_keys desc)))

-- a ready partition is one of them
is_among-ready : (desc : DescOf) (state : State) (key : Key) → HasEarlierSources desc
    → IsReady desc state key → is_among (unsettled desc state.journal) key ≡ true
is_among-ready desc state key earlier is =
    is_among-unsettled desc state.journal key
    ∙ rw (
      is_among-all_view_keys desc key is.part (is_raw-stale desc state.journal key is.stale),
      false_from_ne_true (is_settled desc state.journal key) (λ settled.
          both_ways (is_stale desc state.journal key)
          (is_stale-settled desc state.journal key earlier settled) is.stale),
    ) refl

-- and each of them is a partition
pub is_part-unsettled : (desc : DescOf) (journal : List Entry) (key : Key)
    → is_among (unsettled desc journal) key ≡ true → is_part desc key ≡ true
is_part-unsettled desc journal key among =
    All-is_among (λ key. is_part desc key ≡ true) (unsettled desc journal) key
    (All-unsettled (λ key. is_part desc key ≡ true) desc journal (all_view_keys-parts desc)) among

-- the number of a partition is below the end of time
pub part-below : (desc : DescOf) (key : Key) → is_part desc key ≡ true → key.part < END
part-below desc key part = is_met-below (table_width desc key.table) key.part part

-- all ready partitions from one on are from the next one on, which is not before it
pub record HasPassed (desc : DescOf) (state : State) (from next : Key) : Type 0 where
  pub not_before : IsFromKey from next
  pub ahead : (key : Key) → IsFromKey from key → IsReady desc state key → IsFromKey next key

-- the partition after another
abbrev pub key_after : Key → Key
key_after key = record { table = key.table; part = key.part + 1 }

-- a partition that is not before another, and is another one, is not before the one after it
IsFromKey-after : (key other : Key) → IsFromKey key other → is_at (key_cmp key) other ≡ false
    → IsFromKey (key_after key) other
IsFromKey-after key other from apart =
    after (nat_cmp key.table other.table) key.part other.part from apart
  where
    after : (order : Ordering) (part more : ℕ)
        → is_gt (ordering_then order (nat_cmp part more)) ≡ false
        → is_eq (ordering_then order (nat_cmp part more)) ≡ false
        → is_gt (ordering_then order (nat_cmp (part + 1) more)) ≡ false
    after Less part more from apart = refl
    after Equal part more from apart = grind (arith, nat_tests, from, apart)
    after Greater part more never apart = absurd (false≢true (sym never))

-- the next partition of a table is not before
IsFromKey-next : (key : Key) → IsFromKey key (key_after key)
IsFromKey-next key = grind (arith, nat_tests)

-- an unsettled partition that is not ready is passed
pub HasPassed-next : (desc : DescOf) (state : State) (from next first : Key)
    → HasEarlierSources desc → HasPassed desc state from next
    → IsFirstKey next (unsettled desc state.journal) first → (IsReady desc state first → ⊥)
    → HasPassed desc state from (key_after first)
HasPassed-next desc state from next first earlier passed is unready = record {
  not_before = upto key_cmp-total from first (key_after first)
      (upto key_cmp-total from next first passed.not_before is.not_before) (IsFromKey-next first);
  ahead = λ key not_before ready.
      IsFromKey-after first key
      (is.least key (is_among-ready desc state key earlier ready)
      (passed.ahead key not_before ready))
      (false_from_ne_true (is_at (key_cmp first) key) (λ at.
      unready (subst (IsReady desc state) (sym (key_cmp-same first key at)) ready)));
}

-- one that is ready is the next one
pub IsNextReady-found : (desc : DescOf) (state : State) (from next first : Key)
    → HasEarlierSources desc → HasPassed desc state from next
    → IsFirstKey next (unsettled desc state.journal) first → IsReady desc state first
    → IsNextReady desc state from (Some first)
IsNextReady-found desc state from next first earlier passed is ready = (
  ready,
  upto key_cmp-total from next first passed.not_before is.not_before,
  λ key not_before other. is.least key (is_among-ready desc state key earlier other)
      (passed.ahead key not_before other),
)

-- if none is unsettled any more, none is ready
pub IsNextReady-none : (desc : DescOf) (state : State) (from next : Key)
    → HasEarlierSources desc → HasPassed desc state from next
    → IsFirstFrom next (unsettled desc state.journal) None → IsNextReady desc state from None
IsNextReady-none desc state from next earlier passed none = λ key not_before ready.
    none key (is_among-ready desc state key earlier ready) (passed.ahead key not_before ready)

-- how many partitions may come from one on
abbrev pub ahead : DescOf → (from : Key) → ℕ
ahead desc from = (length desc.tables - from.table) * (END + 1) + (END - from.part)

-- after a partition that is not before one there are fewer
pub ahead-after : (desc : DescOf) (from key : Key) → is_part desc key ≡ true
    → IsFromKey from key → ahead desc (key_after key) < ahead desc from
ahead-after desc from key part not_before =
    either (parts not_before)
  where
    within : key.table < length desc.tables
    within = is_part-table desc key part

    below : key.part < END
    below = part-below desc key part

    parts : IsFromKey from key
        → (from.table < key.table) ⊎ ((from.table ≡ key.table) × (from.part ≤ key.part))
    parts not_before = grind (arith, nat_tests, not_before)

    either : (from.table < key.table) ⊎ ((from.table ≡ key.table) × (from.part ≤ key.part))
        → ahead desc (key_after key) < ahead desc from
    either (inl earlier) = omega (arith, earlier, within, below)
    either (inr same) = omega (arith, same.0, same.1, within, below)
