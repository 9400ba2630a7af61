-- A drain, key by key: the least ready partition is the first unsettled one (`first-unsettled`), and
-- each install leaves those after it (`HasDrained-step`).
use Rattle.std.proofs.Common.{◌≡◌, ◌∙◌, ◌++◌, ◌∷◌, List, [], Some, ap, append-nil, append_assoc}
use Rattle.std.proofs.Common.{arith, inl, inr, length, refl, subst, sym, take, true}
use Rattle.std.specs.Prelude.{Bool, Err, IfSome, None, Ok, OnErr, Option, Result, false, filter}
use Rattle.std.specs.Prelude.{fold, not, slice_get, ◌||◌}
use Rattle.std.specs.List.{AllPairs}
use Rattle.std.specs.Ordering.{is_gt}
use Rattle.std.proofs.Math.Seq.{take-append_seam}
use Rattle.std.proofs.lemmas.Bool.{both_ways, cases_Bool, false_from_ne_true, false≢true, or_parts}
use Rattle.std.proofs.lemmas.Bool.Decides.{nat_tests}
use Rattle.std.proofs.lemmas.List.Kept.{AllPairs-filter}
use Rattle.std.proofs.lemmas.Option.{same_Some}
use Rattle.std.proofs.lemmas.List.Sums.{fold-append}
use Rattle.desc_types.specs.declared.table.Key.{Key}
use Rattle.desc_types.specs.Descriptions.{DescOf}
use Rattle.desc_types.specs.Keys.{key_cmp}
use Rattle.desc_types.specs.Sources.{HasEarlierSources}
use Rattle.view_meaning.specs.declared.journal.Entry.{Entry}
use Rattle.view_meaning.specs.Drains.{all_view_keys, drained, unsettled, with_install}
use Rattle.view_meaning.specs.Partitions.{is_among, is_key}
use Rattle.view_meaning.specs.Staleness.{is_settled, is_stale}
use Rattle.view_meaning.proofs.AmongLemmas.{All-is_among, IsBefore, is_among-after, is_key-itself}
use Rattle.view_meaning.proofs.AmongLemmas.{is_key-same}
use Rattle.view_meaning.proofs.KeyLemmas.{AllPairs-all_view_keys}
use Rattle.view_meaning.proofs.ListLemmas.{AllPairs-head}
use Rattle.view_meaning.proofs.LegalLemmas.{is_raw-stale}
use Rattle.view_meaning.proofs.SettledLemmas.{is_stale-settled}
use Rattle.stale_test.proofs.TellsLemmas.{is_among-unsettled}
use Rattle.stale_test.proofs.ViewKeyLemmas.{is_among-all_view_keys}
use Rattle.machine_meaning.specs.Progress.{Settles}
use Rattle.machine_meaning.specs.States.{IsGood, IsReady, State}
use Rattle.machine_meaning.proofs.ProgressLemmas.{ready_first}
use Rattle.claim_core.specs.Cores.{IsNextReady}
use Rattle.run_journal.specs.KeptJournals.{DrainsSome, IsKept, JournalOf, TellsAsBefore, entries_of}
use Rattle.run_journal.specs.KeptJournals.{reclaimed_of}
use Rattle.run_journal.proofs.KeptLemmas.{IsKept-as_before}
use Rattle.run_journal.proofs.VersionCountLemmas.{reclaimed_of-as_before}

-- what holds in any case holds of an error
pub OnErr-each : {T E P : Type 0} (result : Result T E) → P → OnErr result P
OnErr-each (Ok value) holds = tt
OnErr-each (Err fault) holds = holds

-- the first key
abbrev pub least_key : Key
least_key = record { table = 0; part = 0 }

-- no key stands before it
pub from-least : (key : Key) → is_gt (key_cmp least_key key) ≡ false
from-least key = grind (arith, nat_tests)

-- a key that stands before another is not after it as well
before-apart : (first key : Key) → IsBefore first key → is_gt (key_cmp key first) ≡ true
before-apart first key before = grind (arith, nat_tests, before)

-- unsettled partitions stand in order
AllPairs-unsettled : (desc : DescOf) (journal : List Entry)
    → AllPairs IsBefore (unsettled desc journal)
AllPairs-unsettled desc journal =
    AllPairs-filter IsBefore (λ key. not (is_settled desc journal key)) (all_view_keys desc)
    (AllPairs-all_view_keys desc)

-- a ready partition is one of them
is_among-ready : (desc : DescOf) (state : State) (key : Key) → HasEarlierSources desc
    → IsReady desc state key → is_among (unsettled desc state.journal) key ≡ true
is_among-ready desc state key earlier is =
    is_among-unsettled desc state.journal key
    ∙ rw (
      is_among-all_view_keys desc key is.part (is_raw-stale desc state.journal key is.stale),
      false_from_ne_true (is_settled desc state.journal key) (λ settled.
          both_ways (is_stale desc state.journal key)
          (is_stale-settled desc state.journal key earlier settled) is.stale),
    ) refl

-- a key of a list in order that is not after its first one is that one
is_first : (first key : Key) (later : List Key) → AllPairs IsBefore (first ∷ later)
    → is_among (first ∷ later) key ≡ true → is_gt (key_cmp key first) ≡ false → key ≡ first
is_first first key later ordered among within = elim (cases_Bool (is_key key first)) [
  | inl same ↦ sym (is_key-same key first same)
  | inr apart ↦ absurd (both_ways (is_gt (key_cmp key first)) within
      (before-apart first key (All-is_among (IsBefore first) later key
      (AllPairs-head IsBefore first later ordered)
      (ap (λ (here : Bool). here || is_among later key) (sym apart) ∙ among))))
]

-- the least ready partition is the first of a list in order that has each of them, if that is ready
least-ready : (desc : DescOf) (state : State) (keys : List Key) (found : Option Key)
    → AllPairs IsBefore keys → ((key : Key) → IsReady desc state key → is_among keys key ≡ true)
    → IfSome (slice_get keys 0) (IsReady desc state) → IsNextReady desc state least_key found
    → found ≡ slice_get keys 0
least-ready desc state [] None ordered all ready next = refl
least-ready desc state [] (Some key) ordered all ready next = absurd (false≢true (all key next.0))
least-ready desc state (first ∷ later) None ordered all ready next =
    absurd (next first (from-least first) ready)
least-ready desc state (first ∷ later) (Some key) ordered all ready next =
    ap Some (is_first first key later ordered (all key next.0)
    (next.2 first (from-least first) ready))

-- if nothing is claimed, that is the first unsettled one
pub first-unsettled : (desc : DescOf) (state : State) (found : Option Key)
    → HasEarlierSources desc → IsGood desc state → state.claims ≡ []
    → IsNextReady desc state least_key found
    → found ≡ slice_get (unsettled desc state.journal) 0
first-unsettled desc state found earlier good none next =
    least-ready desc state (unsettled desc state.journal) found
    (AllPairs-unsettled desc state.journal)
    (λ key ready. is_among-ready desc state key earlier ready)
    (ready_first desc state earlier good none) next

-- what is told of the next ready partition, if there is one: it is ready
pub ready-found : (desc : DescOf) (state : State) (found : Option Key)
    → IsNextReady desc state least_key found → IfSome found (IsReady desc state)
ready-found desc state None next = tt
ready-found desc state (Some key) next = next.0

-- a list without a key is the same without it
filter-others : (key : Key) (keys : List Key) → is_among keys key ≡ false
    → filter (λ other. not (is_key key other)) keys ≡ keys
filter-others key [] none = refl
filter-others key (first ∷ later) none =
    let parts = or_parts (is_key key first) (is_among later key) none in
    rw parts.0 (ap (λ keys. first ∷ keys) (filter-others key later parts.1))

-- without its first one a list in order is what stands after it
filter-first : (key : Key) (later : List Key) → AllPairs IsBefore (key ∷ later)
    → filter (λ other. not (is_key key other)) (key ∷ later) ≡ later
filter-first key later ordered =
    rw (is_key-itself key) (filter-others key later
    (is_among-after key later (AllPairs-head IsBefore key later ordered)))

-- how far a drain came: these are installed, and the others are left
pub record HasDrained (desc : DescOf) (start now : List Entry) : Type 0 where
  pub done : List Key
  pub split : unsettled desc start ≡ done ++ unsettled desc now
  pub installed : now ≡ fold with_install start done

-- a list of which the first is known
slice_get-first : (keys : List Key) (key : Key) → slice_get keys 0 ≡ Some key
    → (later : List Key) × (keys ≡ key ∷ later)
slice_get-first [] key is = cc
slice_get-first (first ∷ later) key is =
    (later, ap (λ first. first ∷ later) (same_Some first key is))

-- an install of the first unsettled partition leaves those after it
unsettled-later : (desc : DescOf) (old new : State) (key : Key) (later : List Key)
    → unsettled desc old.journal ≡ key ∷ later → Settles desc old new key
    → unsettled desc new.journal ≡ later
unsettled-later desc old new key later is settles =
    settles.others
    ∙ ap (filter (λ other. not (is_key key other))) is
    ∙ filter-first key later
    (subst (AllPairs IsBefore) is (AllPairs-unsettled desc old.journal))

HasDrained-step : (desc : DescOf) (start : List Entry) (old new : State) (key : Key)
    → slice_get (unsettled desc old.journal) 0 ≡ Some key
    → new.journal ≡ with_install old.journal key → Settles desc old new key
    → HasDrained desc start old.journal → HasDrained desc start new.journal
HasDrained-step desc start old new key first is settles has =
    let later = slice_get-first (unsettled desc old.journal) key first in
    let left = unsettled-later desc old new key later.0 later.1 settles in
    record {
      done = has.done ++ key ∷ [];
      split = has.split ∙ ap (λ (keys : List Key). has.done ++ keys)
          (later.1 ∙ ap (λ (keys : List Key). key ∷ keys) (sym left))
          ∙ sym (append_assoc has.done (key ∷ []) (unsettled desc new.journal));
      installed = is ∙ ap (λ (journal : List Entry). with_install journal key) has.installed
          ∙ sym (fold-append with_install start has.done (key ∷ []));
    }

-- what is done is the front of what a drain does
DrainsSome-done : (desc : DescOf) (start now : List Entry) → HasDrained desc start now
    → DrainsSome desc start now
DrainsSome-done desc start now has = record {
  many = length has.done;
  installed = has.installed
      ∙ ap (fold with_install start) (sym (take-append_seam has.done (unsettled desc now))
      ∙ ap (take (length has.done)) (sym has.split));
}

-- if nothing is left, all is done
drained-done : (desc : DescOf) (start now : List Entry) → HasDrained desc start now
    → slice_get (unsettled desc now) 0 ≡ None → now ≡ drained desc start
drained-done desc start now has none =
    has.installed
    ∙ ap (fold with_install start) (sym (append-nil has.done)
    ∙ ap (λ (keys : List Key). has.done ++ keys) (sym (empty (unsettled desc now) none))
    ∙ sym has.split)
  where
    empty : (keys : List Key) → slice_get keys 0 ≡ None → keys ≡ []
    empty [] none = refl
    empty (first ∷ later) none = cc

-- how far the drain of a journal came: what is kept is true, and no version is forgotten
pub record IsDraining (start now : JournalOf) : Type 0 where
  pub kept : IsKept start.core.desc now
  pub drained : HasDrained start.core.desc (entries_of start) (entries_of now)
  pub reclaimed : reclaimed_of now ≡ reclaimed_of start

-- an install of the first unsettled partition
pub IsDraining-step : (start old new : JournalOf) (key : Key) → IsDraining start old
    → slice_get (unsettled old.core.desc (entries_of old)) 0 ≡ Some key
    → entries_of new ≡ with_install (entries_of old) key
    → Settles old.core.desc old.core.state new.core.state key
    → reclaimed_of new ≡ reclaimed_of old → IsKept old.core.desc new → IsDraining start new
IsDraining-step start old new key is first entries settles reclaimed kept =
    let served : old.core.desc ≡ start.core.desc = is.kept.served in
    record {
      kept = subst (λ (desc : DescOf). IsKept desc new) served kept;
      drained = HasDrained-step start.core.desc (entries_of start) old.core.state new.core.state key
          (subst (λ (desc : DescOf). slice_get (unsettled desc (entries_of old)) 0 ≡ Some key)
          served first)
          entries
          (subst (λ (desc : DescOf). Settles desc old.core.state new.core.state key) served settles)
          is.drained;
      reclaimed = reclaimed ∙ is.reclaimed;
    }

-- an install that found no memory
pub IsDraining-as_before : (start old new : JournalOf) → IsDraining start old
    → TellsAsBefore old new → IsDraining start new
IsDraining-as_before start old new is same = record {
  kept = IsKept-as_before start.core.desc old new same is.kept;
  drained = subst (HasDrained start.core.desc (entries_of start)) (sym same.core.state.journal)
      is.drained;
  reclaimed = reclaimed_of-as_before old new same ∙ is.reclaimed;
}

-- if no partition is left unsettled, the drain is at its end
pub IsDraining-end : (start now : JournalOf) → IsDraining start now
    → slice_get (unsettled now.core.desc (entries_of now)) 0 ≡ None
    → entries_of now ≡ drained start.core.desc (entries_of start)
IsDraining-end start now is none =
    drained-done start.core.desc (entries_of start) (entries_of now) is.drained
    (subst (λ (desc : DescOf). slice_get (unsettled desc (entries_of now)) 0 ≡ None)
    is.kept.served none)

-- without memory it made some of its installs
pub DrainsSome-draining : (start old new : JournalOf) → IsDraining start old
    → TellsAsBefore old new
    → DrainsSome start.core.desc (entries_of start) (entries_of new)
DrainsSome-draining start old new is same =
    DrainsSome-done start.core.desc (entries_of start) (entries_of new)
    (IsDraining-as_before start old new is same).drained
