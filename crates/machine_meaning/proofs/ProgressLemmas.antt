-- A drain comes to its end: the first partition that is not settled is ready, and to install one that
-- is ready leaves one fewer.
use Rattle.std.proofs.Common.{List, Some, [], ap, arith, cond, get_or, inl, inr, length, refl}
use Rattle.std.proofs.Common.{subst, suc, sym, take, true, zero, ℕ, ◌++◌, ◌<◌, ◌∙◌, ◌∷◌, ◌≡◌, ◌≢◌}
use Rattle.std.proofs.Common.{◌≤◌}
use Rattle.std.specs.List.{list_all, list_any}
use Rattle.std.specs.Prelude.{All, Bool, IfSome, false, filter, not, slice_get, ◌&&◌, ◌==◌}
use Rattle.std.proofs.Math.Bool.{and-false, and-true, or-false}
use Rattle.std.proofs.lemmas.Bool.{both_ways, cases_Bool, false_from_ne_true, false≢true}
use Rattle.std.proofs.lemmas.Bool.{true_from_ne_false}
use Rattle.std.proofs.lemmas.List.{take_all}
use Rattle.std.proofs.lemmas.List.Elements.{All-nil, All-push, filter_agree}
use Rattle.std.proofs.lemmas.List.Filters.{length-filter_both}
use Rattle.std.proofs.lemmas.List.Sums.{AllPass-from_list_all}
use Rattle.std.proofs.lemmas.Map.Views.{any-filter_same}
use Rattle.std.proofs.lemmas.Option.{same_Some}
use Rattle.partition_map.proofs.BoolLemmas.{same-answer}
use Rattle.desc_types.specs.declared.table.Key.{Key}
use Rattle.desc_types.specs.Descriptions.{DescOf}
use Rattle.desc_types.specs.Sources.{HasEarlierSources}
use Rattle.view_meaning.specs.declared.journal.Entry.{Entry}
use Rattle.view_meaning.specs.Drains.{all_view_keys, unsettled, with_install}
use Rattle.view_meaning.specs.LegalJournals.{IsLegal, MayInstall}
use Rattle.view_meaning.specs.Partitions.{is_among, is_key, is_part, sources_of}
use Rattle.view_meaning.specs.Staleness.{is_settled, is_stale}
use Rattle.view_meaning.specs.Versions.{is_raw, last_place}
use Rattle.view_meaning.proofs.AmongLemmas.{is_key-itself, is_key-same}
use Rattle.view_meaning.proofs.DrainLemmas.{MayInstall-next}
use Rattle.view_meaning.proofs.InstallLemmas.{is_among-sources, is_stale-before, is_stale-installed}
use Rattle.view_meaning.proofs.InstallLemmas.{is_stale-with_installs}
use Rattle.view_meaning.proofs.KeyLemmas.{sources_of-none}
use Rattle.view_meaning.proofs.LegalLemmas.{is_raw-stale, last_place-le}
use Rattle.view_meaning.proofs.SettledLemmas.{is_settled-sources, is_stale-no_sources}
use Rattle.view_meaning.proofs.SettledLemmas.{is_stale-settled, sources_of-settled}
use Rattle.view_meaning.proofs.SourceLemmas.{sources_of-earlier}
use Rattle.machine_meaning.specs.declared.claim.Claim.{Claim}
use Rattle.machine_meaning.specs.Events.{claim_at, claim_of, claimed, with_entry}
use Rattle.machine_meaning.specs.Progress.{HasProgress, HasReadyFirst, Settles}
use Rattle.machine_meaning.specs.States.{IsGood, IsReady, State}
use Rattle.machine_meaning.proofs.ClaimLemmas.{All-find}
use Rattle.machine_meaning.proofs.HeldLemmas.{is_key-swap}
use Rattle.view_meaning.specs.declared.journal.Entry.TheVariants as entry

-- a partition that may be installed with the last place is ready, if nobody claimed it
IsReady-MayInstall : (desc : DescOf) (state : State) (key : Key)
    → MayInstall desc state.journal key (length state.journal)
    → All (λ (claim : Claim). claim.key ≢ key) state.claims → IsReady desc state key
IsReady-MayInstall desc state key may free =
    let all : take (length state.journal) state.journal ≡ state.journal =
    take_all (length state.journal) state.journal (omega arith) in
    record {
      part = may.part;
      stale = subst (λ (before : List Entry). is_stale desc before key ≡ true) all may.stale;
      ready = subst
          (λ (before : List Entry). list_all (is_settled desc before) (sources_of desc key) ≡ true)
          all may.ready;
      free = free;
    }

-- if nothing is claimed, the first partition that is not settled is ready
pub ready_first : HasReadyFirst
ready_first desc state earlier good none = at_keys (unsettled desc state.journal) refl
  where
    at_keys : (keys : List Key) → unsettled desc state.journal ≡ keys
        → IfSome (slice_get keys 0) (IsReady desc state)
    at_keys [] split = tt
    at_keys (next ∷ later) split =
        IsReady-MayInstall desc state next
        (MayInstall-next desc state.journal earlier good.legal [] later next split)
        (subst (All (λ (claim : Claim). claim.key ≢ next)) (sym none)
        (All-nil (λ (claim : Claim). claim.key ≢ next)))

-- elements that pass two tests are those that pass the one, of those that pass the other
filter-filter : {X : Type 0} (test other : X → Bool) (xs : List X)
    → filter test (filter other xs) ≡ filter (λ x. other x && test x) xs
filter-filter test other [] = refl
filter-filter {X} test other (x ∷ xs) = either (other x) (filter-filter test other xs)
  where
    either : (passes : Bool)
        → filter test (filter other xs) ≡ filter (λ x. other x && test x) xs
        → filter test (cond passes (x ∷ filter other xs) (filter other xs))
        ≡ cond (passes && test x) (x ∷ filter (λ x. other x && test x) xs)
        (filter (λ x. other x && test x) xs)
    either true rest = ap (λ (rest : List X). cond (test x) (x ∷ rest) rest) rest
    either false rest = rest

-- if a test finds an element, some are kept
length-filter-some : {X : Type 0} (test : X → Bool) (xs : List X)
    → list_any test xs ≡ true → 0 < length (filter test xs)
length-filter-some test [] found = absurd (false≢true found)
length-filter-some test (x ∷ xs) found = elim (cases_Bool (test x)) [
  | inl passes ↦ rw passes (omega arith)
  | inr fails ↦ rw fails (length-filter-some test xs (rw fails at found))
]

-- and there are fewer without those that pass
length-filter-not : {X : Type 0} (test : X → Bool) (xs : List X)
    → list_any test xs ≡ true → length (filter (λ x. not (test x)) xs) < length xs
length-filter-not test xs found =
    omega (
      arith,
      length-filter-some test xs found,
      length-filter_both test (λ x. not (test x)) (λ x. refl) xs,
    )

-- a journal, and a partition that is stale after it and whose sources are settled
module _ (desc : DescOf) (journal : List Entry) (key : Key) (earlier : HasEarlierSources desc)
    (legal : IsLegal desc journal) (stale : is_stale desc journal key ≡ true) where
  -- the partition itself is not settled
  is_settled-own : is_settled desc journal key ≡ false
  is_settled-own =
      false_from_ne_true (is_settled desc journal key) (λ settled.
      both_ways (is_stale desc journal key) (is_stale-settled desc journal key earlier settled) stale)

  -- a settled partition is another one
  is_among-settled : (other : Key) → is_settled desc journal other ≡ true
      → is_among (key ∷ []) other ≡ false
  is_among-settled other settled =
      false_from_ne_true (is_among (key ∷ []) other) (λ among.
      both_ways (is_settled desc journal key) is_settled-own
      (subst (λ (key : Key). is_settled desc journal key ≡ true)
      (sym (is_key-same other key (sym (or-false (is_key other key)) ∙ among))) settled))

  -- it stays settled as the partition is installed
  is_settled-stays : (depth : ℕ) (other : Key) → other.table < depth
      → is_settled desc journal other ≡ true
      → is_settled desc (with_install journal key) other ≡ true
  is_settled-stays zero other enough settled = absurd (omega (arith, enough))
  is_settled-stays (suc depth) other enough settled =
      let below : All (λ source. is_settled desc journal source ≡ true) (sources_of desc other) =
      sources_of-settled desc journal other earlier settled in
      is_settled-sources desc (with_install journal key) other earlier
      (is_stale-with_installs desc journal (key ∷ []) other (last_place-le desc journal other legal)
      (is_among-settled other settled)
      (λ index default within.
      is_among-settled (get_or (sources_of desc other) index default) (below index default within))
      (is_stale-settled desc journal other earlier settled))
      (λ index default within.
      is_settled-stays depth (get_or (sources_of desc other) index default)
      (omega (arith, enough, sources_of-earlier desc other earlier index default within))
      (below index default within))

  -- the installed partition is of a view
  is_raw-among : (other : Key) → is_among (key ∷ []) other ≡ true
      → is_raw (slice_get desc.tables other.table) ≡ false
  is_raw-among other among =
      subst (λ (key : Key). is_raw (slice_get desc.tables key.table) ≡ false)
      (is_key-same other key (sym (or-false (is_key other key)) ∙ among))
      (is_raw-stale desc journal key stale)

  -- another partition that is settled after the install was settled before it
  is_settled-was : (depth : ℕ) (other : Key) → other.table < depth
      → is_among (key ∷ []) other ≡ false
      → is_settled desc (with_install journal key) other ≡ true
      → is_settled desc journal other ≡ true
  is_settled-was zero other enough apart settled = absurd (omega (arith, enough))
  is_settled-was (suc depth) other enough apart settled =
      let after = with_install journal key in
      let place : last_place journal other ≤ length journal =
      last_place-le desc journal other legal in
      let fresh : is_stale desc after other ≡ false =
      is_stale-settled desc after other earlier settled in
      is_settled-sources desc journal other earlier
      (is_stale-before desc journal (key ∷ []) other place apart fresh)
      (λ index default within.
      is_settled-was depth (get_or (sources_of desc other) index default)
      (omega (arith, enough, sources_of-earlier desc other earlier index default within))
      (is_among-sources desc journal (key ∷ []) other place apart is_raw-among fresh index default
      within)
      (sources_of-settled desc after other earlier settled index default within))

  -- after the install the partition is settled, if its sources were
  is_settled-installed : list_all (is_settled desc journal) (sources_of desc key) ≡ true
      → is_settled desc (with_install journal key) key ≡ true
  is_settled-installed ready =
      let below : All (λ source. is_settled desc journal source ≡ true) (sources_of desc key) =
      AllPass-from_list_all (is_settled desc journal) (sources_of desc key) ready in
      is_settled-sources desc (with_install journal key) key earlier
      (is_stale-installed desc journal key key [] (is_key-itself key) refl
      (λ index default within.
      is_among-settled (get_or (sources_of desc key) index default) (below index default within)))
      (λ index default within.
      let source = get_or (sources_of desc key) index default in
      is_settled-stays (suc source.table) source (omega arith) (below index default within))

  -- so what is not settled after the install is what was not before it, except this partition
  is_settled-after : list_all (is_settled desc journal) (sources_of desc key) ≡ true
      → (other : Key) → not (is_settled desc (with_install journal key) other)
      ≡ (not (is_settled desc journal other) && not (is_key key other))
  is_settled-after ready other = elim (cases_Bool (is_key key other)) [
    | inl same ↦
        ap not (ap (is_settled desc (with_install journal key)) (is_key-same key other same)
        ∙ is_settled-installed ready)
        ∙ sym (and-false (not (is_settled desc journal other)))
        ∙ ap (λ (same : Bool). not (is_settled desc journal other) && not same) (sym same)
    | inr apart ↦
        ap not (same-answer (is_settled desc (with_install journal key) other)
        (is_settled desc journal other)
        (is_settled-was (suc other.table) other (omega arith)
        (or-false (is_key other key) ∙ is_key-swap key other apart))
        (is_settled-stays (suc other.table) other (omega arith)))
        ∙ sym (and-true (not (is_settled desc journal other)))
        ∙ ap (λ (same : Bool). not (is_settled desc journal other) && not same) (sym apart)
  ]

  -- these are the unsettled ones after the install
  unsettled-with_install : list_all (is_settled desc journal) (sources_of desc key) ≡ true
      → unsettled desc (with_install journal key)
      ≡ filter (λ other. not (is_key key other)) (unsettled desc journal)
  unsettled-with_install ready =
      filter_agree (λ other. not (is_settled desc (with_install journal key) other))
      (λ other. not (is_settled desc journal other) && not (is_key key other))
      (is_settled-after ready) (all_view_keys desc)
      ∙ sym (filter-filter (λ other. not (is_key key other))
      (λ other. not (is_settled desc journal other)) (all_view_keys desc))

  -- the partition is among the partitions of views
  is_among-views : is_part desc key ≡ true → is_among (all_view_keys desc) key ≡ true
  is_among-views part =
      true_from_ne_false (is_among (all_view_keys desc) key) (λ none.
      both_ways (is_stale desc journal key)
      (is_stale-no_sources desc journal key (sources_of-none desc key part none)) stale)

  -- so it is among the unsettled ones
  is_among-unsettled : is_part desc key ≡ true → is_among (unsettled desc journal) key ≡ true
  is_among-unsettled part =
      any-filter_same (is_key key) (λ other. not (is_settled desc journal other))
      (not (is_settled desc journal key))
      (λ other same. ap (λ (key : Key). not (is_settled desc journal key))
      (is_key-same key other same))
      (all_view_keys desc)
      ∙ rw (is_settled-own, is_among-views part) refl

-- who installs a ready partition, with the last place, leaves one fewer unsettled
Settles-install : (desc : DescOf) (old new : State) (key : Key) → HasEarlierSources desc
    → IsGood desc old → IsReady desc old key → new.journal ≡ with_install old.journal key
    → Settles desc old new key
Settles-install desc old new key earlier good ready is =
    let others : unsettled desc new.journal
    ≡ filter (λ other. not (is_key key other)) (unsettled desc old.journal) =
    ap (unsettled desc) is
    ∙ unsettled-with_install desc old.journal key earlier good.legal ready.stale ready.ready in
    record {
      others = others;
      fewer = omega (
        arith,
        ap (λ (keys : List Key). length keys) others,
        length-filter-not (is_key key) (unsettled desc old.journal)
            (is_among-unsettled desc old.journal key earlier good.legal ready.stale ready.part),
      );
    }

-- the claim of a partition that was just claimed has the last place
at-claimed : (desc : DescOf) (old : State) (who id : ℕ) (key : Key) (other : ℕ) (claim : Claim)
    → IsReady desc old key
    → claim_at other (old.claims ++ claim_of old who id key ∷ []) ≡ Some claim
    → claim.key ≡ key → claim.at ≡ length old.journal
at-claimed desc old who id key other claim ready found =
    All-find (λ (claim : Claim). claim.key ≡ key → claim.at ≡ length old.journal)
    (λ (claim : Claim). claim.id == other) (old.claims ++ claim_of old who id key ∷ []) claim
    (All-push (λ (claim : Claim). claim.key ≡ key → claim.at ≡ length old.journal) old.claims
    (claim_of old who id key)
    (λ index default within same. absurd (ready.free index default within same))
    (λ same. refl))
    found

-- to claim a ready partition and install it at once leaves one fewer unsettled
pub progress : HasProgress
progress desc old mid new who id claim earlier good claims of_claim installs =
    let made : Claim = claim_of old who claims.1.0 claim.key in
    let is : mid ≡ claimed desc old made = claims.1.2 in
    let same : installs.0 ≡ claim =
    same_Some installs.0 claim (sym installs.1.found ∙ of_claim.found) in
    let at : claim.at ≡ length old.journal =
    at-claimed desc old who claims.1.0 claim.key id claim claims.0
    (ap (λ (state : State). claim_at id state.claims) (sym is) ∙ of_claim.found) refl in
    Settles-install desc old new claim.key earlier good claims.0
    (ap (λ (state : State). state.journal) installs.3
    ∙ ap (λ (state : State). with_entry state.journal (entry.Install installs.0.key installs.0.at))
    is
    ∙ ap (λ (claim : Claim). with_entry old.journal (entry.Install claim.key claim.at)) same
    ∙ ap (λ (at : ℕ). with_entry old.journal (entry.Install claim.key at)) at)
