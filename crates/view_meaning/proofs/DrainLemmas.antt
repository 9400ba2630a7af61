-- A drain, install by install: each partition that it installs is stale and its sources are
-- settled, and each partition that it has passed is settled.
use Rattle.std.proofs.Common.{◌≡◌, ◌∙◌, ℕ, zero, suc, ◌<◌, ◌≤◌, List, [], ◌∷◌, ◌++◌, length, get_or}
use Rattle.std.proofs.Common.{refl, sym, ap, subst, inl, inr, arith}
use Rattle.std.specs.Prelude.{Bool, true, false, not, ◌&&◌, ◌||◌, All, slice_get}
use Rattle.std.specs.List.{AllPairs}
use Rattle.std.proofs.lemmas.Bool.{cases_Bool, both_ways, true_from_ne_false, not-true, and_parts}
use Rattle.std.proofs.lemmas.Bool.{or_parts, or_from, or_left, or_right}
use Rattle.std.proofs.lemmas.List.{append-nil, append_assoc}
use Rattle.std.proofs.lemmas.List.Elements.{All-nil, All-cons, All-filter}
use Rattle.std.proofs.lemmas.List.Folds.{list_any-append}
use Rattle.std.proofs.lemmas.List.Kept.{AllPairs-filter}
use Rattle.std.proofs.lemmas.List.Sums.{fold-append, list_all-from_AllPass}
use Rattle.std.proofs.lemmas.Map.Views.{any-filter_same}
use Rattle.desc_types.specs.declared.table.Key.{Key}
use Rattle.desc_types.specs.Descriptions.{DescOf}
use Rattle.view_meaning.specs.declared.journal.Entry.{Entry}
use Rattle.view_meaning.specs.declared.journal.Entry.TheVariants as entry
use Rattle.desc_types.specs.Sources.{HasEarlierSources}
use Rattle.view_meaning.specs.Partitions.{is_part, sources_of}
use Rattle.view_meaning.specs.Versions.{is_raw, last_place}
use Rattle.view_meaning.specs.Staleness.{is_stale, is_settled}
use Rattle.view_meaning.specs.LegalJournals.{MayInstall, IsLegal}
use Rattle.view_meaning.specs.Drains.{all_view_keys, unsettled, with_install, drained}
use Rattle.view_meaning.proofs.ListLemmas.{AllPairs-front, AllPairs-after, AllPairs-before}
use Rattle.view_meaning.specs.Partitions.{is_among, is_key}
use Rattle.view_meaning.proofs.AmongLemmas.{IsBefore, is_key-itself, is_key-same}
use Rattle.view_meaning.proofs.AmongLemmas.{is_among-after, is_among-before, is_among-earlier}
use Rattle.view_meaning.proofs.AmongLemmas.{All-is_among, IsBefore-table, IsBefore-le}
use Rattle.view_meaning.proofs.KeyLemmas.{sources_of-parts, sources_of-none, AllPairs-all_view_keys}
use Rattle.view_meaning.proofs.KeyLemmas.{all_view_keys-not_raw, all_view_keys-parts}
use Rattle.view_meaning.proofs.SourceLemmas.{sources_of-earlier}
use Rattle.view_meaning.proofs.LegalLemmas.{IsLegal-push, MayInstall-last, last_place-le}
use Rattle.view_meaning.proofs.SettledLemmas.{is_settled-sources, is_stale-settled}
use Rattle.view_meaning.proofs.SettledLemmas.{sources_of-settled, is_settled-no_sources}
use Rattle.view_meaning.proofs.InstallLemmas.{with_installs, is_stale-with_installs, is_stale-among}
use Rattle.view_meaning.proofs.InstallLemmas.{is_stale-before, is_among-sources}

-- a partition is among the unsettled ones if it is a view's and is not settled
is_among-unsettled : (desc : DescOf) (journal : List Entry) (key : Key)
    → is_among (unsettled desc journal) key
    ≡ (not (is_settled desc journal key) && is_among (all_view_keys desc) key)
is_among-unsettled desc journal key =
    any-filter_same (is_key key) (λ key. not (is_settled desc journal key))
    (not (is_settled desc journal key))
    (λ other same. ap (λ (key : Key). not (is_settled desc journal key))
    (is_key-same key other same))
    (all_view_keys desc)

-- a partition that is not among them is settled
is_settled-unless : (desc : DescOf) (journal : List Entry) (key : Key)
    → is_part desc key ≡ true → is_among (unsettled desc journal) key ≡ false
    → is_settled desc journal key ≡ true
is_settled-unless desc journal key part none =
    true_from_ne_false (is_settled desc journal key) (λ not_settled.
    both_ways (is_settled desc journal key) not_settled
    (is_settled-no_sources desc journal key
    (sources_of-none desc key part
    (sym (ap (λ (settled : Bool). not settled && is_among (all_view_keys desc) key) not_settled)
    ∙ sym (is_among-unsettled desc journal key) ∙ none))))

-- those that are installed and those that are not yet are in order
AllPairs-split : (desc : DescOf) (journal : List Entry) (done rest : List Key)
    → unsettled desc journal ≡ done ++ rest → AllPairs IsBefore (done ++ rest)
AllPairs-split desc journal done rest split =
    subst (λ (keys : List Key). AllPairs IsBefore keys) split
    (AllPairs-filter IsBefore (λ key. not (is_settled desc journal key)) (all_view_keys desc)
    (AllPairs-all_view_keys desc))

-- an unsettled partition is among those that are installed or those that are not yet
is_among-split : (desc : DescOf) (journal : List Entry) (done rest : List Key) (key : Key)
    → unsettled desc journal ≡ done ++ rest
    → is_among (unsettled desc journal) key ≡ (is_among done key || is_among rest key)
is_among-split desc journal done rest key split =
    ap (λ (keys : List Key). is_among keys key) split ∙ list_any-append (is_key key) done rest

-- what was settled is not installed
is_among-done : (desc : DescOf) (journal : List Entry) (done rest : List Key) (key : Key)
    → unsettled desc journal ≡ done ++ rest → is_settled desc journal key ≡ true
    → is_among done key ≡ false
is_among-done desc journal done rest key split settled =
    (or_parts (is_among done key) (is_among rest key)
    (sym (is_among-split desc journal done rest key split)
    ∙ is_among-unsettled desc journal key
    ∙ ap (λ (settled : Bool). not settled && is_among (all_view_keys desc) key) settled)).0

-- what is true of each partition of a view is true of those that are not settled
pub All-unsettled : (P : Key → Type 0) (desc : DescOf) (journal : List Entry)
    → All P (all_view_keys desc) → All P (unsettled desc journal)
All-unsettled P desc journal =
    All-filter (λ key. not (is_settled desc journal key)) P (all_view_keys desc)

-- only partitions of views are installed
is_raw-done : (desc : DescOf) (journal : List Entry) (done rest : List Key)
    → unsettled desc journal ≡ done ++ rest → (key : Key) → is_among done key ≡ true
    → is_raw (slice_get desc.tables key.table) ≡ false
is_raw-done desc journal done rest split key among =
    All-is_among (λ (key : Key). is_raw (slice_get desc.tables key.table) ≡ false)
    (unsettled desc journal) key
    (All-unsettled (λ (key : Key). is_raw (slice_get desc.tables key.table) ≡ false) desc journal
    (all_view_keys-not_raw desc))
    (is_among-split desc journal done rest key split
    ∙ or_left (is_among done key) (is_among rest key) among)

-- the next one to be installed is unsettled before the drain
is_among-next : (desc : DescOf) (journal : List Entry) (done later : List Key) (next : Key)
    → unsettled desc journal ≡ done ++ next ∷ later → is_among (unsettled desc journal) next ≡ true
is_among-next desc journal done later next split =
    is_among-split desc journal done (next ∷ later) next split
    ∙ or_right (is_among done next) (is_among (next ∷ later) next)
    (or_left (is_key next next) (is_among later next) (is_key-itself next))

-- so it is not settled
is_settled-next : (desc : DescOf) (journal : List Entry) (done later : List Key) (next : Key)
    → unsettled desc journal ≡ done ++ next ∷ later → is_settled desc journal next ≡ false
is_settled-next desc journal done later next split =
    not-true (is_settled desc journal next)
    ((and_parts (not (is_settled desc journal next)) (is_among (all_view_keys desc) next)
    (sym (is_among-unsettled desc journal next)
    ∙ is_among-next desc journal done later next split)).0)

-- and it is a partition
is_part-next : (desc : DescOf) (journal : List Entry) (done later : List Key) (next : Key)
    → unsettled desc journal ≡ done ++ next ∷ later → is_part desc next ≡ true
is_part-next desc journal done later next split =
    All-is_among (λ key. is_part desc key ≡ true) (unsettled desc journal) next
    (All-unsettled (λ key. is_part desc key ≡ true) desc journal (all_view_keys-parts desc))
    (is_among-next desc journal done later next split)

module _ (desc : DescOf) (journal : List Entry) (earlier : HasEarlierSources desc)
    (legal : IsLegal desc journal) where
  -- a partition that was settled and is not installed does not become stale
  is_stale-same : (done rest : List Key) (key : Key) → unsettled desc journal ≡ done ++ rest
      → is_among done key ≡ false → is_settled desc journal key ≡ true
      → is_stale desc (with_installs journal done) key ≡ false
  is_stale-same done rest key split other settled =
      is_stale-with_installs desc journal done key (last_place-le desc journal key legal) other
      (λ index default within.
      is_among-done desc journal done rest (get_or (sources_of desc key) index default) split
      (sources_of-settled desc journal key earlier settled index default within))
      (is_stale-settled desc journal key earlier settled)

  -- a partition that the drain has passed is not stale
  is_stale-done : (done rest : List Key) (key : Key) → unsettled desc journal ≡ done ++ rest
      → is_part desc key ≡ true → All (λ (later : Key). key.table < later.table) rest
      → is_stale desc (with_installs journal done) key ≡ false
  is_stale-done done rest key split part behind =
      elim (cases_Bool (is_among done key)) [
        | inl among ↦ is_stale-among desc journal done key
            (AllPairs-front IsBefore done rest (AllPairs-split desc journal done rest split)) among
            (sources_of-earlier desc key earlier)
        | inr other ↦ is_stale-same done rest key split other
            (is_settled-unless desc journal key part
            (is_among-split desc journal done rest key split
            ∙ or_from (is_among done key) (is_among rest key) other
            (is_among-after key rest (IsBefore-table key rest behind))))
      ]

  -- it is settled
  is_settled-done : (depth : ℕ) (done rest : List Key) (key : Key) → key.table < depth
      → unsettled desc journal ≡ done ++ rest
      → is_part desc key ≡ true → All (λ (later : Key). key.table < later.table) rest
      → is_settled desc (with_installs journal done) key ≡ true
  is_settled-done zero done rest key enough split part behind = absurd (omega (arith, enough))
  is_settled-done (suc depth) done rest key enough split part behind =
      is_settled-sources desc (with_installs journal done) key earlier
      (is_stale-done done rest key split part behind)
      (λ index default within.
      let source = get_or (sources_of desc key) index default in
      let before : source.table < key.table =
      sources_of-earlier desc key earlier index default within in
      is_settled-done depth done rest source (omega (arith, before, enough)) split
      (sources_of-parts desc key index default within)
      (λ place other inside. omega (arith, before, behind place other inside)))

  -- the sources of the next one are settled
  sources_of-next : (done later : List Key) (next : Key)
      → unsettled desc journal ≡ done ++ next ∷ later
      → All (λ source. is_settled desc (with_installs journal done) source ≡ true)
      (sources_of desc next)
  sources_of-next done later next split index default inside =
      let source = get_or (sources_of desc next) index default in
      let before : source.table < next.table =
      sources_of-earlier desc next earlier index default inside in
      let behind : All (IsBefore next) later =
      AllPairs-after IsBefore done next later
      (AllPairs-split desc journal done (next ∷ later) split) in
      is_settled-done (suc source.table) done (next ∷ later) source (omega arith) split
      (sources_of-parts desc next index default inside)
      (All-cons (λ (later : Key). source.table < later.table) next later before
      (λ place other within. omega (
        arith,
        before,
        IsBefore-le next (get_or later place other) (behind place other within),
      )))

  -- if the next one were not stale, it was settled before the drain
  is_settled-unless_stale : (done later : List Key) (next : Key)
      → unsettled desc journal ≡ done ++ next ∷ later
      → is_stale desc (with_installs journal done) next ≡ false
      → is_settled desc journal next ≡ true
  is_settled-unless_stale done later next split fresh =
      let rises : AllPairs IsBefore (done ++ next ∷ later) =
      AllPairs-split desc journal done (next ∷ later) split in
      let within : last_place journal next ≤ length journal =
      last_place-le desc journal next legal in
      let other : is_among done next ≡ false =
      is_among-before next done (AllPairs-before IsBefore done next later rises) in
      is_settled-sources desc journal next earlier
      (is_stale-before desc journal done next within other fresh)
      (λ index default inside.
      let source = get_or (sources_of desc next) index default in
      is_settled-unless desc journal source (sources_of-parts desc next index default inside)
      (is_among-split desc journal done (next ∷ later) source split
      ∙ or_from (is_among done source) (is_among (next ∷ later) source)
      (is_among-sources desc journal done next within other
      (is_raw-done desc journal done (next ∷ later) split) fresh index default inside)
      (is_among-earlier source next later
      (sources_of-earlier desc next earlier index default inside)
      (AllPairs-after IsBefore done next later rises))))

  -- so it is stale
  is_stale-next : (done later : List Key) (next : Key)
      → unsettled desc journal ≡ done ++ next ∷ later
      → is_stale desc (with_installs journal done) next ≡ true
  is_stale-next done later next split =
      true_from_ne_false (is_stale desc (with_installs journal done) next) (λ fresh.
      both_ways (is_settled desc journal next) (is_settled-next desc journal done later next split)
      (is_settled-unless_stale done later next split fresh))

  -- and it may be installed
  pub MayInstall-next : (done later : List Key) (next : Key)
      → unsettled desc journal ≡ done ++ next ∷ later
      → MayInstall desc (with_installs journal done) next (length (with_installs journal done))
  MayInstall-next done later next split =
      MayInstall-last desc (with_installs journal done) next
      (is_part-next desc journal done later next split) (is_stale-next done later next split)
      (list_all-from_AllPass (is_settled desc (with_installs journal done)) (sources_of desc next)
      (sources_of-next done later next split))

  -- the installs that are not made yet keep the journal legal
  IsLegal-with_installs : (done rest : List Key) (so_far : List Entry)
      → so_far ≡ with_installs journal done → unsettled desc journal ≡ done ++ rest
      → IsLegal desc so_far → IsLegal desc (with_installs so_far rest)
  IsLegal-with_installs done [] so_far is split holds = holds
  IsLegal-with_installs done (next ∷ later) so_far is split holds =
      IsLegal-with_installs (done ++ next ∷ []) later (with_install so_far next)
      (ap (λ (so_far : List Entry). with_install so_far next) is
      ∙ sym (fold-append with_install journal done (next ∷ [])))
      (split ∙ sym (append_assoc done (next ∷ []) later))
      (IsLegal-push desc so_far (entry.Install next (length so_far)) holds
      (subst (λ (so_far : List Entry). MayInstall desc so_far next (length so_far)) (sym is)
      (MayInstall-next done later next split)))

  -- a drain leaves a legal journal
  pub IsLegal-drained : IsLegal desc (drained desc journal)
  IsLegal-drained = IsLegal-with_installs [] (unsettled desc journal) journal refl refl legal

  -- after a drain each partition is settled
  pub is_settled-drained : (key : Key) → is_part desc key ≡ true
      → is_settled desc (drained desc journal) key ≡ true
  is_settled-drained key part =
      is_settled-done (suc key.table) (unsettled desc journal) [] key (omega arith)
      (sym (append-nil (unsettled desc journal))) part
      (All-nil (λ (later : Key). key.table < later.table))
