-- Journals that fit a description: they grow by an entry that fits, and a drain leaves one.
use Rattle.std.proofs.Common.{◌≡◌, ℕ, List, [], ◌∷◌, ◌++◌, length, get_or, sym, ◌∙◌, arith}
use Rattle.std.specs.Prelude.{true, false, max, min, All, IsSomeAnd, Option, Some, None, slice_get}
use Rattle.std.proofs.lemmas.Bool.{false≢true, ltb-true}
use Rattle.std.proofs.lemmas.List.Elements.{All-head, All-push, All-tail}
use Rattle.desc_types.specs.declared.table.Key.{Key}
use Rattle.desc_types.specs.Descriptions.{DescOf}
use Rattle.desc_types.specs.Tables.{TableOf}
use Rattle.desc_types.specs.KindValues.{KindOf, Raw, Filter, Group, Join}
use Rattle.desc_types.specs.Sources.{width_of}
use Rattle.partition_map.specs.Time.{END}
use Rattle.view_meaning.specs.declared.journal.Entry.{Entry}
use Rattle.view_meaning.specs.declared.journal.Entry.TheVariants as entry
use Rattle.partition_map.specs.Partitions.{start_of, end_of, is_met}
use Rattle.view_meaning.specs.Partitions.{is_part}
use Rattle.view_meaning.specs.Journal.{IsView, IsPartOfView, FitsEntry, FitsJournal}
use Rattle.view_meaning.specs.Versions.{is_raw, is_raw_kind}
use Rattle.view_meaning.specs.Drains.{all_view_keys, unsettled, with_install, HasFittingDrains}
use Rattle.view_meaning.proofs.PartitionLemmas.{is_met-no_width}
use Rattle.view_meaning.proofs.KeyLemmas.{all_view_keys-not_raw, all_view_keys-parts}
use Rattle.view_meaning.proofs.InstallLemmas.{with_installs}
use Rattle.view_meaning.proofs.DrainLemmas.{All-unsettled}

-- a journal that fits does with an entry more that fits
pub FitsJournal-push : (desc : DescOf) (journal : List Entry) (next : Entry)
    → FitsJournal desc journal → FitsEntry desc next → FitsJournal desc (journal ++ next ∷ [])
FitsJournal-push desc journal next fits also = All-push (FitsEntry desc) journal next fits also

-- a table that is not raw is a view
IsView-not_raw : (kind : KindOf) → is_raw_kind kind ≡ false → IsView kind
IsView-not_raw (Raw feed time) view = absurd (false≢true (sym view))
IsView-not_raw (Filter src conds keep) view = tt
IsView-not_raw (Group src keys aggs) view = tt
IsView-not_raw (Join left right pairs) view = tt

-- an install of a view's partition fits, with any place
pub FitsEntry-Install : (desc : DescOf) (key : Key) (at : ℕ) → is_part desc key ≡ true
    → is_raw (slice_get desc.tables key.table) ≡ false → FitsEntry desc (entry.Install key at)
FitsEntry-Install desc key at part view = at_table (slice_get desc.tables key.table) part view
  where
    at_table : (found : Option TableOf) → is_met (width_of found) 0 END key.part ≡ true
        → is_raw found ≡ false → IsSomeAnd found (IsPartOfView key)
    at_table None part view =
        absurd (false≢true (sym (is_met-no_width 0 END key.part) ∙ part))
    at_table (Some table) part view =
        let shared = ltb-true (max (start_of table.width key.part) 0)
        (min (end_of table.width key.part) END) part in
        record { view = IsView-not_raw table.kind view; in_time = omega arith }

-- a journal that fits does with installs of keys whose installs fit
FitsJournal-with_installs : (desc : DescOf) (journal : List Entry) (keys : List Key)
    → All (λ key. (at : ℕ) → FitsEntry desc (entry.Install key at)) keys
    → FitsJournal desc journal → FitsJournal desc (with_installs journal keys)
FitsJournal-with_installs desc journal [] each fits = fits
FitsJournal-with_installs desc journal (key ∷ later) each fits =
    let one = λ (key : Key). (at : ℕ) → FitsEntry desc (entry.Install key at) in
    FitsJournal-with_installs desc (with_install journal key) later (All-tail one key later each)
    (FitsJournal-push desc journal (entry.Install key (length journal)) fits
    (All-head one key later each (length journal)))

-- a drain of a journal that fits leaves one
pub FitsJournal-drained : HasFittingDrains
FitsJournal-drained desc journal fits =
    let one = λ (key : Key). (at : ℕ) → FitsEntry desc (entry.Install key at) in
    FitsJournal-with_installs desc journal (unsettled desc journal)
    (All-unsettled one desc journal (λ index default within at.
    FitsEntry-Install desc (get_or (all_view_keys desc) index default) at
    (all_view_keys-parts desc index default within)
    (all_view_keys-not_raw desc index default within)))
    fits
