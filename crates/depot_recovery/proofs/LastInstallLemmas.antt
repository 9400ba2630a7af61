-- Which entry installed a partition last: the one up to which all its installs are counted.
use Rattle.std.proofs.Common.{◌≡◌, ◌∙◌, ◌+◌, ◌-◌, ◌<◌, ◌≤◌, ℕ, zero, suc, List, Some, ap, arith}
use Rattle.std.proofs.Common.{drop, inl, inr, length, refl, subst, sym, take, true}
use Rattle.std.proofs.lemmas.Bool.{both_ways, cases_Bool, false≢true, false_from_ne_true, le-ltb}
use Rattle.std.proofs.lemmas.Bool.{ltb-true}
use Rattle.std.proofs.lemmas.Bool.Decides.{nat_tests}
use Rattle.std.proofs.lemmas.List.{length-append, length-map, take-append-drop}
use Rattle.std.proofs.lemmas.List.Elements.{All-weaker}
use Rattle.std.proofs.lemmas.List.Folds.{list_any_none}
use Rattle.std.proofs.lemmas.Option.{slice_get_within}
use Rattle.std.specs.List.{list_any}
use Rattle.std.specs.Prelude.{IfSome, IsSome, None, Option, false, filter}
use Rattle.std.specs.Prelude.{nat_eq, nat_lt, not, slice_get, unwrap_or}
use Rattle.desc_types.specs.declared.table.Key.{Key}
use Rattle.desc_types.specs.Descriptions.{DescOf}
use Rattle.view_meaning.specs.declared.journal.Entry.{Entry}
use Rattle.view_meaning.specs.declared.journal.Entry.TheVariants as entry
use Rattle.view_meaning.specs.Journal.{FitsEntry, FitsJournal}
use Rattle.view_meaning.specs.Versions.{install_places, installs, is_raw, place_of, version}
use Rattle.view_meaning.proofs.AmongLemmas.{is_key-itself, is_key-same}
use Rattle.view_meaning.proofs.VersionLemmas.{install_places-append, version-view}
use Rattle.query_pin.specs.declared.input.Input.{Input}
use Rattle.query_pin.specs.Kept.{entry_in}
use Rattle.machine_meaning.specs.States.{IsGood, IsMadeBy, MayBeHeld, State, latest}
use Rattle.depot_recovery.specs.Depots.{is_latest}
use Rattle.depot_recovery.specs.Latest.{IsInstallAt, IsLastInstall}
use Rattle.depot_recovery.proofs.ListLemmas.{length-filter_some, list_any-drop_before}
use Rattle.depot_recovery.proofs.ListLemmas.{list_any-drop_last, list_any-drop_none}
use Rattle.depot_recovery.proofs.ViewPartLemmas.{is_raw-IsPartOfView}

-- a partition without installs is installed by no entry
list_any-installs_none : (journal : List Entry) (key : Key)
    → length (install_places journal key) ≡ 0 → list_any (installs key) journal ≡ false
list_any-installs_none journal key none =
    false_from_ne_true (list_any (installs key) journal) (λ some. omega (
      arith,
      none,
      length-map (filter (installs key) journal) place_of,
      length-filter_some (installs key) journal some,
    ))

-- an entry that fits installs no partition of a raw table
installs-raw : (desc : DescOf) (key : Key) (next : Entry) → FitsEntry desc next
    → is_raw (slice_get desc.tables key.table) ≡ true → installs key next ≡ false
installs-raw desc key (entry.Load delivery) fits raw = refl
installs-raw desc key (entry.Install installed at) fits raw =
    false_from_ne_true (installs key (entry.Install installed at)) (λ same.
    both_ways (is_raw (slice_get desc.tables installed.table))
    (is_raw-IsPartOfView installed (slice_get desc.tables installed.table) fits)
    (subst (λ (key : Key). is_raw (slice_get desc.tables key.table) ≡ true)
    (sym (is_key-same key installed same)) raw))

-- so no entry of a journal that fits does
list_any-installs_raw : (desc : DescOf) (journal : List Entry) (key : Key)
    → FitsJournal desc journal → is_raw (slice_get desc.tables key.table) ≡ true
    → list_any (installs key) journal ≡ false
list_any-installs_raw desc journal key fits raw =
    list_any_none (installs key) journal
    (All-weaker (FitsEntry desc) (λ (next : Entry). installs key next ≡ false)
    (λ next fits. installs-raw desc key next fits raw) journal fits)

-- if no entry installs a partition, none is the last install
IsLastInstall-none : (journal : List Entry) (key : Key) → list_any (installs key) journal ≡ false
    → IsLastInstall journal key 0
IsLastInstall-none journal key none count =
    list_any-drop_none (installs key) journal count none ∙ sym (le-ltb count 0 (omega arith))

-- the installs of a partition are those up to an entry and those after it
length-install_places_parts : (journal : List Entry) (key : Key) (number : ℕ)
    → length (install_places (take number journal) key)
    + length (install_places (drop number journal) key) ≡ length (install_places journal key)
length-install_places_parts journal key number =
    sym (length-append (install_places (take number journal) key)
    (install_places (drop number journal) key))
    ∙ sym (ap length (install_places-append (take number journal) (drop number journal) key))
    ∙ ap (λ (all : List Entry). length (install_places all key)) (take-append-drop number journal)

-- the entry that made a version is the last install of its partition, if that version counts all
IsLastInstall-made : (journal : List Entry) (read : Input) (number : ℕ)
    → IsMadeBy journal read number → length (install_places journal read.key) ≡ read.version
    → IsLastInstall journal read.key number
IsLastInstall-made journal read zero made all = absurd (omega (arith, made.some))
IsLastInstall-made journal read (suc place) made all = λ count.
    let before : suc place - 1 ≡ place = omega arith in
    list_any-drop_last (installs read.key) journal place count (omega (arith, made.past))
    (subst (λ (index : ℕ). IfSome (slice_get journal index)
    (λ (last : Entry). installs read.key last ≡ true)) before made.there)
    (list_any-installs_none (drop (suc place) journal) read.key
    (omega (arith, length-install_places_parts journal read.key (suc place), made.number, all)))

-- the entry with which the latest version is held is the last install
IsLastInstall-held : (desc : DescOf) (state : State) (key : Key) (number : ℕ) → IsGood desc state
    → entry_in state.held (latest desc state.journal key) ≡ Some number
    → IsLastInstall state.journal key number
IsLastInstall-held desc state key number good held =
    let read = latest desc state.journal key in
    let may : MayBeHeld desc state.journal read number =
    subst (λ (told : Option ℕ). IfSome told (MayBeHeld desc state.journal read)) held
    (good.held.made read) in
    IsLastInstall-made state.journal read number may.made
    (sym (version-view desc state.journal key may.view))

-- a view's partition whose latest version is not held has no installs
length-install_places_not_held : (desc : DescOf) (state : State) (key : Key) (count : ℕ)
    → IsGood desc state → entry_in state.held (latest desc state.journal key) ≡ None
    → is_raw (slice_get desc.tables key.table) ≡ false → version desc state.journal key ≡ count
    → length (install_places state.journal key) ≡ 0
length-install_places_not_held desc state key zero good held view is =
    sym (version-view desc state.journal key view) ∙ is
length-install_places_not_held desc state key (suc count) good held view is =
    absurd (false≢true
    (subst IsSome held ((good.held.current key).there view (omega (arith, is)))))

-- and no entry installs a partition, of a view or not, whose latest version is not held
list_any-not_held : (desc : DescOf) (state : State) (key : Key) → IsGood desc state
    → entry_in state.held (latest desc state.journal key) ≡ None
    → list_any (installs key) state.journal ≡ false
list_any-not_held desc state key good held =
    elim (cases_Bool (is_raw (slice_get desc.tables key.table))) [
      | inl raw ↦ list_any-installs_raw desc state.journal key good.fits raw
      | inr view ↦ list_any-installs_none state.journal key
          (length-install_places_not_held desc state key (version desc state.journal key) good held
          view refl)
    ]

-- so what is held of the latest version tells the last install
pub IsLastInstall-told : (desc : DescOf) (state : State) (key : Key) (told : Option ℕ)
    → IsGood desc state → entry_in state.held (latest desc state.journal key) ≡ told
    → IsLastInstall state.journal key (unwrap_or told 0)
IsLastInstall-told desc state key (Some number) good held =
    IsLastInstall-held desc state key number good held
IsLastInstall-told desc state key None good held =
    IsLastInstall-none state.journal key (list_any-not_held desc state key good held)

-- an install is the latest exactly if its number is that of the last one
pub is_latest-last : (journal : List Entry) (key : Key) (number last : ℕ)
    → IsInstallAt journal key number → IsLastInstall journal key last
    → nat_eq last number ≡ is_latest journal number key
is_latest-last journal key number last (place, at, is, there) exact =
    let here : list_any (installs key) (drop place journal) ≡ true =
    list_any-drop_before (installs key) journal place place
    (slice_get_within journal place (entry.Install key at) there)
    (subst (λ found. IfSome found (λ (there : Entry). installs key there ≡ true)) (sym there)
    (is_key-itself key)) (omega arith) in
    let before : place < last = ltb-true place last (sym (exact place) ∙ here) in
    rw (exact number) (at_most (omega (arith, before, is)))
  where
    at_most : number ≤ last → nat_eq last number ≡ not (nat_lt number last)
    at_most below = grind (arith, nat_tests)
