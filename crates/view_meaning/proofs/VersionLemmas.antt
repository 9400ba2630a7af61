-- The versions of a partition as its journal grows: they never fall, and they stay if nothing is
-- loaded and the partition is not installed.
use Rattle.std.proofs.Common.{◌≡◌, ◌∙◌, ℕ, ◌≤◌, List, [], ◌∷◌, ◌++◌, length, take, drop, get_or}
use Rattle.std.proofs.Common.{refl, sym, ap, map, subst, inl, inr, arith}
use Rattle.std.specs.Prelude.{true, false, filter, fold, slice_get, if◌then◌else◌}
use Rattle.std.proofs.lemmas.Bool.{cases_Bool}
use Rattle.std.proofs.lemmas.List.{append-nil, map-append, length-append, take-append-drop}
use Rattle.std.proofs.lemmas.List.{take-append-le}
use Rattle.std.proofs.lemmas.List.Elements.{filter-append}
use Rattle.std.proofs.lemmas.List.Sums.{fold-append}
use Rattle.desc_types.specs.declared.table.Key.{Key}
use Rattle.desc_types.specs.Deliveries.{DeliveryOf}
use Rattle.desc_types.specs.Descriptions.{DescOf}
use Rattle.view_meaning.specs.declared.journal.Entry.{Entry}
use Rattle.view_meaning.specs.declared.journal.Entry.TheVariants as entry
use Rattle.view_meaning.specs.Journal.{accepted}
use Rattle.view_meaning.specs.Versions.{loads_after, raw_version, installs, place_of}
use Rattle.view_meaning.specs.Versions.{install_places, is_raw, version, nth_place, last_place}
use Rattle.view_meaning.specs.Versions.{current, recorded}
use Rattle.view_meaning.proofs.ListLemmas.{get_or-last}
use Rattle.view_meaning.proofs.JournalLemmas.{accepted-append}

-- the installs of a partition in two journals are those in the first, then those in the second
pub install_places-append : (journal more : List Entry) (key : Key)
    → install_places (journal ++ more) key ≡ install_places journal key ++ install_places more key
install_places-append journal more key =
    ap (λ (found : List Entry). map place_of found) (filter-append (installs key) journal more)
    ∙ map-append place_of (filter (installs key) journal) (filter (installs key) more)

-- they stay if the second has none
pub install_places-same : (journal more : List Entry) (key : Key) → install_places more key ≡ []
    → install_places (journal ++ more) key ≡ install_places journal key
install_places-same journal more key none =
    install_places-append journal more key
    ∙ ap (λ (places : List ℕ). install_places journal key ++ places) none
    ∙ append-nil (install_places journal key)

-- deliveries that follow never lower the count
loads_after-le : (desc : DescOf) (key : Key) (before accepted more : List DeliveryOf)
    → loads_after desc key before accepted ≤ loads_after desc key before (accepted ++ more)
loads_after-le desc key before [] more = omega arith
loads_after-le desc key before (delivery ∷ later) more =
    omega (arith, loads_after-le desc key (before ++ delivery ∷ []) later more)

-- the version of a partition of another table is the number of its installs
pub version-view : (desc : DescOf) (journal : List Entry) (key : Key)
    → is_raw (slice_get desc.tables key.table) ≡ false
    → version desc journal key ≡ length (install_places journal key)
version-view desc journal key view = rw view refl

-- a version never falls
pub version-le : (desc : DescOf) (journal more : List Entry) (key : Key)
    → version desc journal key ≤ version desc (journal ++ more) key
version-le desc journal more key =
    elim (cases_Bool (is_raw (slice_get desc.tables key.table))) [
      | inl raw ↦ rw raw (rw (accepted-append journal more)
          (loads_after-le desc key [] (accepted journal) (accepted more)))
      | inr view ↦ rw view (omega (
        arith,
        ap length (install_places-append journal more key),
        length-append (install_places journal key) (install_places more key),
      ))
    ]

-- it was no greater after the first entries
pub version-take-le : (desc : DescOf) (count : ℕ) (journal : List Entry) (key : Key)
    → version desc (take count journal) key ≤ version desc journal key
version-take-le desc count journal key =
    subst (λ (all : List Entry). version desc (take count journal) key ≤ version desc all key)
    (take-append-drop count journal)
    (version-le desc (take count journal) (drop count journal) key)

-- it stays if nothing is loaded and the partition is not installed
pub version-same : (desc : DescOf) (journal more : List Entry) (key : Key)
    → accepted more ≡ [] → install_places more key ≡ []
    → version desc (journal ++ more) key ≡ version desc journal key
version-same desc journal more key no_load no_install =
    let loads : accepted (journal ++ more) ≡ accepted journal =
    accepted-append journal more
    ∙ ap (λ (deliveries : List DeliveryOf). accepted journal ++ deliveries) no_load
    ∙ append-nil (accepted journal) in
    let places : install_places (journal ++ more) key ≡ install_places journal key =
    install_places-same journal more key no_install in
    λ i. if is_raw (slice_get desc.tables key.table) then raw_version desc (loads i) key
    else length (places i)

-- the last install is the same one if the partition is not installed since
pub last_place-same : (journal more : List Entry) (key : Key) → install_places more key ≡ []
    → last_place (journal ++ more) key ≡ last_place journal key
last_place-same journal more key none =
    ap (λ (places : List ℕ). fold (λ _ place. place) 0 places)
    (install_places-same journal more key none)

-- a partition without an install has no last place
pub last_place-none : (journal : List Entry) (key : Key) → install_places journal key ≡ []
    → last_place journal key ≡ 0
last_place-none journal key none = ap (λ (places : List ℕ). fold (λ _ place. place) 0 places) none

-- the last install is the one that has all others before it
pub nth_place-last : (journal : List Entry) (key : Key) (first : ℕ) (later : List ℕ)
    → install_places journal key ≡ first ∷ later
    → nth_place journal key (length later) ≡ last_place journal key
nth_place-last journal key first later some =
    ap (λ (places : List ℕ). get_or places (length later) 0) some
    ∙ get_or-last first later
    ∙ ap (λ (places : List ℕ). fold (λ _ place. place) 0 places) (sym some)

-- an install at the end of the journal is the last one
pub last_place-Install : (journal : List Entry) (key installed : Key) (at : ℕ)
    → installs key (entry.Install installed at) ≡ true
    → last_place (journal ++ entry.Install installed at ∷ []) key ≡ at
last_place-Install journal key installed at same =
    ap (λ (places : List ℕ). fold (λ _ place. place) 0 places)
    (install_places-append journal (entry.Install installed at ∷ []) key)
    ∙ fold-append (λ _ place. place) 0 (install_places journal key)
    (install_places (entry.Install installed at ∷ []) key)
    ∙ rw same refl

-- the entries that the last install of a partition counted
abbrev pub seen : List Entry → Key → List Entry
seen journal key = take (last_place journal key) journal

-- they are the same ones if the partition is not installed since
pub seen-same : (journal more : List Entry) (key : Key)
    → last_place journal key ≤ length journal → install_places more key ≡ []
    → seen (journal ++ more) key ≡ seen journal key
seen-same journal more key within none =
    ap (λ (place : ℕ). take place (journal ++ more)) (last_place-same journal more key none)
    ∙ take-append-le (last_place journal key) journal more within

-- what the last install recorded stays if the partition is not installed since
pub recorded-same : (desc : DescOf) (journal more : List Entry) (key : Key)
    → last_place journal key ≤ length journal → install_places more key ≡ []
    → recorded desc (journal ++ more) key ≡ recorded desc journal key
recorded-same desc journal more key within none =
    ap (λ (before : List Entry). current desc before key) (seen-same journal more key within none)
