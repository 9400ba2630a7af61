-- Legal journals: they grow by one entry that may follow, and each install in them is of a view,
-- has a place among their entries, and saw its sources settled.
use Rattle.std.proofs.Common.{◌≡◌, ◌∙◌, ℕ, zero, suc, ◌≤◌, List, [], ◌∷◌, ◌++◌, length, take, sym}
use Rattle.std.proofs.Common.{ap, subst, inl, inr, arith}
use Rattle.std.specs.Prelude.{true, false, All, fold, slice_get}
use Rattle.std.specs.List.{list_all, list_any}
use Rattle.std.proofs.lemmas.Bool.{both_ways, cases_Bool, false_from_ne_true}
use Rattle.std.proofs.lemmas.List.{append-nil, append_assoc, length-append, take_all}
use Rattle.std.proofs.lemmas.List.{take-append-le, drop_all}
use Rattle.std.proofs.lemmas.List.Elements.{All-nil, All-cons, All-head, All-tail, All-weaker}
use Rattle.std.proofs.lemmas.List.Elements.{All-append}
use Rattle.desc_types.specs.declared.table.Key.{Key}
use Rattle.desc_types.specs.Descriptions.{DescOf}
use Rattle.view_meaning.specs.declared.journal.Entry.{Entry}
use Rattle.view_meaning.specs.declared.journal.Entry.TheVariants as entry
use Rattle.view_meaning.specs.Partitions.{is_part, sources_of}
use Rattle.view_meaning.specs.Staleness.{is_stale, is_settled}
use Rattle.view_meaning.specs.Versions.{installs, install_places, is_raw, last_place}
use Rattle.view_meaning.specs.LegalJournals.{MayInstall, MayFollow, MayAllFollow, IsLegal}
use Rattle.view_meaning.proofs.AmongLemmas.{is_key-same}
use Rattle.view_meaning.proofs.KeyLemmas.{sources_of-raw}
use Rattle.view_meaning.proofs.VersionLemmas.{install_places-append}
use Rattle.view_meaning.proofs.SettledLemmas.{is_stale-no_sources}

-- one entry more may follow after those that may
MayAllFollow-push : (desc : DescOf) (journal entries : List Entry) (next : Entry)
    → MayAllFollow desc journal entries → MayFollow desc (journal ++ entries) next
    → MayAllFollow desc journal (entries ++ next ∷ [])
MayAllFollow-push desc journal [] next may follows =
    (subst (λ (before : List Entry). MayFollow desc before next) (append-nil journal) follows, tt)
MayAllFollow-push desc journal (first ∷ later) next may follows = (
  may.0,
  MayAllFollow-push desc (journal ++ first ∷ []) later next may.1
      (subst (λ (before : List Entry). MayFollow desc before next)
      (sym (append_assoc journal (first ∷ []) later)) follows),
)

-- a legal journal with an entry that may follow is legal
pub IsLegal-push : (desc : DescOf) (journal : List Entry) (next : Entry)
    → IsLegal desc journal → MayFollow desc journal next → IsLegal desc (journal ++ next ∷ [])
IsLegal-push desc journal next = MayAllFollow-push desc [] journal next

-- a partition that is stale and whose sources are settled may be installed, with the last place
pub MayInstall-last : (desc : DescOf) (journal : List Entry) (key : Key)
    → is_part desc key ≡ true → is_stale desc journal key ≡ true
    → list_all (is_settled desc journal) (sources_of desc key) ≡ true
    → MayInstall desc journal key (length journal)
MayInstall-last desc journal key part stale ready =
    let all : take (length journal) journal ≡ journal =
    take_all (length journal) journal (omega arith) in
    record {
      part = part;
      past = omega arith;
      stale = subst (λ (before : List Entry). is_stale desc before key ≡ true) (sym all) stale;
      ready = subst
          (λ (before : List Entry). list_all (is_settled desc before) (sources_of desc key) ≡ true)
          (sym all) ready;
      alone = ap (λ (since : List Entry). list_any (installs key) since)
          (drop_all (length journal) journal (omega arith));
    }

-- what holds of a legal journal, and is kept by each entry that may follow one, holds after
-- entries that may follow one by one
MayAllFollow-kept : (desc : DescOf) (P : List Entry → Type 0)
    → ((journal : List Entry) (next : Entry) → IsLegal desc journal → P journal
    → MayFollow desc journal next → P (journal ++ next ∷ []))
    → (journal entries : List Entry) → IsLegal desc journal → P journal
    → MayAllFollow desc journal entries → P (journal ++ entries)
MayAllFollow-kept desc P kept journal [] legal here may = subst P (sym (append-nil journal)) here
MayAllFollow-kept desc P kept journal (next ∷ later) legal here may =
    subst P (append_assoc journal (next ∷ []) later)
    (MayAllFollow-kept desc P kept (journal ++ next ∷ []) later
    (IsLegal-push desc journal next legal may.0) (kept journal next legal here may.0) may.1)

-- what holds of no entries, and is kept by each entry that may follow a legal journal, holds of
-- each legal journal
pub IsLegal-kept : (desc : DescOf) (P : List Entry → Type 0) → P []
    → ((journal : List Entry) (next : Entry) → IsLegal desc journal → P journal
    → MayFollow desc journal next → P (journal ++ next ∷ []))
    → (journal : List Entry) → IsLegal desc journal → P journal
IsLegal-kept desc P first kept journal = MayAllFollow-kept desc P kept [] journal tt first

-- the first of some entries that may follow one by one may
MayAllFollow-take : (desc : DescOf) (count : ℕ) (journal entries : List Entry)
    → MayAllFollow desc journal entries → MayAllFollow desc journal (take count entries)
MayAllFollow-take desc zero journal entries may = tt
MayAllFollow-take desc (suc count) journal [] may = tt
MayAllFollow-take desc (suc count) journal (next ∷ later) may =
    (may.0, MayAllFollow-take desc count (journal ++ next ∷ []) later may.1)

-- the first entries of a legal journal are one
pub IsLegal-take : (desc : DescOf) (count : ℕ) (journal : List Entry) → IsLegal desc journal
    → IsLegal desc (take count journal)
IsLegal-take desc count journal = MayAllFollow-take desc count [] journal

-- what is stale is no partition of a raw table
pub is_raw-stale : (desc : DescOf) (journal : List Entry) (key : Key)
    → is_stale desc journal key ≡ true → is_raw (slice_get desc.tables key.table) ≡ false
is_raw-stale desc journal key stale =
    false_from_ne_true (is_raw (slice_get desc.tables key.table)) (λ raw.
    both_ways (is_stale desc journal key)
    (is_stale-no_sources desc journal key (sources_of-raw desc key raw)) stale)

-- an install with this place is of a view, and saw its sources settled after some of the
-- journal's entries
pub record SawSettled (desc : DescOf) (journal : List Entry) (key : Key)
    (place : ℕ) : Type 0 where
  pub view : is_raw (slice_get desc.tables key.table) ≡ false
  pub past : place ≤ length journal
  pub ready : list_all (is_settled desc (take place journal)) (sources_of desc key) ≡ true

-- so does one that may follow
SawSettled-MayInstall : (desc : DescOf) (journal : List Entry) (key : Key) (at : ℕ)
    → MayInstall desc journal key at → SawSettled desc journal key at
SawSettled-MayInstall desc journal key at may = record {
  view = is_raw-stale desc (take at journal) key may.stale;
  past = may.past;
  ready = may.ready;
}

-- entries more do not change what an install saw
SawSettled-append : (desc : DescOf) (journal more : List Entry) (key : Key) (place : ℕ)
    → SawSettled desc journal key place → SawSettled desc (journal ++ more) key place
SawSettled-append desc journal more key place saw = record {
  view = saw.view;
  past = omega (arith, saw.past, length-append journal more);
  ready = ap
      (λ (before : List Entry). list_all (is_settled desc before) (sources_of desc key))
      (take-append-le place journal more saw.past)
      ∙ saw.ready;
}

-- an entry that may follow installs the partition with such a place, if it does
SawSettled-step : (desc : DescOf) (journal : List Entry) (next : Entry) (key : Key)
    → MayFollow desc journal next
    → All (SawSettled desc journal key) (install_places (next ∷ []) key)
SawSettled-step desc journal (entry.Load delivery) key follows =
    All-nil (SawSettled desc journal key)
SawSettled-step desc journal (entry.Install installed at) key follows =
    elim (cases_Bool (installs key (entry.Install installed at))) [
      | inl same ↦ rw same
          (All-cons (SawSettled desc journal key) at []
          (subst (λ (key : Key). SawSettled desc journal key at) (is_key-same key installed same)
          (SawSettled-MayInstall desc journal installed at follows))
          (All-nil (SawSettled desc journal key)))
      | inr other ↦ rw other (All-nil (SawSettled desc journal key))
    ]

-- so all installs have such places, if those before it have
SawSettled-push : (desc : DescOf) (journal : List Entry) (next : Entry) (key : Key)
    → All (SawSettled desc journal key) (install_places journal key) → MayFollow desc journal next
    → All (SawSettled desc (journal ++ next ∷ []) key) (install_places (journal ++ next ∷ []) key)
SawSettled-push desc journal next key saw follows =
    let before = install_places journal key in
    let more = install_places (next ∷ []) key in
    All-weaker (SawSettled desc journal key) (SawSettled desc (journal ++ next ∷ []) key)
    (SawSettled-append desc journal (next ∷ []) key)
    (install_places (journal ++ next ∷ []) key)
    (subst (All (SawSettled desc journal key))
    (sym (install_places-append journal (next ∷ []) key))
    (All-append (SawSettled desc journal key) before more saw
    (SawSettled-step desc journal next key follows)))

-- in a legal journal each install is of a view, and saw its sources settled
pub install_places-saw : (desc : DescOf) (journal : List Entry) (key : Key) → IsLegal desc journal
    → All (SawSettled desc journal key) (install_places journal key)
install_places-saw desc journal key =
    IsLegal-kept desc (λ before. All (SawSettled desc before key) (install_places before key))
    (All-nil (SawSettled desc [] key))
    (λ before next _ saw follows. SawSettled-push desc before next key saw follows)
    journal

-- none of these places is past the end of a journal of this length
abbrev pub AreWithin : (many : ℕ) → List ℕ → Type 0
AreWithin many places = All (λ place. place ≤ many) places

-- the last of some places is not either
last-le : (many first : ℕ) (places : List ℕ) → first ≤ many → AreWithin many places
    → fold (λ _ place. place) first places ≤ many
last-le many first [] at_most within = at_most
last-le many first (next ∷ later) at_most within =
    last-le many next later (All-head (λ place. place ≤ many) next later within)
    (All-tail (λ place. place ≤ many) next later within)

-- in a legal journal the place of each install is within it
pub install_places-le : (desc : DescOf) (journal : List Entry) (key : Key) → IsLegal desc journal
    → AreWithin (length journal) (install_places journal key)
install_places-le desc journal key legal =
    All-weaker (SawSettled desc journal key) (λ place. place ≤ length journal)
    (λ place saw. saw.past) (install_places journal key)
    (install_places-saw desc journal key legal)

-- so is the last place of each partition
pub last_place-le : (desc : DescOf) (journal : List Entry) (key : Key) → IsLegal desc journal
    → last_place journal key ≤ length journal
last_place-le desc journal key legal =
    last-le (length journal) 0 (install_places journal key) (omega arith)
    (install_places-le desc journal key legal)
