-- What one entry more leaves: which installs are the latest (`is_latest-push`), and the rows of the
-- latest version of a view's partition (`latest_content-push`).
use Rattle.std.proofs.Common.{◌≡◌, ◌∙◌, ◌≤◌, ℕ, List, [], ◌∷◌, ◌++◌, Some, ap, arith, drop, length}
use Rattle.std.proofs.Common.{refl, sym}
use Rattle.std.specs.Prelude.{true, false, IsSomeAnd, None, Option, slice_get}
use Rattle.std.specs.List.{list_any}
use Rattle.std.proofs.lemmas.Bool.{not-true, not_from_false, or_parts}
use Rattle.std.proofs.lemmas.List.{drop-append-le}
use Rattle.std.proofs.lemmas.List.Folds.{list_any-append}
use Rattle.desc_types.specs.declared.table.Key.{Key}
use Rattle.desc_types.specs.Descriptions.{DescOf}
use Rattle.view_meaning.specs.declared.journal.Entry.{Entry}
use Rattle.view_meaning.specs.declared.journal.Entry.TheVariants as entry
use Rattle.view_meaning.specs.Contents.{content, latest_content}
use Rattle.view_meaning.specs.LegalJournals.{IsLegal}
use Rattle.view_meaning.specs.Versions.{install_places, installs, is_raw, version}
use Rattle.view_meaning.proofs.VersionLemmas.{install_places-same, version-view}
use Rattle.machine_meaning.proofs.ContentLemmas.{stable_contents}
use Rattle.depot_recovery.specs.Depots.{DepotOf, is_latest}
use Rattle.depot_recovery.specs.Images.{IsDepot, IsWritable}
use Rattle.depot_recovery.proofs.ViewPartLemmas.{is_raw-IsPartOfView}
use Rattle.depot_recovery.proofs.ZipLemmas.{AllZip-slice_get}

-- an install is the latest one of its partition, and stays so
pub record StaysLatest (journal : List Entry) (next : Entry) (number : ℕ) (key : Key) : Type 0 where
  pub was : is_latest journal number key ≡ true
  pub other : installs key next ≡ false

-- if it is the latest after one entry more, it stayed so
pub is_latest-push : (journal : List Entry) (next : Entry) (number : ℕ) (key : Key)
    → number ≤ length journal → is_latest (journal ++ next ∷ []) number key ≡ true
    → StaysLatest journal next number key
is_latest-push journal next number key within last =
    let behind : list_any (installs key) (drop number journal ++ next ∷ []) ≡ false =
    ap (list_any (installs key)) (sym (drop-append-le number journal (next ∷ []) within))
    ∙ not-true (list_any (installs key) (drop number (journal ++ next ∷ []))) last in
    let parts = or_parts (list_any (installs key) (drop number journal))
    (list_any (installs key) (next ∷ []))
    (sym (list_any-append (installs key) (drop number journal) (next ∷ [])) ∙ behind) in
    record {
      was = not_from_false (list_any (installs key) (drop number journal)) parts.0;
      other = (or_parts (installs key next) false parts.1).0;
    }

-- an install that can be written is of a view
is_raw-writable : (desc : DescOf) (key : Key) (at : ℕ) (found : Option ℕ)
    → IsSomeAnd found (IsWritable desc (entry.Install key at))
    → is_raw (slice_get desc.tables key.table) ≡ false
is_raw-writable desc key at None writable = absurd writable
is_raw-writable desc key at (Some len) writable =
    is_raw-IsPartOfView key (slice_get desc.tables key.table) writable.fits

-- so each install of a depot is of a view
pub is_raw-install : (depot : DepotOf) (place : ℕ) (key : Key) (at : ℕ) → IsDepot depot
    → slice_get depot.entries place ≡ Some (entry.Install key at)
    → is_raw (slice_get depot.desc.tables key.table) ≡ false
is_raw-install depot place key at made there =
    is_raw-writable depot.desc key at (slice_get depot.lengths place)
    (AllZip-slice_get (IsWritable depot.desc) depot.entries depot.lengths place
    (entry.Install key at) there made.written)

-- the latest version of a view's partition has the rows that it had, if the entry is another one
pub latest_content-push : (desc : DescOf) (journal : List Entry) (next : Entry) (key : Key)
    → IsLegal desc (journal ++ next ∷ []) → is_raw (slice_get desc.tables key.table) ≡ false
    → installs key next ≡ false
    → latest_content desc (journal ++ next ∷ []) key ≡ latest_content desc journal key
latest_content-push desc journal next key legal view other =
    let none : install_places (next ∷ []) key ≡ [] = rw other refl in
    ap (content desc (journal ++ next ∷ []) key)
    (version-view desc (journal ++ next ∷ []) key view
    ∙ ap length (install_places-same journal (next ∷ []) key none)
    ∙ sym (version-view desc journal key view))
    ∙ stable_contents desc journal (next ∷ []) key (version desc journal key) legal
    (omega arith)
