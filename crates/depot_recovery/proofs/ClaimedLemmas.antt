-- The rows of a claim are those that its install adds: `claims_tell_rows`.
use Rattle.std.proofs.Common.{◌≡◌, ◌∙◌, ◌≤◌, ℕ, suc, List, [], ◌∷◌, ◌++◌, ap, arith}
use Rattle.std.proofs.Common.{get_or, length, refl, sym, take}
use Rattle.std.specs.Prelude.{slice_get}
use Rattle.std.proofs.lemmas.List.{get_or_push, length_push, take-append-le}
use Rattle.depot_cell.specs.declared.cell.Cell.{Cell}
use Rattle.desc_types.specs.declared.table.Key.{Key}
use Rattle.desc_types.specs.Descriptions.{DescOf}
use Rattle.desc_types.specs.Sources.{HasEarlierSources}
use Rattle.view_meaning.specs.declared.journal.Entry.{Entry}
use Rattle.view_meaning.specs.declared.journal.Entry.TheVariants as entry
use Rattle.view_meaning.specs.Contents.{content, latest_content}
use Rattle.view_meaning.specs.Journal.{accepted}
use Rattle.view_meaning.specs.LegalJournals.{IsLegal, MayInstall}
use Rattle.view_meaning.specs.Values.{value, value_over}
use Rattle.view_meaning.specs.Versions.{install_places, nth_place, version}
use Rattle.view_meaning.proofs.AmongLemmas.{is_key-itself}
use Rattle.view_meaning.proofs.GrowLemmas.{content_within-take}
use Rattle.view_meaning.proofs.InstallValueLemmas.{install_values}
use Rattle.view_meaning.proofs.LatestLemmas.{values_of_latest}
use Rattle.view_meaning.proofs.LegalLemmas.{IsLegal-push, is_raw-stale}
use Rattle.view_meaning.proofs.VersionLemmas.{install_places-append, version-view}
use Rattle.depot_recovery.specs.Growth.{ClaimsTellRows}

-- a journal with an install of a partition at its end
abbrev with_install_at : List Entry → Key → (at : ℕ) → List Entry
with_install_at journal key at = journal ++ entry.Install key at ∷ []

-- the partition has that install after all others
install_places-push : (journal : List Entry) (key : Key) (at : ℕ)
    → install_places (with_install_at journal key at) key ≡ install_places journal key ++ at ∷ []
install_places-push journal key at =
    let one : install_places (entry.Install key at ∷ []) key ≡ at ∷ [] =
    rw (is_key-itself key) refl in
    install_places-append journal (entry.Install key at ∷ []) key
    ∙ ap (λ (places : List ℕ). install_places journal key ++ places) one

-- so its number is that of all others
length-install_places-push : (journal : List Entry) (key : Key) (at : ℕ)
    → length (install_places (with_install_at journal key at) key)
    ≡ suc (length (install_places journal key))
length-install_places-push journal key at =
    omega (
      arith,
      ap length (install_places-push journal key at),
      length_push (install_places journal key) at,
    )

-- and it is found there
nth_place-push : (journal : List Entry) (key : Key) (at : ℕ)
    → nth_place (with_install_at journal key at) key (length (install_places journal key)) ≡ at
nth_place-push journal key at =
    ap (λ (places : List ℕ). get_or places (length (install_places journal key)) 0)
    (install_places-push journal key at)
    ∙ get_or_push (install_places journal key) at 0 (length (install_places journal key)) refl

-- what the install of a claim adds is the value over the deliveries up to the claim's place
latest_content-install : (desc : DescOf) (journal : List Entry) (key : Key) (at : ℕ)
    → HasEarlierSources desc → IsLegal desc journal → MayInstall desc journal key at
    → latest_content desc (with_install_at journal key at) key
    ≡ value desc (accepted (take at journal)) key
latest_content-install desc journal key at earlier legal may =
    let later = with_install_at journal key at in
    let number = length (install_places journal key) in
    let many = length-install_places-push journal key at in
    let view = is_raw-stale desc (take at journal) key may.stale in
    ap (content desc later key) (version-view desc later key view ∙ many)
    ∙ install_values desc later key number earlier
    (IsLegal-push desc journal (entry.Install key at) legal may) (omega (arith, many))
    ∙ ap (λ (place : ℕ). value desc (accepted (take place later)) key)
    (nth_place-push journal key at)
    ∙ ap (λ (before : List Entry). value desc (accepted before) key)
    (take-append-le at journal (entry.Install key at ∷ []) may.past)

-- the content of a version that had come about stays
content-take : (desc : DescOf) (journal : List Entry) (key : Key) (at number : ℕ)
    → IsLegal desc journal → number ≤ version desc (take at journal) key
    → content desc journal key number ≡ content desc (take at journal) key number
content-take desc journal key at number legal known =
    content_within-take (suc key.table) desc at journal key number legal known

-- what a partition is made of the latest versions after a journal
abbrev rows_after : DescOf → List Entry → Key → List (List Cell)
rows_after desc journal key = value_over desc (accepted journal) (latest_content desc journal) key
    (slice_get desc.tables key.table)

pub claims_tell_rows : ClaimsTellRows
claims_tell_rows = record {
  added = λ desc journal key at earlier legal may.
      latest_content-install desc journal key at earlier legal may
      ∙ sym (values_of_latest desc (take at journal) key earlier may.ready);
  kept = λ desc journal more key at within.
      ap (λ (before : List Entry). rows_after desc before key)
      (take-append-le at journal more within);
  stays = content-take;
  read = λ desc journal key at legal.
      ap (λ (rows : Key → List (List Cell)).
      value_over desc (accepted (take at journal)) rows key (slice_get desc.tables key.table))
      (λ i source. content-take desc journal source at (version desc (take at journal) source)
      legal (omega arith) i);
}
