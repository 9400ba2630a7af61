-- The content of a version stays as the journal grows: `content_within-take`.
use Rattle.std.proofs.Common.{◌≡◌, ◌∙◌, ℕ, zero, suc, ◌<◌, ◌≤◌, List, [], ◌∷◌, ◌++◌, length, take}
use Rattle.std.proofs.Common.{drop, get_or, refl, sym, ap, inl, inr, arith}
use Rattle.std.specs.Prelude.{Option, Some, None, flat_map, slice_get, if◌then◌else◌}
use Rattle.std.proofs.lemmas.Bool.{cases_Bool}
use Rattle.std.proofs.lemmas.List.{append-nil, append_assoc, get_or_append_left, take-append-drop}
use Rattle.std.proofs.lemmas.List.{take-append-le}
use Rattle.depot_cell.specs.declared.cell.Cell.{Cell}
use Rattle.desc_types.specs.declared.table.Key.{Key}
use Rattle.desc_types.specs.Deliveries.{DeliveryOf}
use Rattle.desc_types.specs.Descriptions.{DescOf}
use Rattle.desc_types.specs.Tables.{TableOf}
use Rattle.view_meaning.specs.declared.journal.Entry.{Entry}
use Rattle.view_meaning.specs.Partitions.{keys_below}
use Rattle.view_meaning.specs.Journal.{accepted}
use Rattle.view_meaning.specs.Versions.{touches, raw_version, install_places, is_raw, is_raw_kind}
use Rattle.view_meaning.specs.Versions.{version}
use Rattle.view_meaning.specs.Values.{joined, made_of}
use Rattle.view_meaning.specs.LegalJournals.{IsLegal}
use Rattle.view_meaning.specs.Contents.{rows_kept, loads_kept, raw_content, install_content}
use Rattle.view_meaning.specs.Contents.{view_content, content_over, content_within}
use Rattle.view_meaning.proofs.ListLemmas.{append-cons_if}
use Rattle.view_meaning.proofs.JournalLemmas.{accepted-append}
use Rattle.view_meaning.proofs.RawLemmas.{version-raw}
use Rattle.view_meaning.proofs.VersionLemmas.{install_places-append, version-view, version-take-le}
use Rattle.view_meaning.proofs.LegalLemmas.{AreWithin, IsLegal-take, install_places-le}
use Rattle.view_meaning.proofs.ContentLemmas.{length-loads_kept, made_of-joined}

-- the rows of the deliveries of two lists are those of the first, then those of the second
pub loads_kept-append : (desc : DescOf) (key : Key) (before accepted more : List DeliveryOf)
    → loads_kept desc key before (accepted ++ more)
    ≡ loads_kept desc key before accepted ++ loads_kept desc key (before ++ accepted) more
loads_kept-append desc key before [] more =
    ap (λ (all : List DeliveryOf). loads_kept desc key all more) (sym (append-nil before))
loads_kept-append desc key before (delivery ∷ later) more =
    let next = before ++ delivery ∷ [] in
    ap (λ (rest : List (List (List Cell))).
    if touches desc key before delivery then rows_kept desc key before delivery ∷ rest else rest)
    (loads_kept-append desc key next later more
    ∙ ap (λ (all : List DeliveryOf). loads_kept desc key next later ++ loads_kept desc key all more)
    (append_assoc before (delivery ∷ []) later))
    ∙ append-cons_if (touches desc key before delivery) (rows_kept desc key before delivery)
    (loads_kept desc key next later) (loads_kept desc key (before ++ delivery ∷ later) more)

-- deliveries more leave the content of a version of a raw partition
raw_content-append : (desc : DescOf) (accepted more : List DeliveryOf) (key : Key) (number : ℕ)
    → number ≤ raw_version desc accepted key
    → raw_content desc (accepted ++ more) key number ≡ raw_content desc accepted key number
raw_content-append desc accepted more key number known =
    ap (λ (loads : List (List (List Cell))). flat_map (λ rows. rows) (take number loads))
    (loads_kept-append desc key [] accepted more)
    ∙ ap (λ (loads : List (List (List Cell))). flat_map (λ rows. rows) loads)
    (take-append-le number (loads_kept desc key [] accepted) (loads_kept desc key accepted more)
    (omega (arith, length-loads_kept desc key [] accepted)))

-- entries more leave what an install made, if they leave the versions of its sources
install_content-append : (desc : DescOf) (rows other : Key → ℕ → List (List Cell))
    (journal more : List Entry) (key : Key) (table : TableOf) (at : ℕ) → at ≤ length journal
    → ((source : Key) (number : ℕ) → number ≤ version desc journal source
    → rows source number ≡ other source number)
    → install_content desc rows (journal ++ more) key table at
    ≡ install_content desc other journal key table at
install_content-append desc rows other journal more key table at within agree =
    let before = take at journal in
    ap (λ (before : List Entry). made_of table.kind
    (joined desc (λ source. rows source (version desc before source)) table.width key.part))
    (take-append-le at journal more within)
    ∙ made_of-joined desc (λ source. rows source (version desc before source))
    (λ source. other source (version desc before source)) table key.part
    (λ index default _.
    let source = get_or (keys_below desc key.part (Some table)) index default in
    agree source (version desc before source) (version-take-le desc at journal source))

-- they leave the content of a version of a view's partition
view_content-append : (desc : DescOf) (rows other : Key → ℕ → List (List Cell))
    (journal more : List Entry) (key : Key) (table : TableOf) (number : ℕ)
    → number ≤ length (install_places journal key)
    → AreWithin (length journal) (install_places journal key)
    → ((source : Key) (number : ℕ) → number ≤ version desc journal source
    → rows source number ≡ other source number)
    → view_content desc rows (journal ++ more) key table number
    ≡ view_content desc other journal key table number
view_content-append desc rows other journal more key table zero known within agree = refl
view_content-append desc rows other journal more key table (suc number) known within agree =
    let places = install_places journal key in
    let there : number < length places = omega (arith, known) in
    ap (λ (all : List ℕ).
    install_content desc rows (journal ++ more) key table (get_or all number 0))
    (install_places-append journal more key)
    ∙ ap (install_content desc rows (journal ++ more) key table)
    (get_or_append_left places (install_places more key) 0 number there)
    ∙ install_content-append desc rows other journal more key table (get_or places number 0)
    (within number 0 there) agree

-- they leave the content of a version of a partition of this table
content_over-append : (desc : DescOf) (rows other : Key → ℕ → List (List Cell))
    (journal more : List Entry) (key : Key) (number : ℕ) (found : Option TableOf)
    → slice_get desc.tables key.table ≡ found → number ≤ version desc journal key
    → AreWithin (length journal) (install_places journal key)
    → ((source : Key) (number : ℕ) → number ≤ version desc journal source
    → rows source number ≡ other source number)
    → content_over desc rows (journal ++ more) key number found
    ≡ content_over desc other journal key number found
content_over-append desc rows other journal more key number None here known within agree = refl
content_over-append desc rows other journal more key number (Some table) here known within agree =
    elim (cases_Bool (is_raw_kind table.kind)) [
      | inl raw ↦ rw raw
          (ap (λ (all : List DeliveryOf). raw_content desc all key number)
          (accepted-append journal more)
          ∙ raw_content-append desc (accepted journal) (accepted more) key number
          (omega (arith, known, version-raw desc journal key (ap is_raw here ∙ raw))))
      | inr view ↦ rw view
          (view_content-append desc rows other journal more key table number
          (omega (arith, known, version-view desc journal key (ap is_raw here ∙ view)))
          within agree)
    ]

-- entries after a legal journal leave the content of each version that it has
content_within-append : (depth : ℕ) (desc : DescOf) (journal more : List Entry) (key : Key)
    (number : ℕ) → IsLegal desc journal → number ≤ version desc journal key
    → content_within depth desc (journal ++ more) key number
    ≡ content_within depth desc journal key number
content_within-append zero desc journal more key number legal known = refl
content_within-append (suc depth) desc journal more key number legal known =
    content_over-append desc (content_within depth desc (journal ++ more))
    (content_within depth desc journal) journal more key number (slice_get desc.tables key.table)
    refl known (install_places-le desc journal key legal)
    (λ source version known.
    content_within-append depth desc journal more source version legal known)

-- a version that was there after the first entries of a legal journal has the content that it had
pub content_within-take : (depth : ℕ) (desc : DescOf) (count : ℕ) (journal : List Entry) (key : Key)
    (number : ℕ) → IsLegal desc journal → number ≤ version desc (take count journal) key
    → content_within depth desc journal key number
    ≡ content_within depth desc (take count journal) key number
content_within-take depth desc count journal key number legal known =
    ap (λ (all : List Entry). content_within depth desc all key number)
    (sym (take-append-drop count journal))
    ∙ content_within-append depth desc (take count journal) (drop count journal) key number
    (IsLegal-take desc count journal legal) known
