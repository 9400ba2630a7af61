-- What is shown of a partition after a legal journal is the content of its latest version:
-- `shown_contents`.
use Rattle.std.proofs.Common.{◌≡◌, ◌∙◌, ℕ, suc, List, [], ◌∷◌, length, take, refl, sym, ap, inl}
use Rattle.std.proofs.Common.{inr, arith}
use Rattle.std.specs.Prelude.{true, false, slice_get}
use Rattle.std.proofs.lemmas.Bool.{cases_Bool}
use Rattle.std.proofs.lemmas.List.{take_all}
use Rattle.desc_types.specs.declared.table.Key.{Key}
use Rattle.desc_types.specs.Descriptions.{DescOf}
use Rattle.desc_types.specs.Sources.{HasEarlierSources}
use Rattle.view_meaning.specs.declared.journal.Entry.{Entry}
use Rattle.view_meaning.specs.Journal.{accepted}
use Rattle.view_meaning.specs.Versions.{install_places, is_raw, last_place, version}
use Rattle.view_meaning.specs.Values.{value}
use Rattle.view_meaning.specs.LegalJournals.{IsLegal}
use Rattle.view_meaning.specs.Contents.{content}
use Rattle.view_meaning.specs.Shown.{upto, HasShownContents}
use Rattle.view_meaning.proofs.KeyLemmas.{sources_of-raw}
use Rattle.view_meaning.proofs.VersionLemmas.{last_place-none, nth_place-last, version-view}
use Rattle.view_meaning.proofs.SettledLemmas.{is_settled-no_sources}
use Rattle.view_meaning.proofs.ContentLemmas.{content_within-start, settled_values, value-empty}
use Rattle.view_meaning.proofs.InstallValueLemmas.{install_values}

-- the rows of a raw partition count all entries
upto-raw : (desc : DescOf) (journal : List Entry) (key : Key)
    → is_raw (slice_get desc.tables key.table) ≡ true → upto desc journal key ≡ length journal
upto-raw desc journal key raw = rw raw refl

-- those of another one count the entries that its last install counted
upto-view : (desc : DescOf) (journal : List Entry) (key : Key)
    → is_raw (slice_get desc.tables key.table) ≡ false
    → upto desc journal key ≡ last_place journal key
upto-view desc journal key view = rw view refl

-- a view's partition without an install holds the value over no deliveries
content-no_install : (desc : DescOf) (journal : List Entry) (key : Key)
    → install_places journal key ≡ []
    → content desc journal key (length (install_places journal key))
    ≡ value desc (accepted (take (last_place journal key) journal)) key
content-no_install desc journal key none =
    ap (λ (places : List ℕ). content desc journal key (length places)) none
    ∙ content_within-start (suc key.table) desc journal key
    ∙ sym (value-empty desc key)
    ∙ ap (λ (place : ℕ). value desc (accepted (take place journal)) key)
    (sym (last_place-none journal key none))

-- what its last install made holds the value over the deliveries that it counted
content-last : (desc : DescOf) (journal : List Entry) (key : Key) (first : ℕ) (later : List ℕ)
    → HasEarlierSources desc → IsLegal desc journal → install_places journal key ≡ first ∷ later
    → content desc journal key (length (install_places journal key))
    ≡ value desc (accepted (take (last_place journal key) journal)) key
content-last desc journal key first later earlier legal some =
    ap (λ (places : List ℕ). content desc journal key (length places)) some
    ∙ install_values desc journal key (length later) earlier legal
    (omega (arith, ap (λ (places : List ℕ). length places) some))
    ∙ ap (λ (place : ℕ). value desc (accepted (take place journal)) key)
    (nth_place-last journal key first later some)

-- after a legal journal the latest version of a view's partition holds its value over the
-- deliveries that its last install counted
pub content-view : (desc : DescOf) (journal : List Entry) (key : Key) → HasEarlierSources desc
    → IsLegal desc journal → is_raw (slice_get desc.tables key.table) ≡ false
    → content desc journal key (version desc journal key)
    ≡ value desc (accepted (take (last_place journal key) journal)) key
content-view desc journal key earlier legal view =
    ap (content desc journal key) (version-view desc journal key view)
    ∙ at_places (install_places journal key) refl
  where
    at_places : (places : List ℕ) → install_places journal key ≡ places
        → content desc journal key (length (install_places journal key))
        ≡ value desc (accepted (take (last_place journal key) journal)) key
    at_places [] none = content-no_install desc journal key none
    at_places (first ∷ later) some = content-last desc journal key first later earlier legal some

-- the latest version of a raw partition holds its value
content-raw : (desc : DescOf) (journal : List Entry) (key : Key)
    → is_raw (slice_get desc.tables key.table) ≡ true
    → content desc journal key (version desc journal key) ≡ value desc (accepted journal) key
content-raw desc journal key raw =
    settled_values desc journal key
    (is_settled-no_sources desc journal key (sources_of-raw desc key raw))

-- what is shown of a partition is the content of its latest version
pub shown_contents : HasShownContents
shown_contents desc journal key earlier legal =
    let rows = λ (place : ℕ). value desc (accepted (take place journal)) key in
    elim (cases_Bool (is_raw (slice_get desc.tables key.table))) [
      | inl raw ↦ ap rows (upto-raw desc journal key raw)
          ∙ ap (λ (all : List Entry). value desc (accepted all) key)
          (take_all (length journal) journal (omega arith))
          ∙ sym (content-raw desc journal key raw)
      | inr view ↦ ap rows (upto-view desc journal key view)
          ∙ sym (content-view desc journal key earlier legal view)
    ]
