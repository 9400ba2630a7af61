-- The version that an install of a legal journal made holds the value over the deliveries that it
-- counted: `install_values`.
use Rattle.std.proofs.Common.{◌≡◌, ◌∙◌, ℕ, suc, ◌<◌, List, take, get_or, refl, arith}
use Rattle.std.specs.Prelude.{false, Option, Some, None, All, slice_get}
use Rattle.std.proofs.lemmas.List.Sums.{AllPass-from_list_all}
use Rattle.depot_cell.specs.declared.cell.Cell.{Cell}
use Rattle.desc_types.specs.declared.table.Key.{Key}
use Rattle.desc_types.specs.Deliveries.{DeliveryOf}
use Rattle.desc_types.specs.Descriptions.{DescOf}
use Rattle.desc_types.specs.Tables.{TableOf}
use Rattle.desc_types.specs.Sources.{HasEarlierSources}
use Rattle.view_meaning.specs.declared.journal.Entry.{Entry}
use Rattle.view_meaning.specs.Partitions.{keys_below, sources_of}
use Rattle.view_meaning.specs.Journal.{accepted}
use Rattle.view_meaning.specs.Versions.{is_raw, nth_place, version}
use Rattle.view_meaning.specs.Values.{value_over, value_within}
use Rattle.view_meaning.specs.Staleness.{is_settled}
use Rattle.view_meaning.specs.LegalJournals.{IsLegal}
use Rattle.view_meaning.specs.Contents.{content_over, content_within}
use Rattle.view_meaning.specs.Installs.{HasInstallValues}
use Rattle.view_meaning.proofs.SourceLemmas.{sources_of-earlier}
use Rattle.view_meaning.proofs.SettledLemmas.{is_settled_within-enough}
use Rattle.view_meaning.proofs.LegalLemmas.{SawSettled, install_places-saw}
use Rattle.view_meaning.proofs.ContentLemmas.{content_within-version, made_of-joined}
use Rattle.view_meaning.proofs.GrowLemmas.{content_within-take}

-- the sources of an install that saw them settled hold, in the versions that it read, the value
-- over the deliveries that it counted
content_within-saw : (desc : DescOf) (journal : List Entry) (key : Key) (place : ℕ)
    → HasEarlierSources desc → IsLegal desc journal → SawSettled desc journal key place
    → All (λ source.
    content_within key.table desc journal source (version desc (take place journal) source)
    ≡ value_within key.table desc (accepted (take place journal)) source) (sources_of desc key)
content_within-saw desc journal key place earlier legal saw index default within =
    let before = take place journal in
    let source = get_or (sources_of desc key) index default in
    let lower : source.table < key.table =
    sources_of-earlier desc key earlier index default within in
    content_within-take key.table desc place journal source (version desc before source) legal
    (omega arith)
    ∙ content_within-version key.table desc before source
    (is_settled_within-enough desc before earlier key.table (suc source.table) source lower
    (omega arith)
    ∙ AllPass-from_list_all (is_settled desc before) (sources_of desc key) saw.ready index default
    within)

-- an install makes the value of its table, if it read the value of each source
content_over-install : (desc : DescOf) (rows : Key → ℕ → List (List Cell))
    (other : Key → List (List Cell)) (journal : List Entry) (counted : List DeliveryOf) (key : Key)
    (number : ℕ) (found : Option TableOf) → is_raw found ≡ false
    → All (λ source.
    rows source (version desc (take (nth_place journal key number) journal) source)
    ≡ other source) (keys_below desc key.part found)
    → content_over desc rows journal key (suc number) found
    ≡ value_over desc counted other key found
content_over-install desc rows other journal counted key number None view read = refl
content_over-install desc rows other journal counted key number (Some table) view read =
    let before = take (nth_place journal key number) journal in
    rw view
    (made_of-joined desc (λ source. rows source (version desc before source)) other table
    key.part read)

-- the version that an install made holds the value over the deliveries that it counted
pub install_values : HasInstallValues
install_values desc journal key number earlier legal there =
    let place = nth_place journal key number in
    let saw : SawSettled desc journal key place =
    install_places-saw desc journal key legal number 0 there in
    content_over-install desc (content_within key.table desc journal)
    (value_within key.table desc (accepted (take place journal))) journal
    (accepted (take place journal)) key number (slice_get desc.tables key.table) saw.view
    (content_within-saw desc journal key place earlier legal saw)
