-- In an image that holds a depot just that depot is found.
use Rattle.std.proofs.Common.{◌≡◌, ◌+◌, ℕ, List, [], ◌∷◌, Ok, Some, ap₂, filter_map, length}
use Rattle.std.proofs.Common.{one-add, refl, slice_get}
use Rattle.std.specs.List.{AllZip}
use Rattle.depot_disk.specs.Image.{Image, bytes_in}
use Rattle.catalog_journal.specs.Catalog.{CATALOG_FILE}
use Rattle.catalog_journal.proofs.LawLemmas.{catalogs-have-one-reading}
use Rattle.desc_types.specs.Descriptions.{DescOf}
use Rattle.row_codec.proofs.BodyLemmas.{bodies_law}
use Rattle.row_codec.specs.Spelling.{delivery_bytes, rows_bytes}
use Rattle.version_store.specs.Laws.{FilesAreReadAgain}
use Rattle.view_meaning.specs.declared.journal.Entry.{Entry}
use Rattle.view_meaning.specs.declared.journal.Entry.TheVariants as entry
use Rattle.view_meaning.specs.Contents.{latest_content}
use Rattle.depot_recovery.specs.Depots.{DepotOf, bodies_of, body_of, entry_bodies, first_body}
use Rattle.depot_recovery.specs.Found.{depot_in, len_of, stated_len}
use Rattle.depot_recovery.specs.Images.{HasLatest, HasLoads, IsSoundAs, IsWritable}
use Rattle.depot_recovery.specs.Laws.{FindsWhatIsHeld}
use Rattle.depot_recovery.proofs.DescLemmas.{desc_in-first_body}
use Rattle.depot_recovery.proofs.EntryLemmas.{HoldsLoad}
use Rattle.depot_recovery.proofs.FileLemmas.{HoldsInstall, check_files-held}
use Rattle.depot_recovery.proofs.HeldLemmas.{AllNumbered-each, HoldsContent-stored}
use Rattle.depot_recovery.proofs.JournalLemmas.{entries_from-written}

-- the body of an entry states its length
pub len_of-body_of : (next : Entry) (len : ℕ) → len_of (body_of next len) ≡ len
len_of-body_of (entry.Load delivery) len = refl
len_of-body_of (entry.Install key at) len = refl

-- the bodies of entries state their lengths
filter_map-stated_len : (desc : DescOf) (entries : List Entry) (lengths : List ℕ)
    → AllZip (IsWritable desc) entries lengths
    → filter_map stated_len (entry_bodies entries lengths) ≡ lengths
filter_map-stated_len desc [] [] written = refl
filter_map-stated_len desc [] (len ∷ lengths) written = absurd written
filter_map-stated_len desc (next ∷ later) [] written = absurd written
filter_map-stated_len desc (next ∷ later) (len ∷ lengths) written =
    rw (bodies_law.again (body_of next len) written.0.body)
    (ap₂ (λ (first : ℕ) (rest : List ℕ). first ∷ rest) (len_of-body_of next len)
    (filter_map-stated_len desc later lengths written.1))

-- the file of a load at a place
HoldsLoad-at : (depot : DepotOf) (image : Image) → HasLoads depot image
    → (place : ℕ) (next : Entry) (len : ℕ) → slice_get depot.entries place ≡ Some next
    → slice_get depot.lengths place ≡ Some len → HoldsLoad image (1 + place) next len
HoldsLoad-at depot image loads place (entry.Load delivery) len there stated =
    HoldsContent-stored depot.lengths image place (delivery_bytes delivery) len
    (loads place delivery there) stated
HoldsLoad-at depot image loads place (entry.Install key at) len there stated = tt

-- the file of an install at a place
HoldsInstall-at : (depot : DepotOf) (image : Image) → HasLatest depot image
    → (place : ℕ) (next : Entry) (len : ℕ) → slice_get depot.entries place ≡ Some next
    → slice_get depot.lengths place ≡ Some len
    → HoldsInstall depot.desc image depot.entries (1 + place) next len
HoldsInstall-at depot image latest place (entry.Load delivery) len there stated = tt
HoldsInstall-at depot image latest place (entry.Install key at) len there stated = λ newest.
    let held = latest place key at there (rw one-add at newest) in
    record {
      typed = held.typed;
      content = HoldsContent-stored depot.lengths image place
          (rows_bytes (latest_content depot.desc depot.entries key)) len held.stored stated;
    }

-- what the bodies of a sound image tell
depot_in-sound : FilesAreReadAgain → (depot : DepotOf) (image : Image) → IsSoundAs depot image
    → depot_in image (bodies_of depot) ≡ Ok depot
depot_in-sound files depot image sound =
    let made = sound.made in
    let loads = AllNumbered-each (HoldsLoad image) 1 depot.entries depot.lengths
    (HoldsLoad-at depot image sound.loads) in
    let installs = AllNumbered-each (HoldsInstall depot.desc image depot.entries) 1 depot.entries
    depot.lengths (HoldsInstall-at depot image sound.latest) in
    rw (
      desc_in-first_body depot.desc made.accepted,
      entries_from-written files depot.desc image made.accepted [] depot.entries depot.lengths
          (5 + length (first_body depot.desc)) made.written loads made.legal,
      filter_map-stated_len depot.desc depot.entries depot.lengths made.written,
      check_files-held files depot.desc image depot.entries 1 depot.entries depot.lengths installs,
    ) refl

-- what is found in one
pub found_in-sound : FilesAreReadAgain → FindsWhatIsHeld
found_in-sound files depot image sound =
    rw (
      sound.mark,
      catalogs-have-one-reading.again (bytes_in image CATALOG_FILE) (bodies_of depot)
          sound.catalog,
      depot_in-sound files depot image sound,
    ) refl
