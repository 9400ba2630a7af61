-- How an image that holds a depot goes on holding one: when a file changes that nobody needs, and
-- when the depot gains an entry.
use Rattle.std.specs.Prelude.{◌≡◌, ◌≢◌, ◌<◌, ◌≤◌, ◌⊎◌, ℕ, suc, IsSome, List, [], ◌∷◌, ◌++◌, length}
use Rattle.std.specs.Prelude.{Some, false, slice_get, take}
use Rattle.depot_cell.specs.declared.cell.Cell.{Cell}
use Rattle.desc_types.specs.declared.table.Key.{Key}
use Rattle.desc_types.specs.Accepted.{IsAccepted}
use Rattle.desc_types.specs.Descriptions.{DescOf}
use Rattle.desc_types.specs.Sources.{HasEarlierSources}
use Rattle.depot_disk.specs.Image.{Image, SameElsewhere}
use Rattle.depot_disk.specs.State.{Within}
use Rattle.catalog_journal.specs.Catalog.{CATALOG_FILE, MARK_FILE}
use Rattle.catalog_journal.specs.Moments.{HasBodies, IsUnmarked}
use Rattle.row_codec.specs.Bodies.{body_bytes}
use Rattle.row_codec.specs.Laws.{AreRowsOf}
use Rattle.row_codec.specs.Spelling.{delivery_bytes, rows_bytes}
use Rattle.version_store.specs.Files.{HoldsFront}
use Rattle.view_meaning.specs.declared.journal.Entry.{Entry}
use Rattle.view_meaning.specs.declared.journal.Entry.TheVariants as entry
use Rattle.view_meaning.specs.Contents.{content, latest_content}
use Rattle.view_meaning.specs.Journal.{accepted}
use Rattle.view_meaning.specs.LegalJournals.{IsLegal, MayFollow, MayInstall}
use Rattle.view_meaning.specs.Values.{value_over}
use Rattle.view_meaning.specs.Versions.{version}
use Rattle.query_pin.specs.declared.input.Input.{Input}
use Rattle.machine_meaning.specs.States.{MayBeHeld}
use Rattle.depot_recovery.specs.Depots.{DepotOf, bodies_of, body_of, empty_depot, first_body}
use Rattle.depot_recovery.specs.Depots.{is_latest, types_of, with_more}
use Rattle.depot_recovery.specs.Images.{AllSound, IsDepot, IsNeeded, IsSoundAs, IsWritable}
use Rattle.depot_recovery.specs.Sweeping.{SameIfNeeded}

-- an image holds its depot still if each file that is needed is as it was: any other one may have
-- any bytes, or none
pub record OnlyNeededFilesCount : Type 0 where
  pub needed : (depot : DepotOf) (old new : Image) → SameIfNeeded depot.entries old new
      → IsSoundAs depot old → IsSoundAs depot new
  pub other : (depot : DepotOf) (file : ℕ) (old new : Image)
      → (IsNeeded depot.entries file → ⊥) → SameElsewhere file old new
      → IsSoundAs depot old → IsSoundAs depot new

-- files that are not needed: those of entries to come, and of installs that a later one has
-- replaced. The mark file is always needed, so no number of these may be its own
pub record SomeFilesDoNotCount : Type 0 where
  pub to_come : (journal : List Entry) (file : ℕ) → length journal < file → file ≢ MARK_FILE
      → IsNeeded journal file → ⊥
  pub older : (journal : List Entry) (place : ℕ) (key : Key) (at : ℕ)
      → slice_get journal place ≡ Some (entry.Install key at)
      → is_latest journal (suc place) key ≡ false → suc place ≢ MARK_FILE
      → IsNeeded journal (suc place) → ⊥
  pub dead : (desc : DescOf) (journal : List Entry) (dead : Input) (number : ℕ)
      → MayBeHeld desc journal dead number → dead.version < version desc journal dead.key
      → number ≢ MARK_FILE → IsNeeded journal number → ⊥

-- of the catalogue only its bodies count
abbrev pub OnlyBodiesCount : Type 0
OnlyBodiesCount = (depot : DepotOf) (old new : Image)
    → HasBodies (bodies_of depot) new → SameElsewhere CATALOG_FILE old new
    → IsSoundAs depot old → IsSoundAs depot new

-- the file of the entry to come
abbrev pub next_file : DepotOf → ℕ
next_file depot = suc (length depot.entries)

-- the bytes are those of the rows that an install adds: its partition has just them after it
pub record AreInstalledRows (depot : DepotOf) (key : Key) (at : ℕ) (bytes : List ℕ) : Type 0 where
  pub rows : List (List Cell)
  pub spelled : bytes ≡ rows_bytes rows
  pub typed : AreRowsOf (types_of depot.desc key.table) rows
  pub latest : rows
      ≡ latest_content depot.desc (depot.entries ++ entry.Install key at ∷ []) key

-- the bytes are the content of an entry to come
abbrev pub IsContentOf : DepotOf → Entry → (bytes : List ℕ) → Type 0
IsContentOf depot (entry.Load delivery) bytes = bytes ≡ delivery_bytes delivery
IsContentOf depot (entry.Install key at) bytes = AreInstalledRows depot key at bytes

-- an entry may come next, with a content of these bytes
pub record MayAdd (depot : DepotOf) (next : Entry) (bytes : List ℕ) : Type 0 where
  pub writable : IsWritable depot.desc next (length bytes)
  pub follows : MayFollow depot.desc depot.entries next
  pub content : IsContentOf depot next bytes

-- the depot with that entry, and the body of it in the catalogue
abbrev pub depot_with : DepotOf → Entry → (bytes : List ℕ) → DepotOf
depot_with depot next bytes = with_more depot next (length bytes)

abbrev pub body_with : Entry → (bytes : List ℕ) → List ℕ
body_with next bytes = body_bytes (body_of next (length bytes))

-- an image gains that entry: its catalogue has the entry's body as well, the file of the entry
-- begins with its content, and each other file is as it was
pub record GainsEntry (depot : DepotOf) (next : Entry) (bytes : List ℕ) (old new : Image)
    : Type 0 where
  pub catalog : HasBodies (bodies_of (depot_with depot next bytes)) new
  pub file : HoldsFront (next_file depot) bytes new
  pub others : (other : ℕ) → other ≢ CATALOG_FILE → other ≢ next_file depot
      → new other ≡ old other

-- then it holds the depot with that entry
abbrev pub DepotsGrow : Type 0
DepotsGrow = (depot : DepotOf) (next : Entry) (bytes : List ℕ) (old new : Image)
    → MayAdd depot next bytes → GainsEntry depot next bytes old new
    → IsSoundAs depot old → IsSoundAs (depot_with depot next bytes) new

-- the catalogue of that depot has one body more
abbrev pub BodiesGrow : Type 0
BodiesGrow = (depot : DepotOf) (next : Entry) (bytes : List ℕ) → IsDepot depot
    → bodies_of (depot_with depot next bytes) ≡ bodies_of depot ++ body_with next bytes ∷ []

-- an image holds the depot without that entry, or with it
abbrev pub MayHold : DepotOf → Entry → (bytes : List ℕ) → Image → Type 0
MayHold depot next bytes image =
    IsSoundAs depot image ⊎ IsSoundAs (depot_with depot next bytes) image

-- images hold a depot, and have the content of an entry to come in its file
pub record AreReadyFor (depot : DepotOf) (next : Entry) (bytes : List ℕ) (images : Image → Type 0)
    : Type 0 where
  pub may : MayAdd depot next bytes
  pub sound : AllSound depot images
  pub stored : Within images (HoldsFront (next_file depot) bytes)

-- an image with the mark file and a catalogue of the description alone holds a depot without
-- entries
abbrev pub EmptyDepotsAreSound : Type 0
EmptyDepotsAreSound = (desc : DescOf) (image : Image) → IsAccepted desc
    → IsSome (image MARK_FILE) → HasBodies (first_body desc ∷ []) image
    → IsSoundAs (empty_depot desc) image

-- an image holds no depot, since it has no mark file, or that one
abbrev pub MayBeMade : DescOf → Image → Type 0
MayBeMade desc image = IsUnmarked image ⊎ IsSoundAs (empty_depot desc) image

-- it does if it lacks the mark file or has that catalogue
abbrev pub DepotsComeWhole : Type 0
DepotsComeWhole = (desc : DescOf) (image : Image) → IsAccepted desc
    → IsUnmarked image ⊎ HasBodies (first_body desc ∷ []) image → MayBeMade desc image

-- the rows of a partition that was claimed at a place: what its view makes of the versions that its
-- sources had after the entries up to there
abbrev pub rows_claimed : DescOf → List Entry → Key → (at : ℕ) → List (List Cell)
rows_claimed desc journal key at = value_over desc (accepted (take at journal))
    (latest_content desc (take at journal)) key (slice_get desc.tables key.table)

-- an install adds the rows of its claim. They are the same ones while the journal goes on, and so
-- are the contents that they are made of: it makes no difference when these are read
pub record ClaimsTellRows : Type 0 where
  pub added : (desc : DescOf) (journal : List Entry) (key : Key) (at : ℕ) → HasEarlierSources desc
      → IsLegal desc journal → MayInstall desc journal key at
      → latest_content desc (journal ++ entry.Install key at ∷ []) key
      ≡ rows_claimed desc journal key at
  pub kept : (desc : DescOf) (journal more : List Entry) (key : Key) (at : ℕ)
      → at ≤ length journal
      → rows_claimed desc (journal ++ more) key at ≡ rows_claimed desc journal key at
  pub stays : (desc : DescOf) (journal : List Entry) (key : Key) (at number : ℕ)
      → IsLegal desc journal → number ≤ version desc (take at journal) key
      → content desc journal key number ≡ content desc (take at journal) key number
  pub read : (desc : DescOf) (journal : List Entry) (key : Key) (at : ℕ) → IsLegal desc journal
      → value_over desc (accepted (take at journal))
      (λ source. content desc journal source (version desc (take at journal) source)) key
      (slice_get desc.tables key.table)
      ≡ rows_claimed desc journal key at
