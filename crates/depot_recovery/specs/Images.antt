-- Images that hold a depot, and disks of which a stop leaves just one depot.
use Rattle.std.specs.Prelude.{◌≡◌, ◌⊎◌, ℕ, suc, ⊤, true, Some, IsSome, IsSomeAnd, IfSome, List, length}
use Rattle.std.specs.Prelude.{slice_get}
use Rattle.std.specs.List.{AllZip}
use Rattle.depot_disk.specs.Image.{Image}
use Rattle.depot_disk.specs.State.{Within}
use Rattle.catalog_journal.specs.Catalog.{CATALOG_FILE, MARK_FILE}
use Rattle.catalog_journal.specs.Moments.{HasBodies, IsUnmarked}
use Rattle.desc_types.specs.declared.table.Key.{Key}
use Rattle.desc_types.specs.Accepted.{IsAccepted}
use Rattle.desc_types.specs.Deliveries.{DeliveryOf}
use Rattle.desc_types.specs.Descriptions.{DescOf}
use Rattle.row_codec.specs.Bodies.{IsBody}
use Rattle.row_codec.specs.Deliveries.{IsDelivery}
use Rattle.row_codec.specs.Laws.{AreRowsOf}
use Rattle.row_codec.specs.Spelling.{delivery_bytes, rows_bytes}
use Rattle.version_store.specs.Files.{HoldsFront}
use Rattle.view_meaning.specs.declared.journal.Entry.{Entry}
use Rattle.view_meaning.specs.declared.journal.Entry.TheVariants as entry
use Rattle.view_meaning.specs.Contents.{latest_content}
use Rattle.view_meaning.specs.Journal.{FitsEntry, delivery_of}
use Rattle.view_meaning.specs.LegalJournals.{IsLegal}
use Rattle.depot_recovery.specs.Depots.{DepotOf, bodies_of, body_of, is_latest, types_of}

-- the file of an entry is needed: that of a load, and that of the latest install of a partition
abbrev pub NeedsFile : List Entry → (number : ℕ) → Entry → Type 0
NeedsFile journal number (entry.Load delivery) = ⊤
NeedsFile journal number (entry.Install key at) = is_latest journal number key ≡ true

-- an entry fits the description, and its numbers have room in its body and in its file
pub record IsWritable (desc : DescOf) (next : Entry) (len : ℕ) : Type 0 where
  pub fits : FitsEntry desc next
  pub delivery : IfSome (delivery_of next) (IsDelivery desc)
  pub body : IsBody (body_of next len)

-- the file of an entry begins with its content, whose length is stated
pub record IsStored (lengths : List ℕ) (image : Image) (place : ℕ) (bytes : List ℕ) : Type 0 where
  pub stated : slice_get lengths place ≡ Some (length bytes)
  pub file : HoldsFront (suc place) bytes image

-- each load of a depot has its delivery in its file
abbrev pub HasLoads : DepotOf → Image → Type 0
HasLoads depot image = (place : ℕ) (delivery : DeliveryOf)
    → slice_get depot.entries place ≡ Some (entry.Load delivery)
    → IsStored depot.lengths image place (delivery_bytes delivery)

-- the file of an entry has the rows of the latest version of a partition
pub record HasLatestRows (depot : DepotOf) (image : Image) (place : ℕ) (key : Key) : Type 0 where
  pub typed : AreRowsOf (types_of depot.desc key.table)
      (latest_content depot.desc depot.entries key)
  pub stored : IsStored depot.lengths image place
      (rows_bytes (latest_content depot.desc depot.entries key))

-- the latest install of each partition has its rows in its file
abbrev pub HasLatest : DepotOf → Image → Type 0
HasLatest depot image = (place : ℕ) (key : Key) (at : ℕ)
    → slice_get depot.entries place ≡ Some (entry.Install key at)
    → is_latest depot.entries (suc place) key ≡ true
    → HasLatestRows depot image place key

-- a depot may lie on a disk: its description is accepted, its journal is legal, and each entry can be
-- written
pub record IsDepot (depot : DepotOf) : Type 0 where
  pub accepted : IsAccepted depot.desc
  pub written : AllZip (IsWritable depot.desc) depot.entries depot.lengths
  pub legal : IsLegal depot.desc depot.entries

-- the image holds this depot: it has the mark file and this catalogue, and each file that is needed
-- has what it has to. Those of older installs are not needed
pub record IsSoundAs (depot : DepotOf) (image : Image) : Type 0 where
  pub made : IsDepot depot
  pub mark : IsSome (image MARK_FILE)
  pub catalog : HasBodies (bodies_of depot) image
  pub loads : HasLoads depot image
  pub latest : HasLatest depot image

-- a stop leaves just this depot
abbrev pub AllSound : DepotOf → (Image → Type 0) → Type 0
AllSound depot images = Within images (IsSoundAs depot)

-- a stop leaves no depot, or always the same one
abbrev pub IsQuiet : (Image → Type 0) → Type 0
IsQuiet images = Within images IsUnmarked ⊎ (depot : DepotOf) × AllSound depot images

-- the file of this number is needed: it is one of the catalogue's two, that of a load, or that of a
-- partition's latest install
abbrev pub IsNeeded : List Entry → (file : ℕ) → Type 0
IsNeeded journal file = (file ≡ CATALOG_FILE) ⊎ (file ≡ MARK_FILE)
    ⊎ (place : ℕ) × (file ≡ suc place) × IsSomeAnd (slice_get journal place) (NeedsFile journal file)
