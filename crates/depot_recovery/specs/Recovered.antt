-- What recovery answers over an image, and what is kept of the depot that it found.
use Rattle.std.specs.Prelude.{◌≡◌, ℕ, suc, ⊤, List, Some, IsSome, IsSomeAnd, Result, Ok, Err, slice_get}
use Rattle.catalog_journal.specs.declared.fault.LogFault.{LogFault}
use Rattle.catalog_journal.specs.declared.fault.LogFault.TheVariants as fault
use Rattle.catalog_journal.specs.Logs.{IsLogOf}
use Rattle.claim_core.specs.Cores.{CoreOf, IsFound}
use Rattle.depot_cell.specs.declared.cell.Cell.{Cell}
use Rattle.depot_disk.specs.Image.{Image}
use Rattle.query_pin.specs.declared.input.Input.{Input}
use Rattle.query_pin.specs.Kept.{entry_in}
use Rattle.row_codec.specs.Laws.{AreRowsOf}
use Rattle.version_store.specs.Reading.{rows_in}
use Rattle.version_store.specs.Shelves.{Kept, kept_in}
use Rattle.view_meaning.specs.Contents.{content}
use Rattle.depot_recovery.specs.declared.found.Found.{Found}
use Rattle.depot_recovery.specs.Depots.{DepotOf, bodies_of, types_of}
use Rattle.depot_recovery.specs.Found.{found_in}
use Rattle.depot_recovery.specs.Images.{IsDepot}

-- a refusal is the fault that was found, except that the disk and memory may fail at any time
abbrev pub Refuses : {B : Type 0} → Result B LogFault → LogFault → Type 0
Refuses finding fault.NotFound = finding ≡ Err fault.NotFound
Refuses finding (fault.Damaged file place) = finding ≡ Err (fault.Damaged file place)
Refuses finding fault.Exists = ⊥
Refuses finding fault.DiskFault = ⊤
Refuses finding fault.Memory = ⊤

-- an answer is what was found, value or fault
abbrev pub Answers : {A B : Type 0} → (A → B) → Result B LogFault → Result A LogFault → Type 0
Answers view finding (Ok value) = finding ≡ Ok (view value)
Answers view finding (Err fault) = Refuses finding fault

-- rows of the right types are kept of each version that is held, and of no other entry
pub record KeepsHeld (core : CoreOf) (kept : Kept) : Type 0 where
  pub each : (read : Input) (number : ℕ) → entry_in core.state.held read ≡ Some number
      → IsSomeAnd (kept number) (AreRowsOf (types_of core.desc read.key.table))
  pub others : (number : ℕ) → IsSome (kept number)
      → (read : Input) × (entry_in core.state.held read ≡ Some number)

-- these are the rows of the versions that are held
abbrev pub KeepsContents : CoreOf → Kept → Type 0
KeepsContents core kept = (read : Input) (number : ℕ)
    → entry_in core.state.held read ≡ Some number
    → kept number ≡ Some (content core.desc core.state.journal read.key read.version)

-- these are the rows in the files of an image
abbrev pub KeepsRead : DepotOf → Image → CoreOf → Kept → Type 0
KeepsRead depot image core kept = (read : Input) (place len : ℕ) (rows : List (List Cell))
    → entry_in core.state.held read ≡ Some (suc place) → slice_get depot.lengths place ≡ Some len
    → kept (suc place) ≡ Some rows
    → rows_in image (types_of core.desc read.key.table) (suc place) len ≡ Ok rows

-- a depot was found: the core has its journal, the log its catalogue, and the shelf rows of the
-- latest versions
pub record IsFoundAs (depot : DepotOf) (found : Found) : Type 0 where
  pub made : IsDepot depot
  pub desc : found.core.desc ≡ depot.desc
  pub core : IsFound depot.desc depot.entries found.core
  pub log : IsLogOf found.log (bodies_of depot)
  pub kept : KeepsHeld found.core (kept_in found.shelf)

-- some depot was found, and just this one is found in the image, with the rows in its files
pub record IsFoundIn (image : Image) (found : Found) : Type 0 where
  pub depot : DepotOf
  pub is : IsFoundAs depot found
  pub there : found_in image ≡ Ok depot
  pub read : KeepsRead depot image found.core (kept_in found.shelf)

-- this depot was found, and the rows of its latest versions are kept
pub record HoldsSound (depot : DepotOf) (found : Found) : Type 0 where
  pub is : IsFoundAs depot found
  pub rows : KeepsContents found.core (kept_in found.shelf)

-- recovery answers what is found in an image
abbrev pub Recovers : Image → Result Found LogFault → Type 0
Recovers image (Ok found) = IsFoundIn image found
Recovers image (Err fault) = Refuses (found_in image) fault
