-- What the answers of calls say of what the disk holds, and of its faults.
use Rattle.std.specs.Prelude.{◌≡◌, ◌≤◌, ℕ, ⊤, All, List, length, Result, Ok, Err, IsSome}
use Rattle.depot_io.specs.Causes.{Rose}
use Rattle.depot_disk.specs.State.{DiskState, Elapses, Unchanged}
use Rattle.depot_disk.specs.Image.{Image, bytes_in}
use Rattle.catalog_journal.specs.declared.log.Log.{Log}
use Rattle.catalog_journal.specs.declared.fault.LogFault.{LogFault}
use Rattle.catalog_journal.specs.declared.fault.LogFault.TheVariants.{Exists, NotFound, Damaged, DiskFault, Memory}
use Rattle.catalog_journal.specs.Catalog.{CATALOG_FILE, MARK_FILE, MOST_RECORDS, IsCatalog, open_records}
use Rattle.catalog_journal.specs.declared.open.Records.{Records}
use Rattle.catalog_journal.specs.Logs.{IsLogOf, LiesWithin, bodies_at}
use Rattle.catalog_journal.specs.Laws.{AreBytes}
use Rattle.catalog_journal.specs.Reading.{read_catalog, read_records}
use Rattle.catalog_journal.specs.Moments.{HasBodies, IsUnmarked}

-- an opening tells what the catalogue of this image is read as, if its mark file is there
abbrev pub Opens : Image → Result (Log × List (List ℕ)) LogFault → Type 0
Opens image (Ok opened) = IsSome (image MARK_FILE)
    × (read_catalog (bytes_in image CATALOG_FILE) ≡ Ok opened.1)
    × HasBodies opened.1 image
Opens image (Err NotFound) = IsUnmarked image
Opens image (Err (Damaged file place)) = IsSome (image MARK_FILE) × (file ≡ CATALOG_FILE)
    × (read_catalog (bytes_in image CATALOG_FILE) ≡ Err place)
Opens image (Err Exists) = ⊥
Opens image (Err DiskFault) = ⊤
Opens image (Err Memory) = IsSome (image MARK_FILE)

-- a making goes on only if no mark file is there
abbrev pub Makes : Image → Result Log LogFault → Type 0
Makes image (Ok log) = IsUnmarked image
Makes image (Err Exists) = IsSome (image MARK_FILE)
Makes image (Err DiskFault) = ⊤
Makes image (Err Memory) = IsUnmarked image
Makes image (Err NotFound) = ⊥
Makes image (Err (Damaged file place)) = ⊥

-- faults of the disk are counted, and all other refusals leave the count as it was
abbrev pub HasFaultCause : {T : Type 0} → ℕ → ℕ → Result T LogFault → Type 0
HasFaultCause before now (Ok _) = now ≡ before
HasFaultCause before now (Err DiskFault) = Rose before now
HasFaultCause before now (Err Exists) = now ≡ before
HasFaultCause before now (Err NotFound) = now ≡ before
HasFaultCause before now (Err (Damaged file place)) = now ≡ before
HasFaultCause before now (Err Memory) = now ≡ before

-- unless a call of the disk fails, a refusal leaves the disk as it was
abbrev pub LeavesUnlessFailed : {T : Type 0} → DiskState → DiskState → Result T LogFault → Type 0
LeavesUnlessFailed old new (Ok _) = ⊤
LeavesUnlessFailed old new (Err DiskFault) = ⊤
LeavesUnlessFailed old new (Err Exists) = Unchanged old new
LeavesUnlessFailed old new (Err NotFound) = Unchanged old new
LeavesUnlessFailed old new (Err (Damaged file place)) = Unchanged old new
LeavesUnlessFailed old new (Err Memory) = Unchanged old new

-- a call that only reads
pub record IsLogReading {T : Type 0} (old new : DiskState) (result : Result T LogFault) : Type 0 where
  pub same : Unchanged old new
  pub time : Elapses old new
  pub cause : HasFaultCause old.faults new.faults result

-- a fault that says nothing of what stands in a file
abbrev pub IsOutside : LogFault → Type 0
IsOutside DiskFault = ⊤
IsOutside Memory = ⊤
IsOutside Exists = ⊥
IsOutside NotFound = ⊥
IsOutside (Damaged file place) = ⊥

-- the bytes of a catalogue's file are read as this
abbrev pub IsReadAs : List ℕ → Result (Log × List (List ℕ)) LogFault → Type 0
IsReadAs bytes (Ok opened) = (read_catalog bytes ≡ Ok opened.1) × IsCatalog bytes opened.1
    × IsLogOf opened.0 opened.1
IsReadAs bytes (Err (Damaged file place)) = (file ≡ CATALOG_FILE) × (read_catalog bytes ≡ Err place)
IsReadAs bytes (Err Memory) = ⊤
IsReadAs bytes (Err DiskFault) = ⊥
IsReadAs bytes (Err Exists) = ⊥
IsReadAs bytes (Err NotFound) = ⊥

-- these are places of bodies among the bytes, and this is where the gate after them stands
pub record HasPlaces (bytes : List ℕ) (records : Records) : Type 0 where
  pub place : records.end ≡ length (open_records (bodies_at bytes records.spans.items))
  pub within : records.end ≤ length bytes
  pub each : All (LiesWithin (length bytes)) records.spans.items

-- the places of the bodies that are read, or the place of the first fault
abbrev pub HasFound : List ℕ → Result Records LogFault → Type 0
HasFound bytes (Ok records) = HasPlaces bytes records × AreBytes bytes
    × (read_records MOST_RECORDS 0 bytes ≡ Ok (bodies_at bytes records.spans.items))
HasFound bytes (Err (Damaged file place)) = (file ≡ CATALOG_FILE)
    × (read_records MOST_RECORDS 0 bytes ≡ Err place)
HasFound bytes (Err Memory) = ⊤
HasFound bytes (Err DiskFault) = ⊥
HasFound bytes (Err Exists) = ⊥
HasFound bytes (Err NotFound) = ⊥
