-- What is read of the file of an entry.
use Rattle.std.specs.Prelude.{◌≡◌, ℕ, ⊤, List, length, nat_le, take, None, Some, Result, Ok, Err}
use Rattle.std.specs.Prelude.{if◌then◌else◌}
use Rattle.std.specs.declared.option.Option.{Option}
use Rattle.depot_io.specs.Causes.{Rose}
use Rattle.depot_cell.specs.declared.cell.Cell.{Cell}
use Rattle.depot_cell.specs.declared.cell.Ty.{Ty}
use Rattle.depot_disk.specs.Image.{Image}
use Rattle.depot_disk.specs.State.{DiskState, Elapses, Unchanged}
use Rattle.row_codec.specs.Reading.{read_rows}
use Rattle.version_store.specs.declared.fault.FileFault.{FileFault}
use Rattle.version_store.specs.declared.fault.FileFault.TheVariants.{Damaged, DiskFault, Memory}

-- the first so many bytes of a file, or its size as the place of the fault if it has fewer. An
-- absent file has not even none
abbrev pub front_in : Option (List ℕ) → (len : ℕ) → Result (List ℕ) ℕ
front_in None len = Err 0
front_in (Some bytes) len =
    if nat_le len (length bytes) then Ok (take len bytes) else Err (length bytes)

abbrev pub front_of : Image → (file len : ℕ) → Result (List ℕ) ℕ
front_of image file len = front_in (image file) len

-- what the bytes that were read are read as
abbrev pub read_as : {A : Type 0} → (List ℕ → Result A ℕ) → Result (List ℕ) ℕ → Result A ℕ
read_as read (Ok bytes) = read bytes
read_as read (Err place) = Err place

-- the rows of these types in the first so many bytes of a file
abbrev pub rows_in : Image → List Ty → (file len : ℕ) → Result (List (List Cell)) ℕ
rows_in image types file len = read_as (read_rows types) (front_of image file len)

-- an answer is what was read, a fault is in this file and at the place of the reading, and memory
-- and the disk may always fail
abbrev pub Finds : {A B : Type 0} → (A → B) → (file : ℕ) → Result B ℕ → Result A FileFault → Type 0
Finds view file reading (Ok value) = reading ≡ Ok (view value)
Finds view file reading (Err (Damaged its_file place)) = (its_file ≡ file) × (reading ≡ Err place)
Finds view file reading (Err DiskFault) = ⊤
Finds view file reading (Err Memory) = ⊤

-- faults of the disk are counted, and all other refusals leave the count as it was
abbrev pub HasFileCause : {T : Type 0} → ℕ → ℕ → Result T FileFault → Type 0
HasFileCause before now (Ok _) = now ≡ before
HasFileCause before now (Err DiskFault) = Rose before now
HasFileCause before now (Err (Damaged _ _)) = now ≡ before
HasFileCause before now (Err Memory) = now ≡ before

-- a call that only reads
pub record IsFileReading {T : Type 0} (old new : DiskState) (result : Result T FileFault)
    : Type 0 where
  pub same : Unchanged old new
  pub time : Elapses old new
  pub cause : HasFileCause old.faults new.faults result
