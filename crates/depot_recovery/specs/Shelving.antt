-- The shelving of latest versions, entry by entry: what an entry adds to the shelf, what it keeps of
-- those before a number, and what was found of all.
use Rattle.std.specs.Prelude.{◌≡◌, ◌≢◌, ◌<◌, ◌≤◌, ℕ, zero, suc, ⊤, List, Option, None, Some}
use Rattle.std.specs.Prelude.{IsSomeAnd, Result, Ok, Err, drop, if◌then◌else◌, slice_get}
use Rattle.catalog_journal.specs.declared.fault.LogFault.{LogFault}
use Rattle.claim_core.specs.Cores.{CoreOf}
use Rattle.depot_cell.specs.declared.cell.Cell.{Cell}
use Rattle.depot_disk.specs.Image.{Image}
use Rattle.desc_types.specs.Descriptions.{DescOf}
use Rattle.row_codec.specs.Laws.{AreRowsOf}
use Rattle.version_store.specs.Reading.{rows_in}
use Rattle.version_store.specs.Shelves.{Kept, ShelfOf, kept_in}
use Rattle.view_meaning.specs.declared.journal.Entry.{Entry}
use Rattle.view_meaning.specs.declared.journal.Entry.TheVariants as entry
use Rattle.depot_recovery.specs.declared.shelving.Latest.{Latest}
use Rattle.depot_recovery.specs.Depots.{DepotOf, is_latest, types_of}
use Rattle.depot_recovery.specs.Found.{◌>>=◌, check_files, in_file, with_files}
use Rattle.depot_recovery.specs.Recovered.{KeepsRead, Refuses}

-- what an entry's file has to have rows of, if it is the latest install of a partition
abbrev pub latest_of : List Entry → (number len : ℕ) → Entry → Option Latest
latest_of journal number len (entry.Load delivery) = None
latest_of journal number len (entry.Install key at) =
    if is_latest journal number key then Some (record { key = key; len = len }) else None

-- what the file of an entry has to have rows of, if there is one and it has a length
abbrev pub latest_or : List Entry → (number : ℕ) → Option Entry → Option ℕ → Option Latest
latest_or journal number (Some next) (Some len) = latest_of journal number len next
latest_or journal number _ _ = None

-- the latest install that the entry with a number is, if it is one
abbrev pub latest_in : DepotOf → (number : ℕ) → Option Latest
latest_in depot zero = None
latest_in depot (suc place) =
    latest_or depot.entries (suc place) (slice_get depot.entries place)
    (slice_get depot.lengths place)

-- rows of the right types are kept of a latest install, and nothing of another entry
abbrev pub IsKeptOf : DescOf → Option Latest → Option (List (List Cell)) → Type 0
IsKeptOf desc None rows = rows ≡ None
IsKeptOf desc (Some latest) rows = IsSomeAnd rows (AreRowsOf (types_of desc latest.key.table))

-- the rows in the file of a latest install
abbrev pub rows_found : Image → DescOf → (number : ℕ) → Option Latest
    → Result (Option (List (List Cell))) LogFault
rows_found image desc number None = Ok None
rows_found image desc number (Some latest) = do
  rows ← in_file number (rows_in image (types_of desc latest.key.table) number latest.len)
  Ok (Some rows)

-- what one entry more adds: what has to be kept of it is, and of the others the same as before
pub record ShelvesNext (desc : DescOf) (number : ℕ) (latest : Option Latest)
    (old new : Kept) : Type 0 where
  pub here : IsKeptOf desc latest (new number)
  pub others : (other : ℕ) → other ≢ number → new other ≡ old other

-- what has to be kept of the entries before a number is, and nothing of those from it on
pub record ShelvesBefore (depot : DepotOf) (next : ℕ) (kept : Kept) : Type 0 where
  pub before : (number : ℕ) → number < next
      → IsKeptOf depot.desc (latest_in depot number) (kept number)
  pub later : (number : ℕ) → next ≤ number → kept number ≡ None

-- the files of the entries from a place on are fine
abbrev pub files_from : Image → DepotOf → (place : ℕ) → Result ⊤ LogFault
files_from image depot place = check_files depot.desc image depot.entries (suc place)
    (drop place depot.entries) (drop place depot.lengths)

-- the files before that of a number were fine, and what is kept are the rows in them
pub record ReadsBefore (image : Image) (depot : DepotOf) (next : ℕ) (kept : Kept) : Type 0 where
  pub checked : (place : ℕ) → next ≡ suc place
      → files_from image depot 0 ≡ files_from image depot place
  pub read : (number : ℕ) → number < next
      → rows_found image depot.desc number (latest_in depot number) ≡ Ok (kept number)

-- the files of the latest versions can be read, and the shelf keeps the rows that are in them; or the
-- first fault in them was found
abbrev pub Shelves : Image → DepotOf → CoreOf → Result ShelfOf LogFault → Type 0
Shelves image depot core (Ok shelf) =
    (with_files image depot ≡ Ok depot) × KeepsRead depot image core (kept_in shelf)
Shelves image depot core (Err fault) = Refuses (with_files image depot) fault
