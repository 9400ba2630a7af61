-- What a shelf keeps: the rows of some entries, by the numbers of the entries.
use Rattle.std.specs.Prelude.{◌≡◌, ℕ, ⊤, ◌==◌, List, None, Some, IfSome, IsSome, Result, Ok, Err}
use Rattle.std.specs.Prelude.{if◌then◌else◌, nat_eq}
use Rattle.std.specs.Arc.{arc_value}
use Rattle.std.specs.declared.sync.Arc.{Arc}
use Rattle.std.specs.declared.alloc.Global.{Global}
use Rattle.std.specs.Map.{lookup}
use Rattle.std.specs.declared.option.Option.{Option}
use Rattle.depot_cell.specs.declared.cell.Cell.{Cell}
use Rattle.depot_disk.specs.Image.{Image}
use Rattle.version_store.specs.declared.fault.FileFault.{FileFault}
use Rattle.version_store.specs.declared.fault.FileFault.TheVariants.{Damaged, DiskFault, Memory}

-- the rows that are kept of each entry
abbrev pub Kept : Type 0
Kept = ℕ → Option (List (List Cell))

-- no rows are kept
abbrev pub KeepsNothing : Kept → Type 0
KeepsNothing kept = (entry : ℕ) → kept entry ≡ None

-- the rows of each entry are kept as before
abbrev pub KeepsSame : Kept → Kept → Type 0
KeepsSame old new = (entry : ℕ) → new entry ≡ old entry

-- an entry's rows are these now, and those of each other entry are kept as before
abbrev pub KeepsAlso : Kept → Kept → (entry : ℕ) → List (List Cell) → Type 0
KeepsAlso old new entry rows = (other : ℕ)
    → new other ≡ (if other == entry then Some rows else old other)

-- an entry's rows are kept no more, and those of each other entry are kept as before
abbrev pub KeepsBut : Kept → Kept → (entry : ℕ) → Type 0
KeepsBut old new entry = (other : ℕ) → new other ≡ (if other == entry then None else old other)

-- the file of each entry that is kept is as in the other image
abbrev pub SameAtKept : Kept → Image → Image → Type 0
SameAtKept kept old new = (entry : ℕ) → IsSome (kept entry) → new entry ≡ old entry

-- if a shelf stood over what a disk held, it stands over what the disk holds now
abbrev pub StillStands : (Image → Type 0) → (Image → Type 0) → Option Image → Option Image → Type 0
StillStands before after old new = IfSome old before → IfSome new after

-- an answer is the rows that are kept, and no file is damaged
abbrev pub GivesKept : Option (List (List Cell))
    → Result (Arc (List (List Cell)) Global) FileFault → Type 0
GivesKept kept (Ok rows) = kept ≡ Some (arc_value rows)
GivesKept kept (Err (Damaged _ _)) = ⊥
GivesKept kept (Err DiskFault) = ⊤
GivesKept kept (Err Memory) = ⊤

-- a shelf in memory: the rows by entry, and for how many more there is room
pub record ShelfOf : Type 0 where
  pub entries : List (ℕ × List (List Cell))
  pub room : ℕ

-- the rows that it keeps of an entry
abbrev pub kept_in : ShelfOf → Kept
kept_in shelf entry = lookup (nat_eq entry) shelf.entries
