-- Which entry computed a partition last.
use Rattle.std.specs.Prelude.{◌≡◌, ℕ, suc, List, Some, drop, nat_lt, slice_get}
use Rattle.std.specs.List.{list_any}
use Rattle.desc_types.specs.declared.table.Key.{Key}
use Rattle.view_meaning.specs.declared.journal.Entry.{Entry}
use Rattle.view_meaning.specs.declared.journal.Entry.TheVariants as entry
use Rattle.view_meaning.specs.Versions.{installs}

-- the number of the last entry that computed a partition, or 0: exactly after fewer entries one
-- that did is still to come
abbrev pub IsLastInstall : List Entry → Key → (number : ℕ) → Type 0
IsLastInstall journal key number = (count : ℕ)
    → list_any (installs key) (drop count journal) ≡ nat_lt count number

-- the entry with this number is an install of a partition
abbrev pub IsInstallAt : List Entry → Key → (number : ℕ) → Type 0
IsInstallAt journal key number = (place : ℕ) × (at : ℕ) × (number ≡ suc place)
    × (slice_get journal place ≡ Some (entry.Install key at))
