-- How many versions of views' partitions a journal makes, and how many of them it replaces.
use Rattle.std.specs.Prelude.{ℕ, suc, ◌+◌, List, [], ◌∷◌, if◌then◌else◌}
use Rattle.std.specs.List.{list_any}
use Rattle.view_meaning.specs.declared.journal.Entry.{Entry}
use Rattle.view_meaning.specs.declared.journal.Entry.TheVariants as entry
use Rattle.view_meaning.specs.Versions.{installs}

-- how many versions come about: each install makes one
abbrev pub versions_made : List Entry → ℕ
versions_made [] = 0
versions_made (entry.Load _ ∷ later) = versions_made later
versions_made (entry.Install _ _ ∷ later) = suc (versions_made later)

-- how many of them are not the latest any more: a later install is of the same partition
abbrev pub versions_replaced : List Entry → ℕ
versions_replaced [] = 0
versions_replaced (entry.Load _ ∷ later) = versions_replaced later
versions_replaced (entry.Install key _ ∷ later) =
    (if list_any (installs key) later then 1 else 0) + versions_replaced later
