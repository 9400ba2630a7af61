-- The rows of each version of a partition have the types of its table's columns.
use Rattle.std.specs.Prelude.{ℕ, List, All}
use Rattle.std.specs.List.{AllZip}
use Rattle.depot_cell.specs.Reading.{IsCellOf}
use Rattle.desc_types.specs.declared.table.Key.{Key}
use Rattle.desc_types.specs.Accepted.{IsAccepted}
use Rattle.desc_types.specs.Descriptions.{DescOf}
use Rattle.view_meaning.specs.declared.journal.Entry.{Entry}
use Rattle.view_meaning.specs.Contents.{content}
use Rattle.view_meaning.specs.Journal.{FitsJournal}
use Rattle.depot_recovery.specs.Depots.{types_of}

-- so it is over an accepted description, if the journal fits it
abbrev pub HasTypedContents : Type 0
HasTypedContents = (desc : DescOf) (journal : List Entry) (key : Key) (version : ℕ)
    → IsAccepted desc → FitsJournal desc journal
    → All (AllZip IsCellOf (types_of desc key.table)) (content desc journal key version)
