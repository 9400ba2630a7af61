-- What a run keeps: the core of the machine, and the rows of the versions that it holds, each under
-- the entry that made it.
use Rattle.std.specs.Prelude.{ℕ, ◌≡◌, List, [], Option, Some, None, Bool, IfSome, IsSome, flat_map}
use Rattle.std.specs.Prelude.{◌≤◌, ◌-◌, fold, length, take}
use Rattle.std.specs.BTreeMap.{is_at}
use Rattle.std.specs.Map.{lookup}
use Rattle.std.specs.Ordering.{is_eq, nat_cmp}
use Rattle.depot_cell.specs.declared.cell.Cell.{Cell}
use Rattle.desc_types.specs.Descriptions.{DescOf}
use Rattle.desc_types.specs.Sources.{HasEarlierSources}
use Rattle.view_meaning.specs.declared.journal.Entry.{Entry}
use Rattle.view_meaning.specs.Contents.{content}
use Rattle.view_meaning.specs.Drains.{unsettled, with_install}
use Rattle.query_pin.specs.declared.input.Input.{Input}
use Rattle.query_pin.specs.Kept.{KeptListOf, entry_in}
use Rattle.machine_meaning.specs.States.{IsGood, State}
use Rattle.machine_meaning.specs.VersionCounts.{versions_made}
use Rattle.claim_core.specs.Cores.{CoreOf, SameCore}

-- a core, and rows by the entry that made them
pub record JournalOf : Type 0 where
  pub core : CoreOf
  pub contents : List (ℕ × List (List Cell))

-- what was accepted and installed
abbrev pub entries_of : JournalOf → List Entry
entries_of journal = journal.core.state.journal

-- whether two numbers are of one entry
abbrev pub is_entry : ℕ → ℕ → Bool
is_entry entry other = is_eq (nat_cmp entry other)

-- the rows that are kept of what an entry made
abbrev pub content_in : List (ℕ × List (List Cell)) → (entry : ℕ) → Option (List (List Cell))
content_in contents entry = lookup (is_at (nat_cmp entry)) contents

-- the rows that are kept of what an entry made that may be there
abbrev pub content_at : List (ℕ × List (List Cell)) → Option ℕ → Option (List (List Cell))
content_at contents None = None
content_at contents (Some entry) = content_in contents entry

-- the rows that are kept of a version
abbrev pub content_of : JournalOf → Input → Option (List (List Cell))
content_of journal read = content_at journal.contents (entry_in journal.core.state.held read)

-- rows that may be there, and none if they are not
abbrev pub rows_kept : Option (List (List Cell)) → List (List Cell)
rows_kept None = []
rows_kept (Some rows) = rows

-- the content of a version after a journal, and that of versions one after the other
abbrev pub content_read : DescOf → List Entry → Input → List (List Cell)
content_read desc journal read = content desc journal read.key read.version

abbrev pub contents_of : DescOf → List Entry → List Input → List (List Cell)
contents_of desc journal reads = flat_map (content_read desc journal) reads

-- an entry made a version that is held
pub record HasVersionOf (held : KeptListOf) (entry : ℕ) : Type 0 where
  pub read : Input
  pub made : entry_in held read ≡ Some entry

-- of each held version the content is kept, under the entry that made it, and nothing else is
pub record KeepsContents (desc : DescOf) (state : State)
    (contents : List (ℕ × List (List Cell))) : Type 0 where
  pub held : (read : Input) → IfSome (entry_in state.held read)
      (λ entry. content_in contents entry ≡ Some (content_read desc state.journal read))
  pub others : (entry : ℕ) → IsSome (content_in contents entry) → HasVersionOf state.held entry

-- how many of the versions that came about are not kept any more
abbrev pub reclaimed_of : JournalOf → ℕ
reclaimed_of journal = versions_made (entries_of journal) - length journal.contents

-- between two calls: the core serves the description, its state is good, nothing is claimed or
-- pinned, and the contents of the held versions are kept, of at most so many as came about
pub record IsKept (desc : DescOf) (journal : JournalOf) : Type 0 where
  pub served : journal.core.desc ≡ desc
  pub earlier : HasEarlierSources desc
  pub good : IsGood desc journal.core.state
  pub claims : journal.core.state.claims ≡ []
  pub pins : journal.core.state.pins ≡ []
  pub contents : KeepsContents desc journal.core.state journal.contents
  pub made : length journal.contents ≤ versions_made (entries_of journal)

-- a journal tells what it told before: at most room was made
pub record TellsAsBefore (old new : JournalOf) : Type 0 where
  pub core : SameCore old.core new.core
  pub contents : new.contents ≡ old.contents

-- a drain that found no memory made the first so many of its installs, in order of key
pub record DrainsSome (desc : DescOf) (before now : List Entry) : Type 0 where
  pub many : ℕ
  pub installed : now ≡ fold with_install before (take many (unsettled desc before))
