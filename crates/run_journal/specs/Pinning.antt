-- What a reader pins, and what it may read.
use Rattle.std.specs.Prelude.{ℕ, ◌≡◌, List, All, map}
use Rattle.query_pin.specs.declared.input.Input.{Input}
use Rattle.query_pin.specs.Pins.{IsLeastFree, PinnedOf}
use Rattle.machine_meaning.specs.Events.{IsPinOf, pinned}
use Rattle.machine_meaning.specs.States.{IsAtHand, IsGood}
use Rattle.claim_core.specs.Cores.{version_shown}
use Rattle.run_journal.specs.KeptJournals.{JournalOf, KeepsContents, entries_of}

-- the number of the one that reads
abbrev pub READER : ℕ
READER = 1

-- a version may be read: the contents of held versions are kept, and it is at hand
pub record MayBeRead (journal : JournalOf) (read : Input) : Type 0 where
  pub good : IsGood journal.core.desc journal.core.state
  pub contents : KeepsContents journal.core.desc journal.core.state journal.contents
  pub hand : IsAtHand journal.core.desc (entries_of journal) journal.core.state.held read

-- the reader pinned versions under an id, and all else is as before
pub record IsBesidePin (before : JournalOf) (id : ℕ) (now : JournalOf) : Type 0 where
  pub versions : List Input
  pub free : IsLeastFree before.core.state.pins id
  pub desc : now.core.desc ≡ before.core.desc
  pub state : now.core.state ≡ pinned before.core.state READER id versions
  pub contents : now.contents ≡ before.contents

-- the reader has a pin of what it was answered, and may read each version of it
pub record IsPinnedIn (before now : JournalOf) (answer : PinnedOf) : Type 0 where
  pub own : IsPinOf now.core.state READER answer.id
  pub beside : IsBesidePin before answer.id now
  pub readable : All (MayBeRead now) (map version_shown answer.items)
