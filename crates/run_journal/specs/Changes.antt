-- What the steps of an install change: a partition is claimed, and then there is room to install it.
use Rattle.std.specs.Prelude.{ℕ, suc, ◌≡◌, ◌+◌, [], ◌∷◌, Some, None, false, length, slice_get}
use Rattle.std.specs.Prelude.{if◌then◌else◌}
use Rattle.view_meaning.specs.Contents.{latest_content}
use Rattle.view_meaning.specs.Journal.{accepted}
use Rattle.view_meaning.specs.Values.{value_over}
use Rattle.view_meaning.specs.Versions.{is_raw}
use Rattle.query_pin.specs.Pins.{with_pin}
use Rattle.machine_meaning.specs.States.{IsGood, inputs, pin_of}
use Rattle.machine_meaning.specs.Events.{claim_of}
use Rattle.claim_core.specs.Cores.{HasInstallRoom, SameCore, TicketOf, left_inputs}
use Rattle.run_journal.specs.KeptJournals.{JournalOf, KeepsContents, content_in, entries_of}
use Rattle.run_journal.specs.KeptJournals.{is_entry}

-- the number of the only one that claims
abbrev pub WORKER : ℕ
WORKER = 0

-- just one partition is claimed, that of a ticket, and nothing else is pinned
pub record IsClaimedIn (journal : JournalOf) (ticket : TicketOf) : Type 0 where
  pub good : IsGood journal.core.desc journal.core.state
  pub contents : KeepsContents journal.core.desc journal.core.state journal.contents
  pub claims : journal.core.state.claims
      ≡ claim_of journal.core.state WORKER ticket.id ticket.key ∷ []
  pub pins : journal.core.state.pins ≡ with_pin ticket.id (pin_of journal.core.desc
      (entries_of journal) (claim_of journal.core.state WORKER ticket.id ticket.key)) []
  pub view : is_raw (slice_get journal.core.desc.tables ticket.key.table) ≡ false
  pub inputs : ticket.inputs ≡ inputs journal.core.desc (entries_of journal) ticket.key
  pub left : ticket.left ≡ length (left_inputs journal.core.desc (entries_of journal) ticket.key)

-- there is room to install the partition of a ticket, and its rows stand under the entry to come,
-- made of the latest versions of its sources
pub record IsFilled (old new : JournalOf) (ticket : TicketOf) : Type 0 where
  pub core : SameCore old.core new.core
  pub room : HasInstallRoom ticket.id new.core
  pub contents : (entry : ℕ) → content_in new.contents entry
      ≡ (if is_entry (length (entries_of old) + 1) entry
      then Some (value_over old.core.desc (accepted (entries_of old))
      (latest_content old.core.desc (entries_of old)) ticket.key
      (slice_get old.core.desc.tables ticket.key.table))
      else content_in old.contents entry)
  pub more : content_in old.contents (length (entries_of old) + 1) ≡ None
      → length new.contents ≡ suc (length old.contents)
