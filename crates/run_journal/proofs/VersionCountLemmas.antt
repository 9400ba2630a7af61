-- How many versions a journal makes with one entry more, and how many of them are not kept any more.
use Rattle.std.proofs.Common.{◌≡◌, ◌++◌, ◌∷◌, ℕ, suc, List, [], ap, arith, length, refl}
use Rattle.desc_types.specs.declared.table.Key.{Key}
use Rattle.desc_types.specs.Deliveries.{DeliveryOf}
use Rattle.view_meaning.specs.declared.journal.Entry.{Entry}
use Rattle.view_meaning.specs.declared.journal.Entry.TheVariants as entry
use Rattle.view_meaning.specs.Drains.{with_install}
use Rattle.machine_meaning.specs.Events.{with_entry}
use Rattle.machine_meaning.specs.VersionCounts.{versions_made}
use Rattle.run_journal.specs.KeptJournals.{JournalOf, TellsAsBefore, entries_of, reclaimed_of}

-- a load makes none
pub versions_made-load : (journal : List Entry) (delivery : DeliveryOf)
    → versions_made (journal ++ entry.Load delivery ∷ []) ≡ versions_made journal
versions_made-load [] delivery = refl
versions_made-load (entry.Load _ ∷ later) delivery = versions_made-load later delivery
versions_made-load (entry.Install _ _ ∷ later) delivery =
    ap suc (versions_made-load later delivery)

-- an install makes one
pub versions_made-install : (journal : List Entry) (key : Key) (at : ℕ)
    → versions_made (journal ++ entry.Install key at ∷ []) ≡ suc (versions_made journal)
versions_made-install [] key at = refl
versions_made-install (entry.Load _ ∷ later) key at = versions_made-install later key at
versions_made-install (entry.Install _ _ ∷ later) key at =
    ap suc (versions_made-install later key at)

-- a load forgets nothing
pub reclaimed_of-load : (old new : JournalOf) (delivery : DeliveryOf)
    → entries_of new ≡ with_entry (entries_of old) (entry.Load delivery)
    → new.contents ≡ old.contents → reclaimed_of new ≡ reclaimed_of old
reclaimed_of-load old new delivery entries contents =
    rw (entries, contents, versions_made-load (entries_of old) delivery) refl

-- nor does an install that keeps one version more
pub reclaimed_of-install : (old new : JournalOf) (key : Key)
    → entries_of new ≡ with_install (entries_of old) key
    → length new.contents ≡ suc (length old.contents) → reclaimed_of new ≡ reclaimed_of old
reclaimed_of-install old new key entries more =
    rw (
      entries,
      more,
      versions_made-install (entries_of old) key (length (entries_of old)),
    ) (omega arith)

-- nor does a journal that tells what it told before
pub reclaimed_of-as_before : (old new : JournalOf) → TellsAsBefore old new
    → reclaimed_of new ≡ reclaimed_of old
reclaimed_of-as_before old new same = rw (same.core.state.journal, same.contents) refl
