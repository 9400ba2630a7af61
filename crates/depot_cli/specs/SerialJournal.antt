-- The journal that the items of a script make, taken in order.
use Rattle.std.specs.Prelude.{ℕ, ◌≡◌, List, [], ◌∷◌, ◌++◌, if◌then◌else◌, fold}
use Rattle.desc_types.specs.Descriptions.{DescOf}
use Rattle.view_meaning.specs.declared.journal.Entry.{Entry}
use Rattle.view_meaning.specs.declared.journal.Entry.TheVariants as entry
use Rattle.desc_types.specs.Sources.{HasEarlierSources}
use Rattle.view_meaning.specs.Journal.{is_repeat}
use Rattle.view_meaning.specs.LegalJournals.{IsLegal}
use Rattle.view_meaning.specs.Drains.{drained}
use Rattle.machine_meaning.specs.VersionCounts.{versions_replaced}
use Rattle.run_journal.specs.KeptJournals.{JournalOf, entries_of, reclaimed_of}
use Rattle.depot_cli.specs.declared.script.work.Work.{Work}
use Rattle.depot_cli.specs.declared.script.work.Work.TheVariants as work

-- the journal after an item: a delivery that is no repeat is loaded, a drain installs each
-- partition of a view that is not settled, and nothing else changes it
abbrev pub journal_after : DescOf → List Entry → Work → List Entry
journal_after desc journal work.Nothing = journal
journal_after desc journal (work.Refused _) = journal
journal_after desc journal (work.Load delivery) =
    if is_repeat journal delivery then journal else journal ++ entry.Load delivery ∷ []
journal_after desc journal work.Drain = drained desc journal
journal_after desc journal (work.Query _) = journal
journal_after desc journal (work.Marks _) = journal
journal_after desc journal (work.Aside _) = journal
journal_after desc journal work.Reclaim = journal

-- the journal after items, from this one on
abbrev pub serial : DescOf → List Entry → List Work → List Entry
serial desc journal items = fold (journal_after desc) journal items

-- what items of a script have made: the journal, and how many of its versions were dropped
pub record Made : Type 0 where
  pub journal : List Entry
  pub reclaimed : ℕ

-- before the first item: no entry, and no version dropped
abbrev pub nothing : Made
nothing = record { journal = []; reclaimed = 0 }

-- how many versions were dropped after an item: `reclaim` drops each that a later one replaced
abbrev pub reclaimed_after : Made → Work → ℕ
reclaimed_after made work.Nothing = made.reclaimed
reclaimed_after made (work.Refused _) = made.reclaimed
reclaimed_after made (work.Load _) = made.reclaimed
reclaimed_after made work.Drain = made.reclaimed
reclaimed_after made (work.Query _) = made.reclaimed
reclaimed_after made (work.Marks _) = made.reclaimed
reclaimed_after made (work.Aside _) = made.reclaimed
reclaimed_after made work.Reclaim = versions_replaced made.journal

-- what there is after an item
abbrev pub after : DescOf → Made → Work → Made
after desc made item = record {
  journal = journal_after desc made.journal item;
  reclaimed = reclaimed_after made item;
}

-- what items make, after what was made before
abbrev pub made_by : DescOf → Made → List Work → Made
made_by desc made items = fold (after desc) made items

-- what the journal of a run has made
abbrev pub made_of : JournalOf → Made
made_of journal = record { journal = entries_of journal; reclaimed = reclaimed_of journal }

-- what is dropped does not change the journal that items make
abbrev pub HasSerialJournals : Type 0
HasSerialJournals = (desc : DescOf) (items : List Work)
    → (made_by desc nothing items).journal ≡ serial desc [] items

-- the journal that items make is legal
abbrev pub HasLegalSerial : Type 0
HasLegalSerial = (desc : DescOf) (items : List Work) → HasEarlierSources desc
    → IsLegal desc (serial desc [] items)
