-- The journal that items make is the serial one, and legal.
use Rattle.std.proofs.Common.{List, [], ◌∷◌, inl, inr, refl, ◌≡◌}
use Rattle.std.proofs.lemmas.Bool.{cases_Bool}
use Rattle.desc_types.specs.Descriptions.{DescOf}
use Rattle.view_meaning.specs.declared.journal.Entry.{Entry}
use Rattle.view_meaning.specs.declared.journal.Entry.TheVariants as entry
use Rattle.desc_types.specs.Sources.{HasEarlierSources}
use Rattle.view_meaning.specs.Journal.{is_repeat}
use Rattle.view_meaning.specs.LegalJournals.{IsLegal}
use Rattle.view_meaning.proofs.LegalLemmas.{IsLegal-push}
use Rattle.view_meaning.proofs.DrainLemmas.{IsLegal-drained}
use Rattle.depot_cli.specs.declared.script.work.Work.{Work}
use Rattle.depot_cli.specs.declared.script.work.Work.TheVariants as work
use Rattle.depot_cli.specs.SerialJournal.{HasSerialJournals, Made, after, journal_after, made_by}
use Rattle.depot_cli.specs.SerialJournal.{nothing, serial}

-- an item leaves a legal journal
IsLegal-journal_after : (desc : DescOf) (journal : List Entry) (item : Work)
    → HasEarlierSources desc → IsLegal desc journal → IsLegal desc (journal_after desc journal item)
IsLegal-journal_after desc journal work.Nothing earlier legal = legal
IsLegal-journal_after desc journal (work.Refused refusal) earlier legal = legal
IsLegal-journal_after desc journal (work.Load delivery) earlier legal =
    elim (cases_Bool (is_repeat journal delivery)) [
      | inl repeat ↦ rw repeat legal
      | inr new ↦ rw new (IsLegal-push desc journal (entry.Load delivery) legal new)
    ]
IsLegal-journal_after desc journal work.Drain earlier legal =
    IsLegal-drained desc journal earlier legal
IsLegal-journal_after desc journal (work.Query items) earlier legal = legal
IsLegal-journal_after desc journal (work.Marks items) earlier legal = legal
IsLegal-journal_after desc journal (work.Aside feed) earlier legal = legal
IsLegal-journal_after desc journal work.Reclaim earlier legal = legal

-- so do all items
pub IsLegal-serial : (desc : DescOf) (journal : List Entry) (items : List Work)
    → HasEarlierSources desc → IsLegal desc journal → IsLegal desc (serial desc journal items)
IsLegal-serial desc journal [] earlier legal = legal
IsLegal-serial desc journal (item ∷ items) earlier legal =
    IsLegal-serial desc (journal_after desc journal item) items earlier
    (IsLegal-journal_after desc journal item earlier legal)

-- what items make has the journal that they make
made_by-journal : (desc : DescOf) (made : Made) (items : List Work)
    → (made_by desc made items).journal ≡ serial desc made.journal items
made_by-journal desc made [] = refl
made_by-journal desc made (item ∷ items) = made_by-journal desc (after desc made item) items

-- from the first item on
pub serial_journals : HasSerialJournals
serial_journals desc items = made_by-journal desc nothing items
