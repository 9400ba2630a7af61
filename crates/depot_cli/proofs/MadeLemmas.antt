-- What the journal of a run has made: it stays where the journal tells what it told before.
use Rattle.std.proofs.Common.{◌≡◌, ◌∙◌, ℕ, List, length, ap, sym, subst}
use Rattle.std.specs.Prelude.{◌-◌}
use Rattle.depot_cell.specs.declared.cell.Cell.{Cell}
use Rattle.desc_types.specs.Descriptions.{DescOf}
use Rattle.view_meaning.specs.declared.journal.Entry.{Entry}
use Rattle.machine_meaning.specs.VersionCounts.{versions_made}
use Rattle.run_journal.specs.KeptJournals.{IsKept, JournalOf, TellsAsBefore, entries_of}
use Rattle.run_journal.specs.KeptJournals.{reclaimed_of}
use Rattle.depot_cli.specs.SerialJournal.{Made, made_of}

-- what was made, by its parts
pub made_of-parts : (journal : JournalOf) (entries : List Entry) (count : ℕ)
    → entries_of journal ≡ entries → reclaimed_of journal ≡ count
    → made_of journal ≡ record { journal = entries; reclaimed = count }
made_of-parts journal entries count its_entries its_count =
    let Parts : List Entry → ℕ → Made = λ entries count.
    record { journal = entries; reclaimed = count } in
    ap (λ (entries : List Entry). Parts entries (reclaimed_of journal)) its_entries
    ∙ ap (Parts entries) its_count

-- a journal that tells what it told before has dropped as many versions
reclaimed_of-as_before : (old new : JournalOf) → TellsAsBefore old new
    → reclaimed_of new ≡ reclaimed_of old
reclaimed_of-as_before old new same =
    ap (λ (entries : List Entry). versions_made entries - length new.contents)
    same.core.state.journal
    ∙ ap (λ (contents : List (ℕ × List (List Cell))). versions_made (entries_of old)
    - length contents) same.contents

-- and has made what it had made
pub made_of-as_before : (old new : JournalOf) → TellsAsBefore old new
    → made_of new ≡ made_of old
made_of-as_before old new same =
    made_of-parts new (entries_of old) (reclaimed_of old) same.core.state.journal
    (reclaimed_of-as_before old new same)

-- what a journal keeps for a description it keeps for its own
pub IsKept-own : (desc : DescOf) (journal : JournalOf) → IsKept desc journal
    → IsKept journal.core.desc journal
IsKept-own desc journal kept =
    subst (λ (desc : DescOf). IsKept desc journal) (sym kept.served) kept
