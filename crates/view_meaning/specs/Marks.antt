-- The mark of any partition, by those of the raw partitions below it.
use Rattle.std.specs.Prelude.{◌≡◌, ◌≤◌, ◌≢◌, ◌&&◌, List, ◌++◌, fold, map, nat_le, if◌then◌else◌}
use Rattle.std.specs.List.{list_all}
use Rattle.desc_types.specs.declared.table.Key.{Key}
use Rattle.desc_types.specs.Descriptions.{DescOf}
use Rattle.desc_types.specs.Sources.{HasEarlierSources}
use Rattle.view_meaning.specs.declared.journal.Entry.{Entry}
use Rattle.view_meaning.specs.declared.request.Mark.{Mark}
use Rattle.view_meaning.specs.declared.request.Mark.TheVariants as mark
use Rattle.view_meaning.specs.Journal.{accepted}
use Rattle.view_meaning.specs.Staleness.{is_settled}
use Rattle.view_meaning.specs.LegalJournals.{IsLegal}
use Rattle.view_meaning.specs.Ranks.{rank_of}
use Rattle.view_meaning.specs.RawBelow.{raw_below}
use Rattle.view_meaning.specs.RawMarks.{raw_mark}
use Rattle.view_meaning.specs.Stability.{StaysSettled}

-- the lower one of two marks
abbrev pub lower : Mark → Mark → Mark
lower first second = if nat_le (rank_of first) (rank_of second) then first else second

-- the least of some marks, and Complete if there are none
abbrev pub least : List Mark → Mark
least marks = fold lower mark.Complete marks

-- the mark of a partition after a journal
abbrev pub mark_of : DescOf → List Entry → Key → Mark
mark_of desc journal key = if is_settled desc journal key
    then least (map (raw_mark desc (accepted journal)) (raw_below desc key))
    else mark.Open

-- the mark of a partition is at least another than open exactly if the partition is settled and so
-- far is each raw partition below it
abbrev pub HasExactMarks : Type 0
HasExactMarks = (desc : DescOf) (journal : List Entry) (key : Key) (given : Mark)
    → given ≢ mark.Open
    → nat_le (rank_of given) (rank_of (mark_of desc journal key))
    ≡ (is_settled desc journal key
    && list_all (λ raw. nat_le (rank_of given) (rank_of (raw_mark desc (accepted journal) raw)))
    (raw_below desc key))

-- a partition whose mark is not open stays as it is, however the journal goes on
abbrev pub HasStableClosed : Type 0
HasStableClosed = (desc : DescOf) (journal more : List Entry) (key : Key)
    → HasEarlierSources desc → IsLegal desc (journal ++ more) → mark_of desc journal key ≢ mark.Open
    → StaysSettled desc journal (journal ++ more) key

-- the mark of a partition never falls as a legal journal goes on
abbrev pub HasRisingMarks : Type 0
HasRisingMarks = (desc : DescOf) (journal more : List Entry) (key : Key)
    → HasEarlierSources desc → IsLegal desc (journal ++ more)
    → rank_of (mark_of desc journal key) ≤ rank_of (mark_of desc (journal ++ more) key)
