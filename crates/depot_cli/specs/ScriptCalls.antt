-- What the calls that read a script answer, by its reading.
use Rattle.std.specs.Prelude.{ℕ, ◌≡◌, ◌≤◌, ◌<◌, ◌-◌, ◌^◌, List, [], Option, Some, None, length, Bool}
use Rattle.std.specs.Prelude.{true, false, Result, Ok, Err, ⊤}
use Rattle.std.specs.Io.KnownBytes.{Appends}
use Rattle.depot_io.specs.Causes.{Rose}
use Rattle.depot_io.specs.Puts.{GainsPrefix, HasRoomFor, room_after}
use Rattle.depot_cli.specs.declared.script.ScriptFault.{ScriptFault}
use Rattle.depot_cli.specs.declared.script.ScriptFault.TheVariants.{Input, ReadFault, Memory}
use Rattle.depot_cli.specs.declared.run.status.Status.{Status}
use Rattle.depot_cli.specs.declared.run.status.Status.TheVariants as status
use Rattle.depot_cli.specs.declared.script.work.Work.{Work}
use Rattle.depot_cli.specs.declared.script.work.Work.TheVariants as work
use Rattle.query_pin.specs.Requests.{request_fault}
use Rattle.partition_map.specs.Time.{END}
use Rattle.depot_script.specs.declared.fault.CommandFault.{CommandFault}
use Rattle.depot_script.specs.CommandValues.{CommandOf}
use Rattle.depot_script.specs.CommandValues as command
use Rattle.desc_types.specs.Descriptions.{DescOf}
use Rattle.depot_cli.specs.SerialJournal.{after, made_of}
use Rattle.run_journal.specs.KeptJournals.{DrainsSome, JournalOf, TellsAsBefore, entries_of}
use Rattle.view_meaning.specs.Journal.{FitsDelivery}
use Rattle.table_desc.specs.Drafts.{DraftOf, drafted}
use Rattle.depot_cli.specs.Reading.{NextLine, NoLine, Unreadable, Line, NextBody, Unfinished, Body}
use Rattle.depot_cli.specs.Reading.{Opening, OpeningEnd, Go, Broken, Step, Ends, Does, Ended}
use Rattle.depot_cli.specs.Reading.{Stopped}

-- known bytes are these
abbrev pub IsLeft : Option (List ℕ) → List ℕ → Type 0
IsLeft left rest = left ≡ Some rest

-- at least so many bytes are left
abbrev pub IsLeftOf : Option (List ℕ) → ℕ → Type 0
IsLeftOf None count = ⊥
IsLeftOf (Some bytes) count = count ≤ length bytes

-- the answer for a next line at a place: whether there is one, which it is, and what is left
-- after it; after a fault of the source so much is left at least as is due
abbrev pub IsNextLine : NextLine → (due place : ℕ) → (line : List ℕ)
    → (left : Option (List ℕ)) → Result Bool ScriptFault → Type 0
IsNextLine next due place line left (Ok true) =
    (rest : List ℕ) × (next ≡ Line line rest) × IsLeft left rest
IsNextLine next due place line left (Ok false) = (next ≡ NoLine) × IsLeft left []
IsNextLine next due place line left (Err (Input why at)) =
    (rest : List ℕ) × (next ≡ Unreadable why rest) × IsLeft left rest × (at ≡ place)
IsNextLine next due place line left (Err ReadFault) = IsLeftOf left due
IsNextLine next due place line left (Err Memory) = ⊥

-- the last byte of a body of this size, in front of these bytes, was not taken: it has one
abbrev pub IsBodyUndone : (size : ℕ) → List ℕ → (left : Option (List ℕ)) → Type 0
IsBodyUndone size bytes left = (0 < size) × IsLeftOf left (length bytes - (size - 1))

-- the answer for a next body at a place: which it is, and what is left after it; after a fault of
-- the source its last byte was not taken
abbrev pub IsNextBody : NextBody → (size place : ℕ) → (bytes body : List ℕ)
    → (left : Option (List ℕ)) → Result (Unit {0}) ScriptFault → Type 0
IsNextBody next size place bytes body left (Ok _) =
    (rest : List ℕ) × (next ≡ Body body rest) × IsLeft left rest
IsNextBody next size place bytes body left (Err (Input why at)) =
    (rest : List ℕ) × (next ≡ Unfinished why rest) × IsLeft left rest × (at ≡ place)
IsNextBody next size place bytes body left (Err ReadFault) = IsBodyUndone size bytes left
IsNextBody next size place bytes body left (Err Memory) = ⊤

-- no byte after the `go` line was taken
abbrev pub IsBeforeGo : OpeningEnd → Option (List ℕ) → Type 0
IsBeforeGo (Go taken rest) left = IsLeftOf left (length rest)
IsBeforeGo (Broken why place rest) left = ⊤

-- the answer for an opening: what its lines declare, and what was taken and is left after it
abbrev pub IsOpening : Opening → (taken : ℕ) → (left : Option (List ℕ))
    → Result DraftOf ScriptFault → Type 0
IsOpening opening taken left (Ok draft) = (rest : List ℕ)
    × (draft ≡ drafted opening.lines) × (opening.end ≡ Go taken rest) × IsLeft left rest
IsOpening opening taken left (Err (Input why place)) =
    (rest : List ℕ) × (opening.end ≡ Broken why place rest) × IsLeft left rest
IsOpening opening taken left (Err ReadFault) = IsBeforeGo opening.end left
IsOpening opening taken left (Err Memory) = ⊤

-- the last byte of what a step does was not taken
abbrev pub IsUndone : Step → Option (List ℕ) → Type 0
IsUndone (Ends end) left = ⊤
IsUndone (Does work due taken rest) left = IsLeftOf left due

-- what a step does, with what was taken and is left after it
pub record IsDone (step : Step) (taken : ℕ) (left : Option (List ℕ)) (work : Work) : Type 0 where
  pub due : ℕ
  pub rest : List ℕ
  pub does : step ≡ Does work due taken rest
  pub is_left : IsLeft left rest

-- the answer for a step: what it does, or how it ends; after a fault of the source its last byte
-- was not taken
abbrev pub IsStep : Step → (taken : ℕ) → (left : Option (List ℕ))
    → Result (Option Work) ScriptFault → Type 0
IsStep step taken left (Ok (Some work)) = IsDone step taken left work
IsStep step taken left (Ok None) = (rest : List ℕ) × (step ≡ Ends (Ended rest)) × IsLeft left rest
IsStep step taken left (Err (Input why place)) =
    (rest : List ℕ) × (step ≡ Ends (Stopped why place rest)) × IsLeft left rest
IsStep step taken left (Err ReadFault) = IsUndone step left
IsStep step taken left (Err Memory) = ⊤

-- the count of the source's faults rose if the source is blamed, and otherwise stayed
abbrev pub IsScriptCause : {T : Type 0} → (before now : ℕ) → Result T ScriptFault → Type 0
IsScriptCause before now (Err ReadFault) = Rose before now
IsScriptCause before now (Err (Input _ _)) = now ≡ before
IsScriptCause before now (Err Memory) = now ≡ before
IsScriptCause before now (Ok _) = now ≡ before

-- the numbers of a delivery: its feed is one of the description, and the others are in their ranges
pub record FitsNumbers (desc : DescOf) (feed number closes : ℕ) : Type 0 where
  pub of_feed : feed < length desc.feeds
  pub numbered : number < 2 ^ 32
  pub in_time : closes ≤ END

-- a command fits if the numbers of its delivery do, and if its feed is one of the description
abbrev pub FitsCommand : DescOf → CommandOf → Type 0
FitsCommand desc command.Nothing = ⊤
FitsCommand desc (command.Deliver feed number closes size) = FitsNumbers desc feed number closes
FitsCommand desc command.Drain = ⊤
FitsCommand desc (command.Query items) = ⊤
FitsCommand desc (command.Marks items) = ⊤
FitsCommand desc (command.Aside feed) = feed < length desc.feeds
FitsCommand desc command.Reclaim = ⊤
FitsCommand desc command.End = ⊤

-- what was read of a line fits if its command does
abbrev pub FitsLine : DescOf → Result CommandOf CommandFault → Type 0
FitsLine desc (Ok read) = FitsCommand desc read
FitsLine desc (Err fault) = ⊤

-- a delivery fits the description, the feed that is spoken of is one of it, and no test speaks
-- against a request
abbrev pub IsAnswerable : DescOf → Work → Type 0
IsAnswerable desc work.Nothing = ⊤
IsAnswerable desc (work.Refused _) = ⊤
IsAnswerable desc (work.Load delivery) = FitsDelivery desc delivery
IsAnswerable desc work.Drain = ⊤
IsAnswerable desc (work.Query items) = request_fault desc items ≡ None
IsAnswerable desc (work.Marks items) = request_fault desc items ≡ None
IsAnswerable desc (work.Aside feed) = feed < length desc.feeds
IsAnswerable desc work.Reclaim = ⊤

-- the status of a script that was not read on
abbrev pub status_of_fault : ScriptFault → Status
status_of_fault (Input why place) = status.Input why place
status_of_fault ReadFault = status.ReadFault
status_of_fault Memory = status.Memory

-- a reply was put, or there was no memory, or the sink failed: its count of faults rose, and else
-- stayed
abbrev pub IsReplyCause : {T : Type 0} → (before now : ℕ) → Result T Status → Type 0
IsReplyCause before now (Ok _) = now ≡ before
IsReplyCause before now (Err status.Memory) = now ≡ before
IsReplyCause before now (Err status.WriteFault) = Rose before now
IsReplyCause before now (Err status.Done) = ⊥
IsReplyCause before now (Err status.Refused) = ⊥
IsReplyCause before now (Err status.Usage) = ⊥
IsReplyCause before now (Err (status.BadDescription _ _)) = ⊥
IsReplyCause before now (Err (status.Input _ _)) = ⊥
IsReplyCause before now (Err status.ReadFault) = ⊥

-- what the sink has gained of a reply: all of it; if it failed, a front short of all; and if
-- there was no memory, nothing
abbrev pub IsReplied : {T : Type 0} → (before now : Option (List ℕ)) → (reply : List ℕ)
    → Result T Status → Type 0
IsReplied before now reply (Ok _) = Appends before now reply
IsReplied before now reply (Err status.WriteFault) = GainsPrefix before now reply
IsReplied before now reply (Err status.Memory) = Appends before now []
IsReplied before now reply (Err status.Done) = ⊥
IsReplied before now reply (Err status.Refused) = ⊥
IsReplied before now reply (Err status.Usage) = ⊥
IsReplied before now reply (Err (status.BadDescription _ _)) = ⊥
IsReplied before now reply (Err (status.Input _ _)) = ⊥
IsReplied before now reply (Err status.ReadFault) = ⊥

-- what a reply does to the room that the sink tells: one that fits lowers it, and does not fail
abbrev pub IsReplyRoom : {T : Type 0} → (before now : Option ℕ) → (reply : List ℕ)
    → Result T Status → Type 0
IsReplyRoom before now reply (Ok _) =
    HasRoomFor before (length reply) → now ≡ room_after before (length reply)
IsReplyRoom before now reply (Err status.WriteFault) = HasRoomFor before (length reply) → ⊥
IsReplyRoom before now reply (Err _) = ⊤

-- the answer for an opening that was taken off a lent source, and how many bytes it took
abbrev pub IsOpened : Opening → (left : Option (List ℕ))
    → Result (DraftOf × ℕ) ScriptFault → Type 0
IsOpened opening left (Ok (draft, taken)) = IsOpening opening taken left (Ok draft)
IsOpened opening left (Err fault) = IsOpening opening 0 left (Err fault)

-- what a command for which there was no memory left of the journal: a drain may have made some of
-- its installs, `reclaim` may have dropped versions, and after each other one the journal tells what
-- it told before
abbrev pub IsCutShort : DescOf → (before now : JournalOf) → Work → Type 0
IsCutShort desc before now work.Drain = DrainsSome desc (entries_of before) (entries_of now)
IsCutShort desc before now work.Reclaim = entries_of now ≡ entries_of before
IsCutShort desc before now _ = TellsAsBefore before now

-- what an item that was not replied to left of the journal: it was done, if the sink failed
abbrev pub IsItemCut : DescOf → (before now : JournalOf) → Work → Status → Type 0
IsItemCut desc before now work status.WriteFault =
    made_of now ≡ after desc (made_of before) work
IsItemCut desc before now work status.Memory = IsCutShort desc before now work
IsItemCut desc before now work _ = ⊥
