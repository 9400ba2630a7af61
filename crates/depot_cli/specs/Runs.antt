-- What a run answers, writes and leaves, by the reading of its input.
use Rattle.std.specs.Prelude.{ℕ, ◌≡◌, ◌≤◌, ◌+◌, List, [], ◌∷◌, ◌++◌, Bool, true, false, ⊤}
use Rattle.std.specs.Prelude.{if◌then◌else◌, ◌||◌, ◌⊎◌, length, take, drop, All, codes}
use Rattle.std.specs.Prelude.{Some, None}
use Rattle.std.specs.declared.option.Option.{Option}
use Rattle.std.specs.Io.KnownBytes.{Appends}
use Rattle.depot_io.specs.Causes.{Rose}
use Rattle.depot_io.specs.Puts.{GainsPrefix, HasRoomFor}
use Rattle.std.specs.Str.{bytes_eq}
use Rattle.depot_cli.specs.declared.run.status.Status.{Status}
use Rattle.depot_cli.specs.declared.run.status.Status.TheVariants as status
use Rattle.depot_cli.specs.declared.run.status.InputEnd.{InputEnd}
use Rattle.depot_cli.specs.declared.run.status.InputEnd.TheVariants as why
use Rattle.depot_cli.specs.Reading.{Script, Unopened, Misdescribed, Serving, Session, SessionEnd}
use Rattle.depot_cli.specs.Reading.{Ended, Stopped}
use Rattle.desc_types.specs.Descriptions.{DescOf}
use Rattle.depot_cli.specs.ScriptCalls.{IsLeftOf}
use Rattle.depot_cli.specs.SerialJournal.{made_by, nothing}
use Rattle.depot_cli.specs.Replies.{replies, has_refused}

-- the words of the command line are the one command that there is
abbrev pub is_trial : List (List ℕ) → Bool
is_trial (word ∷ []) = bytes_eq word (codes "trial")
is_trial _ = false

-- the text that a word in place of the folder asks for
abbrev pub text_asked : (help version word : List ℕ) → Option (List ℕ)
text_asked help version word =
    if bytes_eq word (codes "--help") || bytes_eq word (codes "-h") then Some help
    else if bytes_eq word (codes "--version") then Some version else None

-- the status of a session that ended so
abbrev pub session_status : Session → SessionEnd → Status
session_status session (Ended _) = if has_refused session.items then status.Refused else status.Done
session_status session (Stopped why place _) = status.Input why place

-- the status that a reading gives to a run which no device and no want of memory ends
abbrev pub status_of : Script → Status
status_of (Unopened why place _) = status.Input why place
status_of (Misdescribed bad _) = status.BadDescription bad.line bad.cause
status_of (Serving desc session) = session_status session session.end

-- a status is the reading's, except those of the devices, of memory and of the command line
abbrev pub IsStatusOf : Script → Status → Type 0
IsStatusOf script status.Usage = ⊤
IsStatusOf script status.ReadFault = ⊤
IsStatusOf script status.WriteFault = ⊤
IsStatusOf script status.Memory = ⊤
IsStatusOf script status.Done = status_of script ≡ status.Done
IsStatusOf script status.Refused = status_of script ≡ status.Refused
IsStatusOf script (status.BadDescription line cause) =
    status_of script ≡ status.BadDescription line cause
IsStatusOf script (status.Input why place) = status_of script ≡ status.Input why place

-- the exit code
abbrev pub code_of : Status → ℕ
code_of status.Done = 0
code_of status.Refused = 1
code_of status.Usage = 2
code_of (status.BadDescription _ _) = 3
code_of (status.Input _ _) = 4
code_of status.ReadFault = 5
code_of status.WriteFault = 6
code_of status.Memory = 9

-- the run came to the end of its reading: no device, want of memory or command line ended it
abbrev pub is_read : Status → Bool
is_read status.Done = true
is_read status.Refused = true
is_read (status.BadDescription _ _) = true
is_read (status.Input _ _) = true
is_read status.Usage = false
is_read status.ReadFault = false
is_read status.WriteFault = false
is_read status.Memory = false

-- the replies to all items of a reading
abbrev pub replies_of : Script → List ℕ
replies_of (Unopened _ _ _) = []
replies_of (Misdescribed _ _) = []
replies_of (Serving desc session) = replies desc 1 nothing session.items

-- what the end of a session leaves of its input
abbrev pub left_after : SessionEnd → List ℕ
left_after (Ended rest) = rest
left_after (Stopped _ _ rest) = rest

-- what a reading leaves of its input: what follows the `end` line, the `go` line of a bad
-- description or what could not be read on, or nothing
abbrev pub left_of : Script → List ℕ
left_of (Unopened _ _ rest) = rest
left_of (Misdescribed _ rest) = rest
left_of (Serving desc session) = left_after session.end

-- the reply to the item of a session with this number, from 0; and nothing if there is none
abbrev pub reply_at : DescOf → Session → (number : ℕ) → List ℕ
reply_at desc session number = replies desc (1 + number)
    (made_by desc nothing (take number session.items)) (take 1 (drop number session.items))

-- the replies to so many items of a session
abbrev pub first_replies : DescOf → Session → (many : ℕ) → List ℕ
first_replies desc session many = replies desc 1 nothing (take many session.items)

-- the sink has gained the whole replies to the first so many items, and a front of the next one's
pub record GainsFront (desc : DescOf) (session : Session) (got_before got_now : Option (List ℕ))
    : Type 0 where
  pub many : ℕ
  pub within : many ≤ length session.items
  pub front : ℕ
  pub gained : Appends got_before got_now
      (first_replies desc session many ++ take front (reply_at desc session many))

-- the sink has gained the whole replies to the first so many items, and the last byte of each item
-- after them was not taken
pub record GainsTaken (desc : DescOf) (session : Session)
    (got_before got_now left_now : Option (List ℕ)) : Type 0 where
  pub many : ℕ
  pub within : many ≤ length session.items
  pub untaken : All (λ (due : ℕ). IsLeftOf left_now due) (drop many session.dues)
  pub gained : Appends got_before got_now (first_replies desc session many)

-- what a run that was ended by want of memory or by the sink has gained
abbrev pub GainsFrontOf : Script → (got_before got_now : Option (List ℕ)) → Type 0
GainsFrontOf (Unopened _ _ _) got_before got_now = Appends got_before got_now []
GainsFrontOf (Misdescribed _ _) got_before got_now = Appends got_before got_now []
GainsFrontOf (Serving desc session) got_before got_now = GainsFront desc session got_before got_now

-- what a run that was ended by the source has gained
abbrev pub GainsTakenOf : Script → (got_before got_now left_now : Option (List ℕ)) → Type 0
GainsTakenOf (Unopened _ _ _) got_before got_now left_now = Appends got_before got_now []
GainsTakenOf (Misdescribed _ _) got_before got_now left_now = Appends got_before got_now []
GainsTakenOf (Serving desc session) got_before got_now left_now =
    GainsTaken desc session got_before got_now left_now

-- what a run has put into the sink, by how it ended: the replies to all items, if it came to the
-- end of its reading; nothing, if the command line or the description was not accepted; else the
-- replies to the items before the one at which it ended
abbrev pub Gains : Script → (got_before got_now left_now : Option (List ℕ)) → Status → Type 0
Gains script before now left status.Done = Appends before now (replies_of script)
Gains script before now left status.Refused = Appends before now (replies_of script)
Gains script before now left (status.Input _ _) = Appends before now (replies_of script)
Gains script before now left status.Usage = Appends before now []
Gains script before now left (status.BadDescription _ _) = Appends before now []
Gains script before now left status.ReadFault = GainsTakenOf script before now left
Gains script before now left status.WriteFault = GainsFrontOf script before now
Gains script before now left status.Memory = GainsFrontOf script before now

-- a run that this reading stands for: its status is the reading's; the sink has gained what that
-- says; if the run came to the end of its reading, the source has left what that leaves; and if the
-- replies fit the room that the sink told before, the sink is not blamed
pub record IsRun (script : Script) (got_before got_now left_now : Option (List ℕ))
    (room : Option ℕ) (ended : Status) : Type 0 where
  pub told : IsStatusOf script ended
  pub gains : Gains script got_before got_now left_now ended
  pub left : is_read ended ≡ true → left_now ≡ Some (left_of script)
  pub fits : HasRoomFor room (length (replies_of script)) → ended ≡ status.WriteFault → ⊥

-- the count of the source's faults rose if the run tells of one, and stayed otherwise
abbrev pub IsReadCause : (before now : ℕ) → Status → Type 0
IsReadCause before now status.ReadFault = Rose before now
IsReadCause before now _ = now ≡ before

-- the count of the sink's faults rose if the run tells of one, and stayed otherwise
abbrev pub IsWriteCause : (before now : ℕ) → Status → Type 0
IsWriteCause before now status.WriteFault = Rose before now
IsWriteCause before now _ = now ≡ before

-- a run tells of a fault of a device exactly if that counted one
pub record HasRunCauses (reads_before reads_now writes_before writes_now : ℕ)
    (ended : Status) : Type 0 where
  pub read : IsReadCause reads_before reads_now ended
  pub write : IsWriteCause writes_before writes_now ended

-- what the sink has gained of a text that was printed
abbrev pub IsPrinted : (got_before got_now : Option (List ℕ)) → (text : List ℕ) → Status → Type 0
IsPrinted got_before got_now text status.Done = Appends got_before got_now text
IsPrinted got_before got_now text status.WriteFault = GainsPrefix got_before got_now text
IsPrinted got_before got_now text _ = ⊥

-- whether an input ended before its `go` line
abbrev pub lacks_go : InputEnd → Bool
lacks_go why.NoGo = true
lacks_go _ = false

-- whether a run came to no session: its words or its description are not accepted, or its input
-- has no `go` line
abbrev pub is_unserved : Status → Bool
is_unserved status.Usage = true
is_unserved (status.BadDescription _ _) = true
is_unserved (status.Input why _) = lacks_go why
is_unserved _ = false

-- how a session may end
abbrev pub EndsSession : Status → Type 0
EndsSession ended = is_unserved ended ≡ false

-- a run that did all that its reading says: its status, exactly the replies, and what is left
pub record IsComplete (script : Script) (got_before got_now left_now : Option (List ℕ))
    (ended : Status) : Type 0 where
  pub told : ended ≡ status_of script
  pub replied : Appends got_before got_now (replies_of script)
  pub left : left_now ≡ Some (left_of script)

-- the run of a command over a source that does not fail is complete, or there was no memory, if the
-- replies fit the room that the sink told, or the sink does not fail
abbrev pub HasCompleteRuns : Type 0
HasCompleteRuns = (script : Script) (got_before got_now left_now : Option (List ℕ))
    (room : Option ℕ) (ended : Status) (reads_before reads_now writes_before writes_now : ℕ)
    → IsRun script got_before got_now left_now room ended
    → HasRunCauses reads_before reads_now writes_before writes_now ended
    → (ended ≡ status.Usage → ⊥)
    → (Rose reads_before reads_now → ⊥)
    → HasRoomFor room (length (replies_of script)) ⊎ (Rose writes_before writes_now → ⊥)
    → IsComplete script got_before got_now left_now ended ⊎ (ended ≡ status.Memory)
