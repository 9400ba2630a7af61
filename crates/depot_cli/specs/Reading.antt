-- The reading of a script: what its bytes say, item by item, and how it ends.
use Rattle.std.specs.Prelude.{ℕ, zero, suc, ◌+◌, ◌-◌, List, [], ◌∷◌, nat_lt}
use Rattle.std.specs.Prelude.{nat_le, if◌then◌else◌, length, take, drop, min, Result, Ok, Err}
use Rattle.std.specs.Io.BufRead.{first_line}
use Rattle.depot_io.specs.Lines.{LIMIT, line_take, span}
use Rattle.desc_lines.specs.Words.{words, is_empty, is_go}
use Rattle.table_desc.specs.declared.fault.BadLine.{BadLine}
use Rattle.desc_types.specs.Descriptions.{DescOf}
use Rattle.table_desc.specs.Drafts.{drafted}
use Rattle.depot_cli.specs.declared.script.work.Work.{Work}
use Rattle.depot_cli.specs.declared.run.status.InputEnd.{InputEnd}
use Rattle.depot_cli.specs.declared.run.status.InputEnd.TheVariants as why
use Rattle.depot_cli.specs.Items.{is_end, work_of}
use Rattle.depot_script.specs.declared.body.BodySize.{BodySize}
use Rattle.depot_script.specs.declared.body.BodySize.TheVariants as body
use Rattle.depot_script.specs.declared.fault.CommandFault.{CommandFault}
use Rattle.depot_script.specs.CommandValues.{CommandOf}
use Rattle.depot_script.specs.Commands.{body_size, line_command}

-- what the next line of an input is: there is none, it cannot be read, or it is there; with what
-- is left after it, or after what was taken to tell that
pub data NextLine : Type 0 where
  NoLine : NextLine
  Unreadable : InputEnd → (rest : List ℕ) → NextLine
  Line : (line rest : List ℕ) → NextLine

-- the next line, if the reader took this many bytes before these
abbrev pub next_line : (taken : ℕ) → List ℕ → NextLine
next_line taken bytes =
    if nat_le LIMIT (taken + line_take bytes) then Unreadable why.Long (drop (LIMIT - taken) bytes)
    else if is_empty bytes then NoLine
    else if nat_lt 4096 (span bytes)
    then Unreadable why.LongLine (drop (line_take bytes) bytes)
    else Line (first_line bytes) (drop (line_take bytes) bytes)

-- what the next body of an input is: it cannot be read whole, or it is there; with what is left
-- after it, or after what was taken to tell that
pub data NextBody : Type 0 where
  Unfinished : InputEnd → (rest : List ℕ) → NextBody
  Body : (body rest : List ℕ) → NextBody

-- the next body of this size, if the reader took this many bytes before these
abbrev pub next_body : (taken size : ℕ) → List ℕ → NextBody
next_body taken size bytes =
    if nat_le LIMIT (taken + min size (length bytes))
    then Unfinished why.Long (drop (LIMIT - taken) bytes)
    else if nat_lt (length bytes) size then Unfinished why.Cut []
    else Body (take size bytes) (drop size bytes)

-- how a description ends: at its `go` line, or because the input cannot be read on at this place;
-- with what is left
pub data OpeningEnd : Type 0 where
  Go : (taken : ℕ) → (rest : List ℕ) → OpeningEnd
  Broken : InputEnd → (place : ℕ) → (rest : List ℕ) → OpeningEnd

-- the lines before the `go` line, and how they end
pub record Opening : Type 0 where
  pub lines : List (List ℕ)
  pub end : OpeningEnd

-- an opening with one more line in front
abbrev pub after_line : List ℕ → Opening → Opening
after_line line opening = record opening { lines = line ∷ opening.lines }

-- the opening that begins with this line, if `more` reads on
abbrev pub opening_at : (more : List ℕ → Opening) → (taken : ℕ) → (bytes : List ℕ)
    → NextLine → Opening
opening_at more taken bytes NoLine = record { lines = []; end = Broken why.NoGo taken [] }
opening_at more taken bytes (Unreadable cause rest) =
    record { lines = []; end = Broken cause taken rest }
opening_at more taken bytes (Line line rest) =
    if is_go (words line) then record { lines = []; end = Go (taken + line_take bytes) rest }
    else after_line line (more rest)

-- the opening of these bytes, in at most so many lines, if the reader took this many bytes
-- before
abbrev pub opening_from : (turns taken : ℕ) → List ℕ → Opening
opening_from zero taken bytes = record { lines = []; end = Broken why.NoGo taken [] }
opening_from (suc turns) taken bytes =
    opening_at (opening_from turns (taken + line_take bytes)) taken bytes (next_line taken bytes)

-- the opening of an input
abbrev pub opening : List ℕ → Opening
opening input = opening_from (suc (length input)) 0 input

-- how a session ends: at the end of the input or at the word `end`, or because the input cannot be
-- read on at this place; with what is left
pub data SessionEnd : Type 0 where
  Ended : (rest : List ℕ) → SessionEnd
  Stopped : InputEnd → (place : ℕ) → (rest : List ℕ) → SessionEnd

-- the next step of a session: it ends, or there is something to do. Then `due` tells how many bytes
-- are left at least as long as its last byte, the LF of its line or the last one of its body, was
-- not taken; and after it stands what was taken in all, and what is left.
pub data Step : Type 0 where
  Ends : SessionEnd → Step
  Does : Work → (due taken : ℕ) → (rest : List ℕ) → Step

-- how many bytes are left at least as long as the LF of the line in front was not taken: none if
-- no LF follows
abbrev pub line_due : List ℕ → ℕ
line_due bytes = length bytes - span bytes

-- the same of a body of this size, in front of these bytes; if it is empty, of its line
abbrev pub body_due : (due size : ℕ) → List ℕ → ℕ
body_due due zero bytes = due
body_due due (suc size) bytes = length bytes - size

-- the step of a line with a body of this size
abbrev pub body_step : DescOf → (base due taken : ℕ) → Result CommandOf CommandFault → (size : ℕ)
    → NextBody → Step
body_step desc base due taken command size (Unfinished cause rest) =
    Ends (Stopped cause (base + taken) rest)
body_step desc base due taken command size (Body body rest) =
    Does (work_of desc command body) due (taken + size) rest

-- the step of a line without a body: the line `end` ends the session
abbrev pub bare_step : DescOf → (due taken : ℕ) → Result CommandOf CommandFault → List ℕ → Step
bare_step desc due taken command rest =
    if is_end command then Ends (Ended rest) else Does (work_of desc command []) due taken rest

-- the step of a line, after it, by the size of its body
abbrev pub sized_step : DescOf → (base due taken : ℕ) → Result CommandOf CommandFault → BodySize
    → List ℕ → Step
sized_step desc base due taken command body.NoBody rest = bare_step desc due taken command rest
sized_step desc base due taken command (body.Body size) rest =
    body_step desc base (body_due due size rest) taken command size (next_body taken size rest)
sized_step desc base due taken command body.TooBig rest = Ends (Stopped why.Big (base + taken) rest)

-- the step at a line
abbrev pub line_step : DescOf → (base taken : ℕ) → (bytes : List ℕ) → NextLine → Step
line_step desc base taken bytes NoLine = Ends (Ended [])
line_step desc base taken bytes (Unreadable cause rest) = Ends (Stopped cause (base + taken) rest)
line_step desc base taken bytes (Line line rest) =
    sized_step desc base (line_due bytes) (taken + line_take bytes) (line_command desc line)
    (body_size line) rest

-- the next step of a session, whose input begins at the place `base` and of which so many bytes
-- were taken
abbrev pub step_of : DescOf → (base taken : ℕ) → List ℕ → Step
step_of desc base taken bytes = line_step desc base taken bytes (next_line taken bytes)

-- what the lines of a session ask for, in order, one item a line, what is due of each, and how it
-- ends
pub record Session : Type 0 where
  pub items : List Work
  pub dues : List ℕ
  pub end : SessionEnd

-- a session with one more item in front
abbrev pub after_item : Work → (due : ℕ) → Session → Session
after_item item due session =
    record session { items = item ∷ session.items; dues = due ∷ session.dues }

-- the session that begins with this step, if `more` reads on
abbrev pub session_at : (more : ℕ → List ℕ → Session) → Step → Session
session_at more (Ends end) = record { items = []; dues = []; end = end }
session_at more (Does item due taken rest) = after_item item due (more taken rest)

-- the session of these bytes, in at most so many lines
abbrev pub session_from : DescOf → (base turns taken : ℕ) → List ℕ → Session
session_from desc base zero taken bytes = record { items = []; dues = []; end = Ended [] }
session_from desc base (suc turns) taken bytes =
    session_at (session_from desc base turns) (step_of desc base taken bytes)

-- the session of an input that begins at this place
abbrev pub session : DescOf → (base : ℕ) → List ℕ → Session
session desc base input = session_from desc base (suc (length input)) 0 input

-- the reading of an input: the description cannot be read to its `go` line, it has a bad line, or
-- a session follows it; if none follows, with what is left
pub data Script : Type 0 where
  Unopened : InputEnd → (place : ℕ) → (rest : List ℕ) → Script
  Misdescribed : BadLine → (rest : List ℕ) → Script
  Serving : DescOf → Session → Script

-- the script after the lines of a description, at the `go` line
abbrev pub script_after : (base : ℕ) → List ℕ → Result DescOf BadLine → Script
script_after base rest (Ok desc) = Serving desc (session desc base rest)
script_after base rest (Err bad) = Misdescribed bad rest

-- the script that an opening begins, by what its lines declare
abbrev pub script_at : Result DescOf BadLine → OpeningEnd → Script
script_at read (Go taken rest) = script_after taken rest read
script_at read (Broken cause place rest) = Unopened cause place rest

-- the reading of an input
abbrev pub reading : List ℕ → Script
reading input = script_at (drafted (opening input).lines).read (opening input).end
