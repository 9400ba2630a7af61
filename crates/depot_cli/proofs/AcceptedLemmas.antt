-- A reading that serves is accepted: `IsAccepted-reading`. Each line asks for what fits the
-- description, so each step does, and so does the journal.
use Rattle.std.proofs.Common.{◌≡◌, ℕ, zero, suc, ◌<◌, ◌≤◌, List, [], ◌∷◌, length}
use Rattle.std.proofs.Common.{Bool, true, false, refl, ap, subst, inl, inr, arith}
use Rattle.std.specs.Prelude.{Option, Some, None, Result, Ok, Err, All, ⊤, if◌then◌else◌}
use Rattle.std.specs.Prelude.{is_none, nat_lt, unwrap_or}
use Rattle.std.specs.Str.{bytes_eq}
use Rattle.std.proofs.lemmas.Bool.{cases_Bool, ltb-false}
use Rattle.std.proofs.lemmas.List.Elements.{All-cons, All-head, All-nil, All-tail}
use Rattle.std.proofs.lemmas.List.Quantifiers.{position-Some}
use Rattle.std.proofs.lemmas.Option.{option_and_then_some}
use Rattle.depot_cell.specs.Numbers.{number_of}
use Rattle.partition_map.specs.Time.{END}
use Rattle.desc_lines.specs.Words.{begins_comment, words}
use Rattle.desc_types.specs.declared.table.Feed.{Feed}
use Rattle.desc_types.specs.declared.delivery.DRow.{DRow}
use Rattle.table_desc.specs.declared.fault.BadLine.{BadLine}
use Rattle.desc_types.specs.Deliveries.{DeliveryOf}
use Rattle.desc_types.specs.Descriptions.{DescOf}
use Rattle.desc_types.specs.Accepted.{IsAccepted as IsAcceptedDesc}
use Rattle.table_desc.specs.Drafts.{drafted}
use Rattle.desc_types.specs.Lookups.{find_feed}
use Rattle.table_desc.proofs.DraftLemmas.{drafted-accepted}
use Rattle.desc_types.proofs.ServedLemmas.{accepted-served}
use Rattle.view_meaning.specs.declared.journal.Entry.{Entry}
use Rattle.view_meaning.specs.declared.journal.Entry.TheVariants as entry
use Rattle.view_meaning.specs.Journal.{FitsDelivery, FitsJournal, is_repeat}
use Rattle.view_meaning.proofs.FitLemmas.{FitsJournal-drained, FitsJournal-push}
use Rattle.query_pin.specs.declared.request.RequestFault.{RequestFault}
use Rattle.query_pin.specs.Requests.{request_fault}
use Rattle.feed_csv.specs.declared.fault.BadRecord.{BadRecord}
use Rattle.feed_csv.specs.Bodies.{delivery_of, delivery_with, rows_of}
use Rattle.feed_csv.proofs.RowLemmas.{rows_fit}
use Rattle.depot_script.specs.declared.body.BodySize.{BodySize}
use Rattle.depot_script.specs.declared.body.BodySize.TheVariants as body
use Rattle.depot_script.specs.declared.fault.CommandFault.{CommandFault}
use Rattle.depot_script.specs.declared.fault.CommandFault.TheVariants as fault
use Rattle.depot_script.specs.CommandValues.{CommandOf}
use Rattle.depot_script.specs.CommandValues as command
use Rattle.depot_script.specs.Commands.{body_size, command_of_words, command_said, feed_said}
use Rattle.depot_script.specs.Commands.{if_counted, line_command, number_said, unless_faulty}
use Rattle.depot_script.specs.Faults.{command_tests, first_fault, has_bad_level, has_bad_number}
use Rattle.depot_script.specs.Faults.{lacks_feed, lacks_table, number_to}
use Rattle.depot_script.specs.Written.{WrittenCommandOf, command_of, is_command}
use Rattle.depot_script.specs.Written as written
use Rattle.depot_cli.specs.declared.script.work.Work.{Work}
use Rattle.depot_cli.specs.declared.script.work.Work.TheVariants as work
use Rattle.depot_cli.specs.Items.{asked, asking, is_end, loading, work_of}
use Rattle.depot_cli.specs.Reading.{NextLine, NoLine, Unreadable, Line, NextBody, Unfinished, Body}
use Rattle.depot_cli.specs.Reading.{OpeningEnd, Go, Broken, Serving, Session, Step, Ends, Ended}
use Rattle.depot_cli.specs.Reading.{Does, body_due, body_step, line_due, line_step}
use Rattle.depot_cli.specs.Reading.{next_body, next_line, opening, sized_step}
use Rattle.depot_cli.specs.Reading.{script_at, session, session_at, session_from}
use Rattle.depot_cli.specs.Reading.{step_of}
use Rattle.depot_cli.specs.ScriptCalls.{FitsCommand, FitsLine, FitsNumbers}
use Rattle.depot_cli.specs.SerialJournal.{journal_after, serial}
use Rattle.depot_cli.specs.Acceptance.{HasAcceptedReadings, IsAccepted}

-- a delivery that is to be loaded fits, and so does each other item
abbrev FitsWork : DescOf → Work → Type 0
FitsWork desc work.Nothing = ⊤
FitsWork desc (work.Refused cause) = ⊤
FitsWork desc (work.Load delivery) = FitsDelivery desc delivery
FitsWork desc work.Drain = ⊤
FitsWork desc (work.Query items) = ⊤
FitsWork desc (work.Marks items) = ⊤
FitsWork desc (work.Aside feed) = ⊤
FitsWork desc work.Reclaim = ⊤

-- what a step does fits
abbrev FitsStep : DescOf → Step → Type 0
FitsStep desc (Ends end) = ⊤
FitsStep desc (Does item due taken rest) = FitsWork desc item

-- a number that is there is not over its limit
within_limit : (over : Bool) (found number : ℕ)
    → (if over then None else Some found) ≡ Some number → (over ≡ false) × (found ≡ number)
within_limit true found number made = cc
within_limit false found number made = (refl, cc)

-- a number up to a limit is no more than it
number_to-le : (limit number : ℕ) (word : List ℕ) → number_to limit word ≡ Some number
    → number ≤ limit
number_to-le limit number word read =
    option_and_then_some _ (number_of word) number read (λ found there made.
    let parts = within_limit (nat_lt limit found) found number made in
    subst (λ (number : ℕ). number ≤ limit) parts.1 (ltb-false limit found parts.0))

-- so is the number that a word says
number_said-le : (limit : ℕ) (word : List ℕ) → number_said limit word ≤ limit
number_said-le limit word = by_number (number_to limit word) refl
  where
    by_number : (number : Option ℕ) → number_to limit word ≡ number → unwrap_or number 0 ≤ limit
    by_number None read = omega arith
    by_number (Some number) read = number_to-le limit number word read

-- a feed that is not lacking is one of the description
feed_said-lt : (desc : DescOf) (feed : List ℕ) → is_none (find_feed desc feed) ≡ false
    → feed_said desc feed < length desc.feeds
feed_said-lt desc feed there = by_place (find_feed desc feed) refl there
  where
    by_place : (place : Option ℕ) → find_feed desc feed ≡ place → is_none place ≡ false
        → unwrap_or place 0 < length desc.feeds
    by_place None found there = cc
    by_place (Some place) found there =
        (position-Some (λ (its_feed : Feed). bytes_eq its_feed.name feed) desc.feeds place
        (record { name = []; header = false }) found).0

-- where no test holds, the third one does not
first_fault-third : (first second third : Bool) (one two three : CommandFault)
    (others : List (Bool × CommandFault))
    → first_fault ((first, one) ∷ (second, two) ∷ (third, three) ∷ others) ≡ None
    → third ≡ false
first_fault-third true second third one two three others none = cc
first_fault-third false true third one two three others none = cc
first_fault-third false false true one two three others none = cc
first_fault-third false false false one two three others none = refl

-- the numbers of a delivery fit if its feed is there
FitsNumbers-said : (desc : DescOf) (feed number closes : List ℕ)
    → is_none (find_feed desc feed) ≡ false
    → FitsNumbers desc (feed_said desc feed) (number_said 4294967295 number)
    (number_said END closes)
FitsNumbers-said desc feed number closes there = record {
  of_feed = feed_said-lt desc feed there;
  numbered = omega (arith, number_said-le 4294967295 number);
  in_time = number_said-le END closes;
}

-- the feed of a command against which no test speaks is there
has_feed : (desc : DescOf) (command : WrittenCommandOf)
    → first_fault (command_tests desc command) ≡ None → lacks_feed desc command ≡ false
has_feed desc command none =
    first_fault-third (has_bad_level command) (has_bad_number command) (lacks_feed desc command)
    fault.BadWord fault.BadNumber fault.NoFeed ((lacks_table desc command, fault.NoTable) ∷ []) none

-- a command against which no test speaks fits
FitsCommand-said : (desc : DescOf) (command : WrittenCommandOf)
    → first_fault (command_tests desc command) ≡ None
    → FitsCommand desc (command_said desc command)
FitsCommand-said desc (written.Deliver feed number closes size) none =
    FitsNumbers-said desc feed number closes
    (has_feed desc (written.Deliver feed number closes size) none)
FitsCommand-said desc written.Drain none = tt
FitsCommand-said desc (written.Query items) none = tt
FitsCommand-said desc (written.Marks item) none = tt
FitsCommand-said desc (written.Aside feed) none =
    feed_said-lt desc feed (has_feed desc (written.Aside feed) none)
FitsCommand-said desc written.Reclaim none = tt
FitsCommand-said desc written.End none = tt

-- so does one that its tests let through
FitsLine-unless_faulty : (desc : DescOf) (command : WrittenCommandOf) (cause : Option CommandFault)
    → first_fault (command_tests desc command) ≡ cause
    → FitsLine desc (unless_faulty desc command cause)
FitsLine-unless_faulty desc command None none = FitsCommand-said desc command none
FitsLine-unless_faulty desc command (Some cause) none = tt

-- the command of words fits
FitsLine-if_counted : (desc : DescOf) (command : Option WrittenCommandOf)
    → FitsLine desc (if_counted desc command)
FitsLine-if_counted desc None = tt
FitsLine-if_counted desc (Some command) =
    FitsLine-unless_faulty desc command (first_fault (command_tests desc command)) refl

-- of two lines that fit the one that a test takes fits
FitsLine-if : (desc : DescOf) (test : Bool) (first second : Result CommandOf CommandFault)
    → FitsLine desc first → FitsLine desc second
    → FitsLine desc (if test then first else second)
FitsLine-if desc true first second fits others = fits
FitsLine-if desc false first second fits others = others

-- what was read of a line's words fits
pub FitsLine-words : (desc : DescOf) (line : List (List ℕ)) → FitsLine desc (command_of_words desc line)
FitsLine-words desc [] = tt
FitsLine-words desc (first ∷ others) =
    FitsLine-if desc (begins_comment first) (Ok command.Nothing) _ tt
    (FitsLine-if desc (is_command first) (if_counted desc (command_of first others))
    (Err fault.BadWord) (FitsLine-if_counted desc (command_of first others)) tt)

-- a delivery whose rows were read fits
FitsWork-loading : (desc : DescOf) (feed number closes : ℕ) (body_ : List ℕ)
    (read : Result (List DRow) BadRecord)
    → IsAcceptedDesc desc → FitsNumbers desc feed number closes → rows_of desc feed body_ ≡ read
    → FitsWork desc (loading (delivery_with feed number closes read))
FitsWork-loading desc feed number closes body_ (Ok rows) accepted fits read =
    let are_rows = rows_fit desc feed body_ rows accepted read in
    record {
      of_feed = fits.of_feed;
      numbered = fits.numbered;
      in_time = fits.in_time;
      rows = are_rows.fit;
      from_one = are_rows.from_one;
      rising = are_rows.rising;
    }
FitsWork-loading desc feed number closes body_ (Err bad) accepted fits read = tt

-- so does a delivery that was read of a body
pub FitsDelivery-read : (desc : DescOf) (feed number closes : ℕ) (body_ : List ℕ)
    (delivery : DeliveryOf)
    → IsAcceptedDesc desc → FitsNumbers desc feed number closes
    → delivery_of desc feed number closes body_ ≡ Ok delivery
    → FitsDelivery desc delivery
FitsDelivery-read desc feed number closes body_ delivery accepted fits read =
    subst (FitsWork desc) (ap loading read)
    (FitsWork-loading desc feed number closes body_ (rows_of desc feed body_) accepted fits refl)

-- what a request asks for fits if that does
FitsWork-asking : (desc : DescOf) (its_work : Work) (cause : Option RequestFault)
    → FitsWork desc its_work → FitsWork desc (asking its_work cause)
FitsWork-asking desc its_work None fits = fits
FitsWork-asking desc its_work (Some cause) fits = tt

-- what a command that fits asks for fits
FitsWork-asked : (desc : DescOf) (its_command : CommandOf) (body_ : List ℕ)
    → IsAcceptedDesc desc → FitsCommand desc its_command
    → FitsWork desc (asked desc its_command body_)
FitsWork-asked desc command.Nothing body_ accepted fits = tt
FitsWork-asked desc (command.Deliver feed number closes size) body_ accepted fits =
    FitsWork-loading desc feed number closes body_ (rows_of desc feed body_) accepted fits refl
FitsWork-asked desc command.Drain body_ accepted fits = tt
FitsWork-asked desc (command.Query items) body_ accepted fits =
    FitsWork-asking desc (work.Query items) (request_fault desc items) tt
FitsWork-asked desc (command.Marks items) body_ accepted fits =
    FitsWork-asking desc (work.Marks items) (request_fault desc items) tt
FitsWork-asked desc (command.Aside feed) body_ accepted fits = tt
FitsWork-asked desc command.Reclaim body_ accepted fits = tt
FitsWork-asked desc command.End body_ accepted fits = tt

-- so does what a line asks for
FitsWork-work_of : (desc : DescOf) (read : Result CommandOf CommandFault) (body_ : List ℕ)
    → IsAcceptedDesc desc → FitsLine desc read → FitsWork desc (work_of desc read body_)
FitsWork-work_of desc (Err cause) body_ accepted fits = tt
FitsWork-work_of desc (Ok its_command) body_ accepted fits =
    FitsWork-asked desc its_command body_ accepted fits

-- what is done at a line without a body fits
FitsStep-bare : (desc : DescOf) (ends : Bool) (item : Work) (due taken : ℕ) (rest : List ℕ)
    → FitsWork desc item
    → FitsStep desc (if ends then Ends (Ended rest) else Does item due taken rest)
FitsStep-bare desc true item due taken rest fits = tt
FitsStep-bare desc false item due taken rest fits = fits

-- what is done at a body fits
FitsStep-body_step : (desc : DescOf) (base due taken size : ℕ)
    (read : Result CommandOf CommandFault) (next : NextBody)
    → IsAcceptedDesc desc → FitsLine desc read
    → FitsStep desc (body_step desc base due taken read size next)
FitsStep-body_step desc base due taken size read (Unfinished cause rest) accepted fits = tt
FitsStep-body_step desc base due taken size read (Body body_ rest) accepted fits =
    FitsWork-work_of desc read body_ accepted fits

-- what is done at a line that was read does
FitsStep-sized_step : (desc : DescOf) (base due taken : ℕ) (read : Result CommandOf CommandFault)
    (size : BodySize) (rest : List ℕ)
    → IsAcceptedDesc desc → FitsLine desc read
    → FitsStep desc (sized_step desc base due taken read size rest)
FitsStep-sized_step desc base due taken read body.NoBody rest accepted fits =
    FitsStep-bare desc (is_end read) (work_of desc read []) due taken rest
    (FitsWork-work_of desc read [] accepted fits)
FitsStep-sized_step desc base due taken read (body.Body size) rest accepted fits =
    FitsStep-body_step desc base (body_due due size rest) taken size read
    (next_body taken size rest) accepted fits
FitsStep-sized_step desc base due taken read body.TooBig rest accepted fits = tt

-- what is done at a line fits
FitsStep-line_step : (desc : DescOf) (base taken : ℕ) (bytes : List ℕ) (next : NextLine)
    → IsAcceptedDesc desc → FitsStep desc (line_step desc base taken bytes next)
FitsStep-line_step desc base taken bytes NoLine accepted = tt
FitsStep-line_step desc base taken bytes (Unreadable cause rest) accepted = tt
FitsStep-line_step desc base taken bytes (Line line rest) accepted =
    FitsStep-sized_step desc base (line_due bytes) _ (line_command desc line) (body_size line) rest
    accepted (FitsLine-words desc (words line))

-- so do the items that begin with a step, if the others fit
FitsWork-session_at : (desc : DescOf) (more : ℕ → List ℕ → Session) (step : Step)
    → ((taken : ℕ) (rest : List ℕ) → All (FitsWork desc) (more taken rest).items)
    → FitsStep desc step → All (FitsWork desc) (session_at more step).items
FitsWork-session_at desc more (Ends end) later fits = All-nil (FitsWork desc)
FitsWork-session_at desc more (Does item due taken rest) later fits =
    All-cons (FitsWork desc) item (more taken rest).items fits (later taken rest)

-- all items of a session fit
FitsWork-session_from : (desc : DescOf) (base turns taken : ℕ) (bytes : List ℕ)
    → IsAcceptedDesc desc → All (FitsWork desc) (session_from desc base turns taken bytes).items
FitsWork-session_from desc base zero taken bytes accepted = All-nil (FitsWork desc)
FitsWork-session_from desc base (suc turns) taken bytes accepted =
    FitsWork-session_at desc (session_from desc base turns) (step_of desc base taken bytes)
    (λ taken rest. FitsWork-session_from desc base turns taken rest accepted)
    (FitsStep-line_step desc base taken bytes (next_line taken bytes) accepted)

-- an item that fits leaves a journal that fits
FitsJournal-journal_after : (desc : DescOf) (journal : List Entry) (item : Work)
    → FitsJournal desc journal → FitsWork desc item
    → FitsJournal desc (journal_after desc journal item)
FitsJournal-journal_after desc journal work.Nothing fits also = fits
FitsJournal-journal_after desc journal (work.Refused cause) fits also = fits
FitsJournal-journal_after desc journal (work.Load delivery) fits also =
    elim (cases_Bool (is_repeat journal delivery)) [
      | inl repeat ↦ rw repeat fits
      | inr new ↦ rw new (FitsJournal-push desc journal (entry.Load delivery) fits also)
    ]
FitsJournal-journal_after desc journal work.Drain fits also = FitsJournal-drained desc journal fits
FitsJournal-journal_after desc journal (work.Query items) fits also = fits
FitsJournal-journal_after desc journal (work.Marks items) fits also = fits
FitsJournal-journal_after desc journal (work.Aside feed) fits also = fits
FitsJournal-journal_after desc journal work.Reclaim fits also = fits

-- so do all items
FitsJournal-serial : (desc : DescOf) (journal : List Entry) (items : List Work)
    → FitsJournal desc journal → All (FitsWork desc) items
    → FitsJournal desc (serial desc journal items)
FitsJournal-serial desc journal [] fits each = fits
FitsJournal-serial desc journal (item ∷ items) fits each =
    FitsJournal-serial desc (journal_after desc journal item) items
    (FitsJournal-journal_after desc journal item fits (All-head (FitsWork desc) item items each))
    (All-tail (FitsWork desc) item items each)

-- a session over an accepted description is accepted
IsAccepted-session : (desc : DescOf) (taken : ℕ) (rest : List ℕ) → IsAcceptedDesc desc
    → IsAccepted desc (session desc taken rest)
IsAccepted-session desc taken rest accepted = record {
  accepted = accepted;
  served = accepted-served desc accepted;
  fits = FitsJournal-serial desc [] _ (All-nil _)
      (FitsWork-session_from desc taken (suc (length rest)) 0 rest accepted);
}

-- of two scripts that are one the same is accepted
IsAccepted-same : (desc other : DescOf) (session_ other_session : Session)
    → Serving desc session_ ≡ Serving other other_session → IsAccepted desc session_
    → IsAccepted other other_session
IsAccepted-same desc other session_ other_session same accepted =
    let is_desc : desc ≡ other = cc in
    let is_session : session_ ≡ other_session = cc in
    let P : DescOf → Type 0 = λ desc. IsAccepted desc other_session in
    subst P is_desc (subst (IsAccepted desc) is_session accepted)

-- a script that serves is accepted, at the end of its description
IsAccepted-script_at : (read : Result DescOf BadLine) (end : OpeningEnd) (desc : DescOf)
    (session_ : Session)
    → ((made : DescOf) → read ≡ Ok made → IsAcceptedDesc made)
    → script_at read end ≡ Serving desc session_ → IsAccepted desc session_
IsAccepted-script_at read (Broken cause place rest) desc session_ accepted serves = absurd cc
IsAccepted-script_at (Err bad) (Go taken rest) desc session_ accepted serves = absurd cc
IsAccepted-script_at (Ok made) (Go taken rest) desc session_ accepted serves =
    IsAccepted-same made desc _ session_ serves
    (IsAccepted-session made taken rest (accepted made refl))

-- a reading that serves is accepted
pub IsAccepted-reading : HasAcceptedReadings
IsAccepted-reading input desc session_ serves =
    IsAccepted-script_at (drafted (opening input).lines).read (opening input).end desc session_
    (drafted-accepted (opening input).lines) serves
