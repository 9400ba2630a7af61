-- The command of a session line, or the first fault of the line.
use Rattle.std.specs.Prelude.{ℕ, List, [], ◌∷◌, Option, Some, None, Result, Ok, Err, map}
use Rattle.std.specs.Prelude.{if◌then◌else◌, codes, unwrap_or, nat_lt}
use Rattle.std.specs.Str.{bytes_eq}
use Rattle.depot_cell.specs.Numbers.{number_of}
use Rattle.partition_map.specs.Time.{END}
use Rattle.desc_lines.specs.Words.{begins_comment, words}
use Rattle.desc_types.specs.Descriptions.{DescOf}
use Rattle.desc_types.specs.Lookups.{find_feed, find_table}
use Rattle.view_meaning.specs.declared.request.Item.{Item}
use Rattle.view_meaning.specs.declared.request.Mark.TheVariants as mark
use Rattle.depot_script.specs.declared.fault.CommandFault.{CommandFault}
use Rattle.depot_script.specs.declared.fault.CommandFault.TheVariants as fault
use Rattle.depot_script.specs.declared.body.BodySize.{BodySize}
use Rattle.depot_script.specs.declared.body.BodySize.TheVariants as body
use Rattle.depot_script.specs.CommandValues.{CommandOf, Nothing, Deliver, Drain, Query, Marks, Aside}
use Rattle.depot_script.specs.CommandValues.{Reclaim, End}
use Rattle.depot_script.specs.Faults.{BODY_LIMIT, command_tests, first_fault, number_to, read_level}
use Rattle.depot_script.specs.Written.{WrittenCommandOf, WrittenItemOf, command_of, is_command}
use Rattle.depot_script.specs.Written as written

-- the number that a word says: 0 if it says none
abbrev pub number_said : (limit : ℕ) → List ℕ → ℕ
number_said limit word = unwrap_or (number_to limit word) 0

-- the number of the feed with this name, 0 if there is none
abbrev pub feed_said : DescOf → List ℕ → ℕ
feed_said desc name = unwrap_or (find_feed desc name) 0

-- an item of a query
abbrev pub item_said : DescOf → WrittenItemOf → Item
item_said desc item = record {
  table = unwrap_or (find_table desc item.table) 0;
  from = number_said END item.from;
  to = number_said END item.to;
  level = unwrap_or (read_level item.level) mark.Open;
}

-- the command that words say, if no test speaks against it
abbrev pub command_said : DescOf → WrittenCommandOf → CommandOf
command_said desc (written.Deliver feed number closes size) = Deliver (feed_said desc feed)
    (number_said 4294967295 number) (number_said END closes) (number_said BODY_LIMIT size)
command_said desc written.Drain = Drain
command_said desc (written.Query items) = Query (map (item_said desc) items)
command_said desc (written.Marks item) = Marks (item_said desc item ∷ [])
command_said desc (written.Aside feed) = Aside (feed_said desc feed)
command_said desc written.Reclaim = Reclaim
command_said desc written.End = End

-- a command, unless a test speaks against it
abbrev pub unless_faulty : DescOf → WrittenCommandOf → Option CommandFault
    → Result CommandOf CommandFault
unless_faulty desc command None = Ok (command_said desc command)
unless_faulty desc command (Some fault) = Err fault

-- the command of words, of which there have to be as many as it has
abbrev pub if_counted : DescOf → Option WrittenCommandOf → Result CommandOf CommandFault
if_counted desc None = Err fault.BadCount
if_counted desc (Some command) =
    unless_faulty desc command (first_fault (command_tests desc command))

-- the command of a line's words
abbrev pub command_of_words : DescOf → List (List ℕ) → Result CommandOf CommandFault
command_of_words desc [] = Ok Nothing
command_of_words desc (first ∷ others) =
    if begins_comment first then Ok Nothing
    else if is_command first then if_counted desc (command_of first others)
    else Err fault.BadWord

-- the command of a line, or its first fault
abbrev pub line_command : DescOf → List ℕ → Result CommandOf CommandFault
line_command desc line = command_of_words desc (words line)

-- how long the body after a line is, by the word that tells it
abbrev pub sized : Option ℕ → BodySize
sized None = body.NoBody
sized (Some bytes) = if nat_lt BODY_LIMIT bytes then body.TooBig else body.Body bytes

-- a body follows a line of five words that begins with `deliver` and ends with a number, whatever
-- else is wrong with it
abbrev pub size_of_words : List (List ℕ) → BodySize
size_of_words (first ∷ feed ∷ number ∷ closes ∷ size ∷ []) =
    if bytes_eq first (codes "deliver") then sized (number_of size) else body.NoBody
size_of_words _ = body.NoBody

-- the body after a line
abbrev pub body_size : List ℕ → BodySize
body_size line = size_of_words (words line)
