-- Why a session line is refused: a test for each fault, and the first one that holds.
use Rattle.std.specs.Prelude.{ℕ, List, [], ◌∷◌, Option, Some, None, Bool, false}
use Rattle.std.specs.Prelude.{◌||◌, nat_lt, if◌then◌else◌, codes, is_none, option_and_then}
use Rattle.std.specs.List.{list_any}
use Rattle.std.specs.Str.{bytes_eq}
use Rattle.depot_cell.specs.Numbers.{number_of}
use Rattle.partition_map.specs.Time.{END}
use Rattle.desc_types.specs.Descriptions.{DescOf}
use Rattle.desc_types.specs.Lookups.{find_feed, find_table}
use Rattle.view_meaning.specs.declared.request.Mark.{Mark}
use Rattle.view_meaning.specs.declared.request.Mark.TheVariants as mark
use Rattle.depot_script.specs.declared.fault.CommandFault.{CommandFault}
use Rattle.depot_script.specs.declared.fault.CommandFault.TheVariants as fault
use Rattle.depot_script.specs.Written.{WrittenCommandOf, WrittenItemOf}
use Rattle.depot_script.specs.Written.{Deliver, Query, Marks, Aside}

-- the most bytes of a body
abbrev pub BODY_LIMIT : ℕ
BODY_LIMIT = 16777216

-- a number up to a limit
abbrev pub number_to : (limit : ℕ) → List ℕ → Option ℕ
number_to limit word =
    option_and_then (λ number. if nat_lt limit number then None else Some number) (number_of word)

-- the items of a command
abbrev pub items : WrittenCommandOf → List WrittenItemOf
items (Query queried) = queried
items (Marks item) = item ∷ []
items _ = []

-- the level that an item asks for: open if it names none
abbrev pub read_level : Option (List ℕ) → Option Mark
read_level None = Some mark.Open
read_level (Some word) =
    if bytes_eq word (codes "closed") then Some mark.Closed
    else if bytes_eq word (codes "complete") then Some mark.Complete else None

-- whether a word is no number up to a limit
abbrev pub is_bad_number : (limit : ℕ) → List ℕ → Bool
is_bad_number limit word = is_none (number_to limit word)

-- BadWord: the level of an item is neither `closed` nor `complete`
abbrev pub has_bad_level : WrittenCommandOf → Bool
has_bad_level command =
    list_any (λ (item : WrittenItemOf). is_none (read_level item.level)) (items command)

-- whether a tick of an item is none
abbrev pub has_bad_tick : WrittenItemOf → Bool
has_bad_tick item = is_bad_number END item.from || is_bad_number END item.to

-- BadNumber: what has to be a number is none, or is out of its range
abbrev pub has_bad_number : WrittenCommandOf → Bool
has_bad_number (Deliver feed number closes size) =
    is_bad_number 4294967295 number || is_bad_number END closes
    || is_bad_number BODY_LIMIT size
has_bad_number command = list_any has_bad_tick (items command)

-- NoFeed: the feed was not declared
abbrev pub lacks_feed : DescOf → WrittenCommandOf → Bool
lacks_feed desc (Deliver feed number closes size) = is_none (find_feed desc feed)
lacks_feed desc (Aside feed) = is_none (find_feed desc feed)
lacks_feed desc _ = false

-- NoTable: a table of an item was not declared
abbrev pub lacks_table : DescOf → WrittenCommandOf → Bool
lacks_table desc command =
    list_any (λ (item : WrittenItemOf). is_none (find_table desc item.table)) (items command)

-- the fault of the first test that holds
abbrev pub first_fault : List (Bool × CommandFault) → Option CommandFault
first_fault [] = None
first_fault ((holds, fault) ∷ others) = if holds then Some fault else first_fault others

-- the tests of a command with the right number of words, in the order of the faults
abbrev pub command_tests : DescOf → WrittenCommandOf → List (Bool × CommandFault)
command_tests desc command =
    (has_bad_level command, fault.BadWord)
    ∷ (has_bad_number command, fault.BadNumber)
    ∷ (lacks_feed desc command, fault.NoFeed)
    ∷ (lacks_table desc command, fault.NoTable)
    ∷ []

-- the word of a fault
abbrev pub fault_text : CommandFault → List ℕ
fault_text fault.BadWord = codes "bad_word"
fault_text fault.BadCount = codes "bad_count"
fault_text fault.BadNumber = codes "bad_number"
fault_text fault.NoFeed = codes "no_feed"
fault_text fault.NoTable = codes "no_table"
