-- What a request may ask for, and which test refuses it.
use Rattle.std.specs.Prelude.{ℕ, ◌+◌, List, [], ◌∷◌, Option, Some, None, Bool, ◌||◌, nat_le, nat_lt}
use Rattle.std.specs.Prelude.{codes, if◌then◌else◌, length}
use Rattle.std.specs.List.{list_any}
use Rattle.partition_map.specs.Time.{END}
use Rattle.partition_map.specs.Partitions.{parts_met}
use Rattle.desc_types.specs.Descriptions.{DescOf}
use Rattle.desc_types.specs.Sources.{table_width}
use Rattle.view_meaning.specs.declared.request.Item.{Item}
use Rattle.query_pin.specs.declared.request.RequestFault.{RequestFault}
use Rattle.query_pin.specs.declared.request.RequestFault.TheVariants as fault

-- the most partitions of a request, those of all its items together
abbrev pub PARTS_LIMIT : ℕ
PARTS_LIMIT = 65536

-- whether there is no table of the item's number
abbrev pub lacks_table : DescOf → Item → Bool
lacks_table desc item = nat_le (length desc.tables) item.table

-- whether an item begins after its end, or ends after the end of time
abbrev pub is_bad_range : Item → Bool
is_bad_range item = nat_lt item.to item.from || nat_lt END item.to

-- how many partitions an item asks for: those that share a tick with it
abbrev pub count_asked : DescOf → Item → ℕ
count_asked desc item = length (parts_met (table_width desc item.table) item.from item.to)

-- how many partitions items ask for: one that two items ask for counts twice
abbrev pub count_all : DescOf → List Item → ℕ
count_all desc [] = 0
count_all desc (item ∷ items) = count_asked desc item + count_all desc items

-- why a request is refused, if it is: the first test that holds
abbrev pub request_fault : DescOf → List Item → Option RequestFault
request_fault desc items =
    if list_any (lacks_table desc) items then Some fault.NoTable
    else if list_any is_bad_range items then Some fault.BadRange
    else if nat_lt PARTS_LIMIT (count_all desc items) then Some fault.TooWide else None

-- the word of a fault
abbrev pub fault_text : RequestFault → List ℕ
fault_text fault.NoTable = codes "no_table"
fault_text fault.BadRange = codes "bad_range"
fault_text fault.TooWide = codes "too_wide"
