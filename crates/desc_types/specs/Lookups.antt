-- What the words of a line mean over what was declared before it.
use Rattle.std.specs.Prelude.{ℕ, List, [], Option, Some, None, position, option_and_then}
use Rattle.std.specs.Prelude.{option_map, slice_get, if◌then◌else◌, codes}
use Rattle.std.specs.Str.{bytes_eq}
use Rattle.depot_cell.specs.declared.cell.Ty.{Ty}
use Rattle.depot_cell.specs.declared.cell.Ty.TheVariants as ty
use Rattle.desc_types.specs.declared.table.Column.{Column}
use Rattle.desc_types.specs.declared.table.Feed.{Feed}
use Rattle.desc_types.specs.Descriptions.{DescOf}
use Rattle.desc_types.specs.Tables.{TableOf}

-- the number of the feed with this name
abbrev pub find_feed : DescOf → List ℕ → Option ℕ
find_feed desc name = position (λ (feed : Feed). bytes_eq feed.name name) desc.feeds

-- the number of the table with this name
abbrev pub find_table : DescOf → List ℕ → Option ℕ
find_table desc name = position (λ (table : TableOf). bytes_eq table.name name) desc.tables

-- the number of the column with this name
abbrev pub find_column : List Column → List ℕ → Option ℕ
find_column columns name = position (λ (column : Column). bytes_eq column.name name) columns

-- the columns of a table, none if there is no table
abbrev pub columns_of : Option TableOf → List Column
columns_of None = []
columns_of (Some table) = table.columns

-- the columns of the table with this number
abbrev pub table_columns : DescOf → ℕ → List Column
table_columns desc number = columns_of (slice_get desc.tables number)

-- the table with this name
abbrev pub named_table : DescOf → List ℕ → Option TableOf
named_table desc name = option_and_then (slice_get desc.tables) (find_table desc name)

-- the columns of the table with this name
abbrev pub source_columns : DescOf → List ℕ → List Column
source_columns desc name = columns_of (named_table desc name)

-- a width of which each is a multiple, if there is no table
abbrev pub width_or_one : Option TableOf → ℕ
width_or_one None = 1
width_or_one (Some table) = table.width

-- the width of the table with this name
abbrev pub source_width : DescOf → List ℕ → ℕ
source_width desc name = width_or_one (named_table desc name)

-- the type of the column with this name
abbrev pub find_type : List Column → List ℕ → Option Ty
find_type columns name = option_map (λ (column : Column). column.ty)
    (option_and_then (slice_get columns) (find_column columns name))

-- the type that a word says
abbrev pub read_type : List ℕ → Option Ty
read_type word =
    if bytes_eq word (codes "int") then Some ty.Int
    else if bytes_eq word (codes "text") then Some ty.Text else None
