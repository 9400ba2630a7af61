-- What a description has that was read.
use Rattle.std.specs.Prelude.{ℕ, ◌≡◌, ◌<◌, ◌≤◌, ◌+◌, ◌*◌, ⊤, List, Option, Some, true, false}
use Rattle.std.specs.Prelude.{length, map, take, drop, option_map, slice_get, unsigned_abs, All}
use Rattle.std.specs.Prelude.{IsSomeAnd}
use Rattle.std.specs.Str.{bytes_eq}
use Rattle.std.specs.List.{list_all, list_any}
use Rattle.depot_cell.specs.declared.cell.Cell.{Cell}
use Rattle.depot_cell.specs.declared.cell.Cell.TheVariants.{Int, Text}
use Rattle.depot_cell.specs.Reading.{IsCellOf}
use Rattle.depot_cell.specs.declared.cell.Ty.{Ty}
use Rattle.depot_cell.specs.declared.cell.Ty.TheVariants as ty
use Rattle.partition_map.specs.declared.time.Span.{Span}
use Rattle.partition_map.specs.Partitions.{SpanFits}
use Rattle.partition_map.specs.Time.{END, IsWidth}
use Rattle.desc_lines.specs.declared.fun.Fun.{Fun}
use Rattle.desc_lines.specs.declared.fun.Fun.TheVariants as fun
use Rattle.desc_lines.specs.Names.{begins_name, is_name, is_name_byte, reserved}
use Rattle.desc_lines.specs.Words.{IsWord, Lacks}
use Rattle.desc_types.specs.declared.table.Column.{Column}
use Rattle.desc_types.specs.declared.table.Feed.{Feed}
use Rattle.desc_types.specs.declared.view.Agg.{Agg}
use Rattle.desc_types.specs.declared.view.Cond.{Cond}
use Rattle.desc_types.specs.declared.view.Pair.{Pair}
use Rattle.desc_types.specs.declared.view.Src.{Src}
use Rattle.desc_types.specs.Columns.{are_different}
use Rattle.desc_types.specs.Columns.{agg_type, joined_columns, kept_columns}
use Rattle.desc_types.specs.Descriptions.{DescOf}
use Rattle.desc_types.specs.KindValues.{KindOf, Raw, Filter, Group, Join}
use Rattle.desc_types.specs.Lookups.{table_columns}
use Rattle.desc_types.specs.Sources.{kind_sources, table_width}
use Rattle.desc_types.specs.Tables.{TableOf}

-- the names of columns
abbrev pub column_names : List Column → List (List ℕ)
column_names columns = map (λ (column : Column). column.name) columns

-- the types of columns
abbrev pub column_types : List Column → List Ty
column_types columns = map (λ (column : Column). column.ty) columns

-- the type of the column with this number
abbrev pub column_type : List Column → ℕ → Option Ty
column_type columns number = option_map (λ (column : Column). column.ty) (slice_get columns number)

-- what names a column of the table with this number: a name, except that it may be longer, since
-- each join puts a prefix of two bytes before the names of its sources
pub record NamesColumn (number : ℕ) (name : List ℕ) : Type 0 where
  pub begins : begins_name name ≡ true
  pub bytes : list_all is_name_byte name ≡ true
  pub free : list_any (bytes_eq name) reserved ≡ false
  pub short : length name ≤ 32 + 2 * number

-- a column with a name that a line gave it
abbrev pub IsNamed : Column → Type 0
IsNamed column = is_name column.name ≡ true

-- a raw table: of a feed that there is, with an int column for the time
pub record IsRaw (desc : DescOf) (columns : List Column) (feed time : ℕ) : Type 0 where
  pub declared : feed < length desc.feeds
  pub int : column_type columns time ≡ Some ty.Int
  pub named : All IsNamed columns

-- a text that is a word of a line
pub record IsLineWord (text : List ℕ) : Type 0 where
  pub word : IsWord text
  pub whole : Lacks 10 text

-- a value that a line can say: each int, and a text that is a word of it
abbrev pub IsSaid : Cell → Type 0
IsSaid (Int number) = ⊤
IsSaid (Text bytes) = IsLineWord bytes

-- a condition: its value is one of the column that it compares, and a line can say it
pub record IsCond (columns : List Column) (cond : Cond) : Type 0 where
  pub typed : IsSomeAnd (column_type columns cond.column) (λ ty. IsCellOf ty cond.value)
  pub said : IsSaid cond.value

-- what is computed of a column: a sum of ints, and a count of none
abbrev pub Computes : Fun → List Column → (column : ℕ) → Type 0
Computes fun.Sum columns column = column_type columns column ≡ Some ty.Int
Computes fun.Count columns column = column ≡ 0
Computes fun.Least columns column = column < length columns
Computes fun.Greatest columns column = column < length columns

-- a pair: its columns are there and have one type
abbrev pub IsPair : (left right : List Column) → Pair → Type 0
IsPair left right pair = IsSomeAnd (column_type left pair.left)
    (λ ty. column_type right pair.right ≡ Some ty)

-- a filter: 1 to 8 conditions, and columns of the source that are kept
pub record IsFilter (source columns : List Column) (conds : List Cond) (keep : List ℕ)
    : Type 0 where
  pub some : 0 < length conds
  pub few : length conds ≤ 8
  pub each_cond : All (IsCond source) conds
  pub each_kept : All (λ number. number < length source) keep
  pub kept : columns ≡ kept_columns source keep

-- a group: 1 to 4 keys, at least one aggregate, and a column for each
pub record IsGroup (source columns : List Column) (keys : List ℕ) (aggs : List Agg)
    : Type 0 where
  pub some_keys : 0 < length keys
  pub few_keys : length keys ≤ 4
  pub each_key : All (λ number. number < length source) keys
  pub some_aggs : 0 < length aggs
  pub each_agg : All (λ (agg : Agg). Computes agg.fun source agg.column) aggs
  pub key_columns : take (length keys) columns ≡ kept_columns source keys
  pub agg_columns : column_types (drop (length keys) columns) ≡ map (agg_type source) aggs
  pub named : All IsNamed (drop (length keys) columns)

-- a join: 1 to 4 pairs, and the columns of both sources
pub record IsJoin (left right columns : List Column) (on : List Pair) : Type 0 where
  pub some : 0 < length on
  pub few : length on ≤ 4
  pub each_pair : All (IsPair left right) on
  pub joined : columns ≡ joined_columns left right

-- what fills a table with these columns
abbrev pub IsKind : DescOf → (columns : List Column) → KindOf → Type 0
IsKind desc columns (Raw feed time) = IsRaw desc columns feed time
IsKind desc columns (Filter source conds keep) =
    IsFilter (table_columns desc source.table) columns conds keep
IsKind desc columns (Group source keys aggs) =
    IsGroup (table_columns desc source.table) columns keys aggs
IsKind desc columns (Join left right on) =
    IsJoin (table_columns desc left.table) (table_columns desc right.table) columns on

-- a span that a line can say: no offset has more ticks than there are
pub record IsSaidSpan (span : Span) : Type 0 where
  pub lo : unsigned_abs span.lo ≤ END
  pub hi : unsigned_abs span.hi ≤ END

-- a source of the table with this number and width: an earlier table, over a span that fits and
-- that a line can say
pub record IsSource (desc : DescOf) (number width : ℕ) (source : Src) : Type 0 where
  pub earlier : source.table < number
  pub fits : SpanFits width (table_width desc source.table) source.span
  pub said : IsSaidSpan source.span

-- the table with this number: it has 1 to 16 columns that go by different names, a width, sources
-- and what fills it
pub record IsTable (desc : DescOf) (number : ℕ) (table : TableOf) : Type 0 where
  pub some : 0 < length table.columns
  pub few : length table.columns ≤ 16
  pub named : All (λ (column : Column). NamesColumn number column.name) table.columns
  pub different : are_different (column_names table.columns) ≡ true
  pub width : IsWidth table.width
  pub sources : All (IsSource desc number table.width) (kind_sources table.kind)
  pub kind : IsKind desc table.columns table.kind

-- names that differ
pub record AreNames (names : List (List ℕ)) : Type 0 where
  pub each : All (λ name. is_name name ≡ true) names
  pub different : are_different names ≡ true

-- a description that was read: at most 16 feeds and 64 tables, whose names are names and differ
pub record IsAccepted (desc : DescOf) : Type 0 where
  pub feeds : length desc.feeds ≤ 16
  pub tables : length desc.tables ≤ 64
  pub feed_names : AreNames (map (λ (feed : Feed). feed.name) desc.feeds)
  pub table_names : AreNames (map (λ (table : TableOf). table.name) desc.tables)
  pub each : (number : ℕ) (table : TableOf) → slice_get desc.tables number ≡ Some table
      → IsTable desc number table
