-- What a line declares, if nothing speaks against it. Where something does, numbers are 0.
use Rattle.std.specs.Prelude.{ℕ, pos, List, [], ◌∷◌, ◌++◌, Option, Some, None, map}
use Rattle.std.specs.Prelude.{filter_map, option_map, unwrap_or, length, All, ◌≡◌, ◌≤◌, true}
use Rattle.std.specs.Result.{result_ok}
use Rattle.depot_cell.specs.declared.cell.Cell.{Cell}
use Rattle.depot_cell.specs.declared.cell.Ty.{Ty}
use Rattle.depot_cell.specs.declared.cell.Ty.TheVariants as ty
use Rattle.depot_cell.specs.Reading.{cell_of}
use Rattle.partition_map.specs.declared.time.Span.{Span}
use Rattle.desc_lines.specs.Names.{is_name}
use Rattle.desc_lines.specs.Written.{WrittenAggOf, WrittenColumnOf, WrittenCondOf, WrittenKindOf}
use Rattle.desc_lines.specs.Written.{WrittenLineOf, WrittenPairOf, WrittenSourceOf, WrittenTableOf}
use Rattle.desc_lines.specs.Written.{Raw, Filter, Group, Join, FeedLine, TableLine}
use Rattle.desc_types.specs.declared.table.Column.{Column}
use Rattle.desc_types.specs.declared.table.Feed.{Feed}
use Rattle.desc_types.specs.declared.view.Agg.{Agg}
use Rattle.desc_types.specs.declared.view.Cond.{Cond}
use Rattle.desc_types.specs.declared.view.Pair.{Pair}
use Rattle.desc_types.specs.declared.view.Src.{Src}
use Rattle.desc_types.specs.KindValues as kind
use Rattle.desc_types.specs.KindValues.{KindOf}
use Rattle.desc_causes.specs.Causes.{written_place}
use Rattle.desc_types.specs.Columns.{agg_type, joined_columns, kept_columns}
use Rattle.desc_types.specs.Descriptions.{DescOf}
use Rattle.desc_types.specs.Tables.{TableOf}
use Rattle.desc_types.specs.Lookups.{find_column, find_feed, find_table, find_type}
use Rattle.desc_types.specs.Lookups.{read_type, source_columns}
use Rattle.desc_causes.specs.Ticks.{read_span, read_width}

-- the number that was found
abbrev pub found : Option ℕ → ℕ
found number = unwrap_or number 0

-- the number of the column with this name
abbrev pub column_number : List Column → List ℕ → ℕ
column_number columns name = found (find_column columns name)

-- a column of a raw table
abbrev pub declared_column : WrittenColumnOf → Column
declared_column column = record { name = column.name; ty = unwrap_or (read_type column.ty) ty.Int }

-- the number of the column that a raw table declares with this name
abbrev pub time_number : List WrittenColumnOf → (time : List ℕ) → ℕ
time_number columns time = found (written_place columns time)

-- the span of just a partition's own ticks
abbrev pub own_ticks : Span
own_ticks = record { lo = pos 0; hi = pos 0 }

-- a source of a view
abbrev pub declared_source : DescOf → WrittenSourceOf → Src
declared_source desc source = record {
  table = found (find_table desc source.table);
  span = unwrap_or (read_span source.lo source.hi) own_ticks;
}

-- the value that a word is for a column of this type
abbrev pub value_of : Option Ty → List ℕ → Option Cell
value_of None literal = None
value_of (Some ty) literal = result_ok (cell_of ty literal)

-- a condition on the rows of a source with these columns
abbrev pub declared_cond : List Column → WrittenCondOf → Option Cond
declared_cond columns cond = option_map (λ value. record {
  column = column_number columns cond.column;
  op = cond.op;
  value = value;
}) (value_of (find_type columns cond.column) cond.literal)

-- the number of the column that an aggregate is over: 0 for a count, which is over none
abbrev pub number_over : List Column → Option (List ℕ) → ℕ
number_over columns None = 0
number_over columns (Some name) = column_number columns name

-- an aggregate over a source with these columns
abbrev pub declared_agg : List Column → WrittenAggOf → Agg
declared_agg columns agg = record { fun = agg.fun; column = number_over columns agg.column }

-- a pair of a join
abbrev pub declared_pair : (left right : List Column) → WrittenPairOf → Pair
declared_pair left right pair = record {
  left = column_number left pair.left;
  right = column_number right pair.right;
}

-- the column that an aggregate makes
abbrev pub agg_column : List Column → WrittenAggOf → Column
agg_column columns agg =
    record { name = agg.name; ty = agg_type columns (declared_agg columns agg) }

-- a column whose name leaves room for a prefix
abbrev pub LeavesRoom : Column → Type 0
LeavesRoom column = length column.name ≤ 253

-- what fills a table, and the columns that it has
pub record FillingOf : Type 0 where
  pub columns : List Column
  pub kind : KindOf

-- a filter over a source with these columns
abbrev pub declared_filter : List Column → Src → List WrittenCondOf → (keep : List ℕ) → FillingOf
declared_filter columns source conds keep = record {
  columns = kept_columns columns keep;
  kind = kind.Filter source (filter_map (declared_cond columns) conds) keep;
}

-- a group of a source with these columns
abbrev pub declared_group : List Column → Src → (keys : List ℕ) → List WrittenAggOf → FillingOf
declared_group columns source keys aggs = record {
  columns = kept_columns columns keys ++ map (agg_column columns) aggs;
  kind = kind.Group source keys (map (declared_agg columns) aggs);
}

-- a join of sources with these columns
abbrev pub declared_join : (left right : List Column) → Src → Src → List WrittenPairOf → FillingOf
declared_join left right left_source right_source on = record {
  columns = joined_columns left right;
  kind = kind.Join left_source right_source (map (declared_pair left right) on);
}

-- what has to be so of a raw table, a filter, a group and a join before it can be made: numbers are
-- small, and names are short
pub record IsReadyRaw (desc : DescOf) (columns : List WrittenColumnOf) : Type 0 where
  pub feeds : length desc.feeds ≤ 16
  pub few : length columns ≤ 16
  pub named : All (λ (column : WrittenColumnOf). is_name column.name ≡ true) columns

pub record IsReadySource (desc : DescOf) (source : WrittenSourceOf) : Type 0 where
  pub tables : length desc.tables ≤ 64
  pub few : length (source_columns desc source.table) ≤ 16
  pub room : All LeavesRoom (source_columns desc source.table)

pub record IsReadyGroup (desc : DescOf) (source : WrittenSourceOf) (aggs : List WrittenAggOf)
    : Type 0 where
  pub ready : IsReadySource desc source
  pub named : All (λ (agg : WrittenAggOf). is_name agg.name ≡ true) aggs

abbrev pub IsReady : DescOf → WrittenKindOf → Type 0
IsReady desc (Raw feed time columns) = IsReadyRaw desc columns
IsReady desc (Filter source conds keep) = IsReadySource desc source
IsReady desc (Group source keys aggs) = IsReadyGroup desc source aggs
IsReady desc (Join left right on) = IsReadySource desc left × IsReadySource desc right

-- what fills a table that a line declares
abbrev pub declared_filling : DescOf → WrittenKindOf → FillingOf
declared_filling desc (Raw feed time columns) = record {
  columns = map declared_column columns;
  kind = kind.Raw (found (find_feed desc feed)) (time_number columns time);
}
declared_filling desc (Filter source conds keep) = declared_filter
    (source_columns desc source.table) (declared_source desc source) conds
    (map (column_number (source_columns desc source.table)) keep)
declared_filling desc (Group source keys aggs) = declared_group
    (source_columns desc source.table) (declared_source desc source)
    (map (column_number (source_columns desc source.table)) keys) aggs
declared_filling desc (Join left right on) = declared_join
    (source_columns desc left.table) (source_columns desc right.table)
    (declared_source desc left) (declared_source desc right) on

-- a table of this name and width, that is filled so
abbrev pub filled : (name : List ℕ) → (width : ℕ) → FillingOf → TableOf
filled name width filling = record {
  name = name;
  columns = filling.columns;
  width = width;
  kind = filling.kind;
}

-- the table that a line declares
abbrev pub declared_table : DescOf → WrittenTableOf → TableOf
declared_table desc table = filled table.name (unwrap_or (read_width table.width) 1)
    (declared_filling desc table.kind)

-- a description with one feed more
abbrev pub with_feed : DescOf → Feed → DescOf
with_feed desc feed = record desc { feeds = desc.feeds ++ feed ∷ [] }

-- a description with one table more
abbrev pub with_table : DescOf → TableOf → DescOf
with_table desc table = record desc { tables = desc.tables ++ table ∷ [] }

-- a description with what a line declares
abbrev pub with_declared : DescOf → WrittenLineOf → DescOf
with_declared desc (FeedLine name header) =
    with_feed desc (record { name = name; header = header })
with_declared desc (TableLine table) = with_table desc (declared_table desc table)
