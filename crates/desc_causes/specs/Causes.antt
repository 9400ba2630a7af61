-- Why a line that has a shape is bad: a test for each cause, and the first one that holds.
use Rattle.std.specs.Prelude.{ℕ, List, [], ◌∷◌, ◌++◌, Option, Some, None, Bool, true, false}
use Rattle.std.specs.Prelude.{not, ◌==◌, ◌||◌, ◌+◌, ◌%◌, nat_le, nat_lt, if◌then◌else◌}
use Rattle.std.specs.Prelude.{length, map, is_some, is_none, codes, position, slice_get, option_and_then}
use Rattle.std.specs.Str.{bytes_eq}
use Rattle.std.specs.List.{list_any}
use Rattle.std.specs.Result.{result_ok}
use Rattle.depot_cell.specs.declared.cell.Ty.{Ty}
use Rattle.depot_cell.specs.declared.cell.Ty.TheVariants as ty
use Rattle.depot_cell.specs.Reading.{cell_of}
use Rattle.partition_map.specs.declared.time.Span.{Span}
use Rattle.partition_map.specs.Partitions.{is_fitting}
use Rattle.desc_lines.specs.declared.fun.Fun.{Fun}
use Rattle.desc_lines.specs.declared.fun.Fun.TheVariants as fun
use Rattle.desc_lines.specs.Names.{is_name}
use Rattle.desc_lines.specs.Written.{WrittenAggOf, WrittenColumnOf, WrittenCondOf, WrittenKindOf}
use Rattle.desc_lines.specs.Written.{WrittenLineOf, WrittenPairOf, WrittenSourceOf, WrittenTableOf}
use Rattle.desc_lines.specs.Written.{Raw, Filter, Group, Join, FeedLine, TableLine}
use Rattle.desc_causes.specs.declared.cause.DescCause.{DescCause}
use Rattle.desc_causes.specs.declared.cause.DescCause.TheVariants as cause
use Rattle.desc_types.specs.declared.table.Column.{Column}
use Rattle.desc_types.specs.Columns.{are_different}
use Rattle.desc_types.specs.Descriptions.{DescOf}
use Rattle.desc_types.specs.Lookups.{find_column, find_feed, find_table, find_type}
use Rattle.desc_types.specs.Lookups.{read_type, source_columns, source_width}
use Rattle.desc_causes.specs.Ticks.{read_span, read_width}

-- the sources of a table
abbrev pub sources : WrittenKindOf → List WrittenSourceOf
sources (Raw feed time columns) = []
sources (Filter source conds keep) = source ∷ []
sources (Group source keys aggs) = source ∷ []
sources (Join left right on) = left ∷ right ∷ []

-- the columns that are written for a table, by name: of a join none is
abbrev pub written_names : WrittenKindOf → List (List ℕ)
written_names (Raw feed time columns) = map (λ (column : WrittenColumnOf). column.name) columns
written_names (Filter source conds keep) = keep
written_names (Group source keys aggs) = keys ++ map (λ (agg : WrittenAggOf). agg.name) aggs
written_names (Join left right on) = []

-- whether a table gives a column a name that is none: a filter and a join give no names
abbrev pub gives_bad_name : WrittenKindOf → Bool
gives_bad_name (Raw feed time columns) =
    list_any (λ (column : WrittenColumnOf). not (is_name column.name)) columns
gives_bad_name (Filter source conds keep) = false
gives_bad_name (Group source keys aggs) =
    list_any (λ (agg : WrittenAggOf). not (is_name agg.name)) aggs
gives_bad_name (Join left right on) = false

-- BadName: a feed, a table, or a column that a table gives a name to, has none that is one
abbrev pub has_bad_name : WrittenTableOf → Bool
has_bad_name table = not (is_name table.name) || gives_bad_name table.kind

-- DoubleName: an earlier table has the name, or two columns that are written have one name
abbrev pub has_double_name : DescOf → WrittenTableOf → Bool
has_double_name desc table =
    is_some (find_table desc table.name) || not (are_different (written_names table.kind))

-- NoFeed: the feed of a raw table was not declared
abbrev pub lacks_feed : DescOf → WrittenKindOf → Bool
lacks_feed desc (Raw feed time columns) = is_none (find_feed desc feed)
lacks_feed desc _ = false

-- whether a source is no earlier table
abbrev pub is_absent : DescOf → WrittenSourceOf → Bool
is_absent desc source = is_none (find_table desc source.table)

-- NoSource: a source is no earlier table
abbrev pub lacks_source : DescOf → WrittenKindOf → Bool
lacks_source desc kind = list_any (is_absent desc) (sources kind)

-- the place of the column that a raw table declares with this name
abbrev pub written_place : List WrittenColumnOf → List ℕ → Option ℕ
written_place columns name =
    position (λ (column : WrittenColumnOf). bytes_eq column.name name) columns

-- whether no column has this name
abbrev pub lacks : List Column → List ℕ → Bool
lacks columns name = is_none (find_column columns name)

-- whether what may be of a column is of one that is not there
abbrev pub lacks_some : List Column → Option (List ℕ) → Bool
lacks_some columns None = false
lacks_some columns (Some name) = lacks columns name

-- whether a side of a pair is of no column
abbrev pub lacks_side : (left right : List Column) → WrittenPairOf → Bool
lacks_side left right pair = lacks left pair.left || lacks right pair.right

-- NoColumn: the time column is none of the new columns, or another column is not in its source
abbrev pub lacks_column : DescOf → WrittenKindOf → Bool
lacks_column desc (Raw feed time columns) = is_none (written_place columns time)
lacks_column desc (Filter source conds keep) =
    list_any (λ (cond : WrittenCondOf). lacks (source_columns desc source.table) cond.column) conds
    || list_any (lacks (source_columns desc source.table)) keep
lacks_column desc (Group source keys aggs) =
    list_any (lacks (source_columns desc source.table)) keys
    || list_any (λ (agg : WrittenAggOf). lacks_some (source_columns desc source.table) agg.column)
    aggs
lacks_column desc (Join left right on) = list_any
    (lacks_side (source_columns desc left.table) (source_columns desc right.table)) on

-- the type of the time column of a raw table
abbrev pub time_type : List WrittenColumnOf → (time : List ℕ) → Option Ty
time_type columns time = option_and_then (λ (column : WrittenColumnOf). read_type column.ty)
    (option_and_then (slice_get columns) (written_place columns time))

-- whether there is a type, and it is that of texts
abbrev pub is_text : Option Ty → Bool
is_text (Some ty.Text) = true
is_text _ = false

-- whether a word is no value of a column's type
abbrev pub is_odd_literal : Option Ty → List ℕ → Bool
is_odd_literal None literal = false
is_odd_literal (Some ty) literal = is_none (result_ok (cell_of ty literal))

-- whether an aggregate of a column of this type is a sum over texts
abbrev pub sums_texts : Fun → Option Ty → Bool
sums_texts fun.Sum (Some ty.Text) = true
sums_texts _ _ = false

-- whether two columns have two types
abbrev pub have_two_types : Option Ty → Option Ty → Bool
have_two_types (Some ty.Int) (Some ty.Text) = true
have_two_types (Some ty.Text) (Some ty.Int) = true
have_two_types _ _ = false

-- the type of the column that an aggregate is over, if it is over one
abbrev pub type_over : List Column → Option (List ℕ) → Option Ty
type_over columns None = None
type_over columns (Some name) = find_type columns name

-- whether a condition, an aggregate or a pair does not fit the types of its columns
abbrev pub has_odd_literal : List Column → WrittenCondOf → Bool
has_odd_literal columns cond = is_odd_literal (find_type columns cond.column) cond.literal

abbrev pub is_text_sum : List Column → WrittenAggOf → Bool
is_text_sum columns agg = sums_texts agg.fun (type_over columns agg.column)

abbrev pub is_odd_pair : (left right : List Column) → WrittenPairOf → Bool
is_odd_pair left right pair =
    have_two_types (find_type left pair.left) (find_type right pair.right)

-- BadType: a type is none, the time column is no int, a literal is not of its column's type, a sum
-- is over texts, or a pair has two types
abbrev pub has_bad_type : DescOf → WrittenKindOf → Bool
has_bad_type desc (Raw feed time columns) =
    list_any (λ (column : WrittenColumnOf). is_none (read_type column.ty)) columns
    || is_text (time_type columns time)
has_bad_type desc (Filter source conds keep) =
    list_any (has_odd_literal (source_columns desc source.table)) conds
has_bad_type desc (Group source keys aggs) =
    list_any (is_text_sum (source_columns desc source.table)) aggs
has_bad_type desc (Join left right on) = list_any
    (is_odd_pair (source_columns desc left.table) (source_columns desc right.table)) on

-- whether a width is no multiple of a source's
abbrev pub is_odd_width : DescOf → (width : ℕ) → WrittenSourceOf → Bool
is_odd_width desc width source = not ((width % source_width desc source.table) == 0)

-- BadWidth: the width is none, or no multiple of each source's width
abbrev pub has_bad_width : DescOf → Option ℕ → List WrittenSourceOf → Bool
has_bad_width desc None sources = true
has_bad_width desc (Some width) sources = list_any (is_odd_width desc width) sources

-- whether a source of this width may not be read over a span, in a view of that one
abbrev pub is_odd_span : (width source_width : ℕ) → Option Span → Bool
is_odd_span width source_width None = true
is_odd_span width source_width (Some span) = not (is_fitting width source_width span)

-- whether a source of a view of this width is not read over a span that fits
abbrev pub misfits : DescOf → (width : ℕ) → WrittenSourceOf → Bool
misfits desc width source =
    is_odd_span width (source_width desc source.table) (read_span source.lo source.hi)

-- BadSpan: an offset is none, or the span does not fit its source
abbrev pub has_bad_span : DescOf → Option ℕ → List WrittenSourceOf → Bool
has_bad_span desc None sources = false
has_bad_span desc (Some width) sources = list_any (misfits desc width) sources

-- how many columns a table has
abbrev pub count_columns : DescOf → WrittenKindOf → ℕ
count_columns desc (Raw feed time columns) = length columns
count_columns desc (Filter source conds keep) = length keep
count_columns desc (Group source keys aggs) = length keys + length aggs
count_columns desc (Join left right on) =
    length (source_columns desc left.table) + length (source_columns desc right.table)

-- whether there are more than 8 conditions, 4 keys or 4 pairs
abbrev pub has_many_parts : WrittenKindOf → Bool
has_many_parts (Raw feed time columns) = false
has_many_parts (Filter source conds keep) = nat_lt 8 (length conds)
has_many_parts (Group source keys aggs) = nat_lt 4 (length keys)
has_many_parts (Join left right on) = nat_lt 4 (length on)

-- TooMany: it makes more than 64 tables, 16 columns, 8 conditions, 4 keys or 4 pairs
abbrev pub makes_too_many : DescOf → WrittenKindOf → Bool
makes_too_many desc kind = nat_le 64 (length desc.tables) || nat_lt 16 (count_columns desc kind)
    || has_many_parts kind

-- the cause of the first test that holds
abbrev pub first_cause : List (Bool × DescCause) → Option DescCause
first_cause [] = None
first_cause ((holds, cause) ∷ others) = if holds then Some cause else first_cause others

-- the tests of a feed's line, in the order of the causes
abbrev pub feed_tests : DescOf → (name : List ℕ) → List (Bool × DescCause)
feed_tests desc name =
    (not (is_name name), cause.BadName)
    ∷ (is_some (find_feed desc name), cause.DoubleName)
    ∷ (nat_le 16 (length desc.feeds), cause.TooMany)
    ∷ []

-- the tests of a table's line, in the order of the causes
abbrev pub table_tests : DescOf → WrittenTableOf → List (Bool × DescCause)
table_tests desc table =
    (has_bad_name table, cause.BadName)
    ∷ (has_double_name desc table, cause.DoubleName)
    ∷ (lacks_feed desc table.kind, cause.NoFeed)
    ∷ (lacks_source desc table.kind, cause.NoSource)
    ∷ (lacks_column desc table.kind, cause.NoColumn)
    ∷ (has_bad_type desc table.kind, cause.BadType)
    ∷ (has_bad_width desc (read_width table.width) (sources table.kind), cause.BadWidth)
    ∷ (has_bad_span desc (read_width table.width) (sources table.kind), cause.BadSpan)
    ∷ (makes_too_many desc table.kind, cause.TooMany)
    ∷ []

-- why a line is bad after what was declared before it, if it is
abbrev pub cause_of : DescOf → WrittenLineOf → Option DescCause
cause_of desc (FeedLine name header) = first_cause (feed_tests desc name)
cause_of desc (TableLine table) = first_cause (table_tests desc table)

-- the text of a cause
abbrev pub cause_text : DescCause → List ℕ
cause_text cause.BadLine = codes "bad_line"
cause_text cause.BadName = codes "bad_name"
cause_text cause.DoubleName = codes "double_name"
cause_text cause.NoFeed = codes "no_feed"
cause_text cause.NoSource = codes "no_source"
cause_text cause.NoColumn = codes "no_column"
cause_text cause.BadType = codes "bad_type"
cause_text cause.BadWidth = codes "bad_width"
cause_text cause.BadSpan = codes "bad_span"
cause_text cause.TooMany = codes "too_many"
