-- The canonical text of a description, which declares it again.
use Rattle.std.specs.Prelude.{ℕ, ◌≡◌, List, [], ◌∷◌, ◌++◌, Option, Some, None, Ok, codes, map}
use Rattle.std.specs.Prelude.{drop, flat_map, length, option_map, slice_get}
use Rattle.std.specs.Fmt.{decimal, signed_decimal}
use Rattle.depot_cell.specs.declared.cell.Ty.{Ty}
use Rattle.depot_cell.specs.declared.cell.Ty.TheVariants as ty
use Rattle.depot_cell.specs.Spelling.{text_of}
use Rattle.desc_lines.specs.declared.fun.Fun.{Fun}
use Rattle.desc_lines.specs.declared.fun.Fun.TheVariants as fun
use Rattle.desc_lines.specs.LineTexts.{line_text}
use Rattle.desc_lines.specs.Written.{WrittenAggOf, WrittenColumnOf, WrittenCondOf, WrittenKindOf}
use Rattle.desc_lines.specs.Written.{WrittenLineOf, WrittenPairOf, WrittenSourceOf, WrittenTableOf}
use Rattle.desc_lines.specs.Written as written
use Rattle.desc_types.specs.declared.table.Column.{Column}
use Rattle.desc_types.specs.declared.table.Feed.{Feed}
use Rattle.desc_types.specs.declared.view.Agg.{Agg}
use Rattle.desc_types.specs.declared.view.Cond.{Cond}
use Rattle.desc_types.specs.declared.view.Pair.{Pair}
use Rattle.desc_types.specs.declared.view.Src.{Src}
use Rattle.table_desc.specs.Described.{described}
use Rattle.desc_types.specs.Accepted.{IsAccepted}
use Rattle.desc_types.specs.Descriptions.{DescOf}
use Rattle.desc_types.specs.KindValues.{KindOf, Raw, Filter, Group, Join}
use Rattle.desc_types.specs.Lookups.{table_columns}
use Rattle.desc_types.specs.Tables.{TableOf}

-- a name, if there is one
abbrev pub or_nothing : Option (List ℕ) → List ℕ
or_nothing None = []
or_nothing (Some name) = name

-- the name of the feed, the table or the column with a number
abbrev pub feed_name : DescOf → ℕ → List ℕ
feed_name desc number =
    or_nothing (option_map (λ (feed : Feed). feed.name) (slice_get desc.feeds number))

abbrev pub table_name : DescOf → ℕ → List ℕ
table_name desc number =
    or_nothing (option_map (λ (table : TableOf). table.name) (slice_get desc.tables number))

abbrev pub column_name : List Column → ℕ → List ℕ
column_name columns number =
    or_nothing (option_map (λ (column : Column). column.name) (slice_get columns number))

-- the word of a type
abbrev pub type_word : Ty → List ℕ
type_word ty.Int = codes "int"
type_word ty.Text = codes "text"

-- a column of a raw table, in words
abbrev pub column_spelled : Column → WrittenColumnOf
column_spelled column = record { name = column.name; ty = type_word column.ty }

-- a source, in words
abbrev pub source_spelled : DescOf → Src → WrittenSourceOf
source_spelled desc source = record {
  table = table_name desc source.table;
  lo = signed_decimal source.span.lo;
  hi = signed_decimal source.span.hi;
}

-- a condition on the rows of a source with these columns, in words
abbrev pub cond_spelled : List Column → Cond → WrittenCondOf
cond_spelled columns cond = record {
  column = column_name columns cond.column;
  op = cond.op;
  literal = text_of cond.value;
}

-- the column that an aggregate is over, if it is over one, in words
abbrev pub over_spelled : List Column → Fun → (column : ℕ) → Option (List ℕ)
over_spelled columns fun.Count column = None
over_spelled columns _ column = Some (column_name columns column)

-- aggregates of a source with these columns, in words: each has the name of its own column
abbrev pub aggs_spelled : List Column → (own : List Column) → List Agg → List WrittenAggOf
aggs_spelled columns (own ∷ owns) (agg ∷ aggs) =
    record { fun = agg.fun; column = over_spelled columns agg.fun agg.column; name = own.name }
    ∷ aggs_spelled columns owns aggs
aggs_spelled columns _ _ = []

-- a pair of a join, in words
abbrev pub pair_spelled : (left right : List Column) → Pair → WrittenPairOf
pair_spelled left right pair =
    record { left = column_name left pair.left; right = column_name right pair.right }

-- what fills a table with these columns, in words
abbrev pub kind_spelled : DescOf → (own : List Column) → KindOf → WrittenKindOf
kind_spelled desc own (Raw feed time) =
    written.Raw (feed_name desc feed) (column_name own time) (map column_spelled own)
kind_spelled desc own (Filter source conds keep) = written.Filter (source_spelled desc source)
    (map (cond_spelled (table_columns desc source.table)) conds)
    (map (column_name (table_columns desc source.table)) keep)
kind_spelled desc own (Group source keys aggs) = written.Group (source_spelled desc source)
    (map (column_name (table_columns desc source.table)) keys)
    (aggs_spelled (table_columns desc source.table) (drop (length keys) own) aggs)
kind_spelled desc own (Join left right on) = written.Join
    (source_spelled desc left) (source_spelled desc right)
    (map (pair_spelled (table_columns desc left.table) (table_columns desc right.table)) on)

-- a table, in words
abbrev pub table_spelled : DescOf → TableOf → WrittenTableOf
table_spelled desc table = record {
  name = table.name;
  width = decimal table.width;
  kind = kind_spelled desc table.columns table.kind;
}

-- the line of a feed
abbrev pub feed_line : Feed → WrittenLineOf
feed_line feed = written.FeedLine feed.name feed.header

-- the line of a table
abbrev pub table_line : DescOf → TableOf → WrittenLineOf
table_line desc table = written.TableLine (table_spelled desc table)

-- the lines of a description: those of the feeds, then those of the tables
abbrev pub written_lines : DescOf → List WrittenLineOf
written_lines desc = map feed_line desc.feeds ++ map (table_line desc) desc.tables

-- the canonical text of a description
abbrev pub canonical : DescOf → List ℕ
canonical desc = flat_map line_text (written_lines desc)

-- an accepted description is declared by its canonical text again
abbrev pub DeclaresAgain : Type 0
DeclaresAgain = (desc : DescOf) → IsAccepted desc → described (canonical desc) ≡ Ok desc
