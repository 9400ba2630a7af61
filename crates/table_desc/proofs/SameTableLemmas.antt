-- The line of a table declares the table again: `declared_table-spelled`.
use Rattle.std.proofs.Common.{◌≡◌, ℕ, suc, ◌<◌, ◌≤◌, ◌+◌, ◌++◌, List, [], ◌∷◌, Option, Some, None}
use Rattle.std.proofs.Common.{true, length, map, take, drop, refl, ap, arith, sym}
use Rattle.std.specs.Prelude.{All, IsSomeAnd, slice_get, filter_map}
use Rattle.std.proofs.lemmas.List.{take-append-drop, take_more}
use Rattle.std.proofs.lemmas.List.Elements.{All-weaker}
use Rattle.std.proofs.lemmas.Option.{get_or_from_slice_get, slice_get-map, slice_get_within}
use Rattle.depot_cell.specs.declared.cell.Ty.{Ty}
use Rattle.depot_cell.specs.declared.cell.Ty.TheVariants as ty
use Rattle.depot_cell.specs.Reading.{IsCellOf}
use Rattle.desc_lines.specs.declared.fun.Fun.{Fun}
use Rattle.desc_lines.specs.declared.fun.Fun.TheVariants as fun
use Rattle.desc_lines.specs.Written.{WrittenAggOf, WrittenColumnOf}
use Rattle.desc_types.specs.declared.table.Column.{Column}
use Rattle.desc_types.specs.declared.table.Feed.{Feed}
use Rattle.desc_types.specs.declared.view.Agg.{Agg}
use Rattle.desc_types.specs.declared.view.Cond.{Cond}
use Rattle.desc_types.specs.declared.view.Pair.{Pair}
use Rattle.desc_types.specs.declared.view.Src.{Src}
use Rattle.desc_types.specs.Descriptions.{DescOf}
use Rattle.desc_types.specs.KindValues.{KindOf, Raw, Filter, Group, Join}
use Rattle.desc_types.specs.Tables.{TableOf}
use Rattle.desc_types.specs.Sources.{kind_sources}
use Rattle.desc_types.specs.Columns.{agg_type, are_different}
use Rattle.desc_types.specs.Lookups.{source_columns, table_columns}
use Rattle.desc_types.specs.Accepted.{Computes, IsAccepted, IsCond, IsFilter, IsGroup, IsJoin}
use Rattle.desc_types.specs.Accepted.{IsKind, IsPair, IsRaw, IsSource, column_names, column_type}
use Rattle.desc_types.specs.Accepted.{column_types}
use Rattle.desc_causes.specs.Causes.{written_place}
use Rattle.table_desc.specs.Canonical.{aggs_spelled, column_name, column_spelled, cond_spelled}
use Rattle.table_desc.specs.Canonical.{kind_spelled, over_spelled, pair_spelled, source_spelled}
use Rattle.table_desc.specs.Canonical.{table_name, table_spelled}
use Rattle.table_desc.specs.Declarations.{agg_column, column_number, declared_agg}
use Rattle.table_desc.specs.Declarations.{declared_column, declared_cond, declared_filling}
use Rattle.table_desc.specs.Declarations.{declared_filter, declared_group, declared_join}
use Rattle.table_desc.specs.Declarations.{declared_pair, declared_source, declared_table}
use Rattle.table_desc.specs.Declarations.{number_over, with_feed, with_table}
use Rattle.table_desc.proofs.PrefixLemmas.{IsThere-within, find_column-named, find_feed-prefix}
use Rattle.table_desc.proofs.PrefixLemmas.{find_table-prefix, find_type-named, position-named}
use Rattle.table_desc.proofs.PrefixLemmas.{prefix, source_columns-prefix, table_columns-different}
use Rattle.table_desc.proofs.SpelledNumberLemmas.{read_span-spelled, read_type-spelled}
use Rattle.table_desc.proofs.SpelledNumberLemmas.{read_width-decimal, value_of-spelled}
use Rattle.table_desc.proofs.SpelledPartLemmas.{column_type-within}

-- a list of which each item comes back is made again
pub map-back : {X Y : Type 0} (P : X → Type 0) (out : X → Y) (back : Y → X) (xs : List X)
    → ((x : X) → P x → back (out x) ≡ x) → All P xs → map back (map out xs) ≡ xs
map-back P out back [] each all = refl
map-back P out back (x ∷ xs) each all = rw (
  each x (all 0 x (omega arith)),
  map-back P out back xs each
      (λ index default within. all (suc index) default (omega (arith, within))),
) refl

-- so is one of which each item comes back as something that is there
pub filter_map-back : {X Y : Type 0} (P : X → Type 0) (out : X → Y) (back : Y → Option X)
    (xs : List X)
    → ((x : X) → P x → back (out x) ≡ Some x) → All P xs → filter_map back (map out xs) ≡ xs
filter_map-back P out back [] each all = refl
filter_map-back P out back (x ∷ xs) each all = rw (
  each x (all 0 x (omega arith)),
  filter_map-back P out back xs each
      (λ index default within. all (suc index) default (omega (arith, within))),
) refl

-- the columns of a raw table
declared_columns-spelled : (columns : List Column)
    → map declared_column (map column_spelled columns) ≡ columns
declared_columns-spelled [] = refl
declared_columns-spelled (column ∷ columns) =
    rw (read_type-spelled column.ty, declared_columns-spelled columns) refl

-- their names stay
pub written-names : (columns : List Column)
    → map (λ (column : WrittenColumnOf). column.name) (map column_spelled columns)
    ≡ column_names columns
written-names [] = refl
written-names (column ∷ columns) = ap (λ names. column.name ∷ names) (written-names columns)

-- so the time column is found by its name
pub written_place-spelled : (columns : List Column) (time : ℕ)
    → are_different (column_names columns) ≡ true → time < length columns
    → written_place (map column_spelled columns) (column_name columns time) ≡ Some time
written_place-spelled columns time different within =
    let column = IsThere-within columns time within in
    rw column.there (position-named (λ (column : WrittenColumnOf). column.name)
    (map column_spelled columns) time (column_spelled column.item)
    (rw (written-names columns) different)
    (rw (slice_get-map column_spelled columns time, column.there) refl))

-- a source is found by its name, and has its span
pub declared_source-spelled : (desc : DescOf) (feeds number width : ℕ) (source : Src)
    → IsAccepted desc → number ≤ length desc.tables → IsSource desc number width source
    → declared_source (prefix desc feeds number) (source_spelled desc source) ≡ source
declared_source-spelled desc feeds number width source accepted within is = rw (
  find_table-prefix desc feeds number source.table accepted is.earlier within,
  read_span-spelled source.span is.said,
) refl

-- columns that were named are numbered again
pub column_number-named : (columns : List Column) (number : ℕ)
    → are_different (column_names columns) ≡ true → number < length columns
    → column_number columns (column_name columns number) ≡ number
column_number-named columns number different within =
    rw (find_column-named columns number different within) refl

pub column_numbers-named : (columns : List Column) (numbers : List ℕ)
    → are_different (column_names columns) ≡ true
    → All (λ number. number < length columns) numbers
    → map (column_number columns) (map (column_name columns) numbers) ≡ numbers
column_numbers-named columns numbers different within =
    map-back (λ number. number < length columns) (column_name columns) (column_number columns)
    numbers (λ number. column_number-named columns number different) within

-- a condition
declared_cond-spelled : (columns : List Column) (cond : Cond)
    → are_different (column_names columns) ≡ true → IsCond columns cond
    → declared_cond columns (cond_spelled columns cond) ≡ Some cond
declared_cond-spelled columns cond different is =
    by_type (column_type columns cond.column) refl is.typed
  where
    by_type : (of : Option Ty) → column_type columns cond.column ≡ of
        → IsSomeAnd of (λ ty. IsCellOf ty cond.value)
        → declared_cond columns (cond_spelled columns cond) ≡ Some cond
    by_type None is typed = absurd typed
    by_type (Some of) is typed =
        let within = column_type-within columns cond.column of is in
        rw (
          find_type-named columns cond.column different within,
          is,
          value_of-spelled of cond.value typed,
          find_column-named columns cond.column different within,
        ) refl

-- a filter
declared_filter-spelled : (columns own : List Column) (source : Src) (conds : List Cond)
    (keep : List ℕ)
    → are_different (column_names columns) ≡ true → IsFilter columns own conds keep
    → declared_filter columns source (map (cond_spelled columns) conds)
    (map (column_number columns) (map (column_name columns) keep))
    ≡ record { columns = own; kind = Filter source conds keep }
declared_filter-spelled columns own source conds keep different is = rw (
  column_numbers-named columns keep different is.each_kept,
  filter_map-back (IsCond columns) (cond_spelled columns) (declared_cond columns) conds
      (λ cond. declared_cond-spelled columns cond different) is.each_cond,
  is.kept,
) refl

-- a pair
declared_pair-spelled : (left right : List Column) (pair : Pair)
    → are_different (column_names left) ≡ true → are_different (column_names right) ≡ true
    → IsPair left right pair → declared_pair left right (pair_spelled left right pair) ≡ pair
declared_pair-spelled left right pair left_differ right_differ is =
    by_type (column_type left pair.left) refl is
  where
    by_type : (of : Option Ty) → column_type left pair.left ≡ of
        → IsSomeAnd of (λ ty. column_type right pair.right ≡ Some ty)
        → declared_pair left right (pair_spelled left right pair) ≡ pair
    by_type None is typed = absurd typed
    by_type (Some of) is typed = rw (
      find_column-named left pair.left left_differ (column_type-within left pair.left of is),
      find_column-named right pair.right right_differ
          (column_type-within right pair.right of typed),
    ) refl

-- a join
declared_join-spelled : (left right own : List Column) (left_source right_source : Src)
    (on : List Pair)
    → are_different (column_names left) ≡ true → are_different (column_names right) ≡ true
    → IsJoin left right own on
    → declared_join left right left_source right_source (map (pair_spelled left right) on)
    ≡ record { columns = own; kind = Join left_source right_source on }
declared_join-spelled left right own left_source right_source on left_differ right_differ is = rw (
  map-back (IsPair left right) (pair_spelled left right) (declared_pair left right) on
      (λ pair. declared_pair-spelled left right pair left_differ right_differ) is.each_pair,
  is.joined,
) refl

-- the column that an aggregate is over
number_over-spelled : (columns : List Column) (of : Fun) (column : ℕ)
    → are_different (column_names columns) ≡ true → Computes of columns column
    → number_over columns (over_spelled columns of column) ≡ column
number_over-spelled columns fun.Sum column different computes =
    column_number-named columns column different
    (column_type-within columns column ty.Int computes)
number_over-spelled columns fun.Count column different computes = sym computes
number_over-spelled columns fun.Least column different computes =
    column_number-named columns column different computes
number_over-spelled columns fun.Greatest column different computes =
    column_number-named columns column different computes

-- what aggregates in words declare: these aggregates, and these columns of theirs
record DeclareAggs (columns own : List Column) (aggs : List Agg) (words : List WrittenAggOf)
    : Type 0 where
  pub again : map (declared_agg columns) words ≡ aggs
  pub made : map (agg_column columns) words ≡ own

-- one more in front
DeclareAggs-step : (columns : List Column) (own : Column) (agg : Agg) (owns : List Column)
    (aggs : List Agg) (words : List WrittenAggOf)
    → own.ty ≡ agg_type columns agg
    → number_over columns (over_spelled columns agg.fun agg.column) ≡ agg.column
    → DeclareAggs columns owns aggs words
    → DeclareAggs columns (own ∷ owns) (agg ∷ aggs) (record {
      fun = agg.fun;
      column = over_spelled columns agg.fun agg.column;
      name = own.name;
    } ∷ words)
DeclareAggs-step columns own agg owns aggs words typed over others = record {
  again = rw (over, others.again) refl;
  made = rw (over, ← typed, others.made) refl;
}

-- aggregates in words
DeclareAggs-spelled : (columns own : List Column) (aggs : List Agg)
    → are_different (column_names columns) ≡ true
    → column_types own ≡ map (agg_type columns) aggs
    → All (λ (agg : Agg). Computes agg.fun columns agg.column) aggs
    → DeclareAggs columns own aggs (aggs_spelled columns own aggs)
DeclareAggs-spelled columns [] [] different typed each = record { again = refl; made = refl }
DeclareAggs-spelled columns [] (agg ∷ aggs) different typed each = absurd cc
DeclareAggs-spelled columns (own ∷ owns) [] different typed each = absurd cc
DeclareAggs-spelled columns (own ∷ owns) (agg ∷ aggs) different typed each =
    DeclareAggs-step columns own agg owns aggs (aggs_spelled columns owns aggs)
    (let same : own.ty ≡ agg_type columns agg = cc in same)
    (number_over-spelled columns agg.fun agg.column different (each 0 agg (omega arith)))
    (DeclareAggs-spelled columns owns aggs different
    (let same : column_types owns ≡ map (agg_type columns) aggs = cc in same)
    (λ index default within. each (suc index) default (omega (arith, within))))

-- a group
declared_group-spelled : (columns own : List Column) (source : Src) (keys : List ℕ)
    (aggs : List Agg)
    → are_different (column_names columns) ≡ true → IsGroup columns own keys aggs
    → declared_group columns source (map (column_number columns) (map (column_name columns) keys))
    (aggs_spelled columns (drop (length keys) own) aggs)
    ≡ record { columns = own; kind = Group source keys aggs }
declared_group-spelled columns own source keys aggs different is =
    let said = DeclareAggs-spelled columns (drop (length keys) own) aggs different is.agg_columns
    is.each_agg in
    rw (
      column_numbers-named columns keys different is.each_key,
      said.again,
      said.made,
      ← is.key_columns,
      take-append-drop (length keys) own,
    ) refl

-- a source in words says what it is over the tables before a number
record IsSaidAgain (desc : DescOf) (feeds number : ℕ) (source : Src) : Type 0 where
  pub columns : source_columns (prefix desc feeds number) (table_name desc source.table)
      ≡ table_columns desc source.table
  pub again : declared_source (prefix desc feeds number) (source_spelled desc source) ≡ source
  pub different : are_different (column_names (table_columns desc source.table)) ≡ true

IsSaidAgain-source : (desc : DescOf) (feeds number width : ℕ) (source : Src) → IsAccepted desc
    → number ≤ length desc.tables → IsSource desc number width source
    → IsSaidAgain desc feeds number source
IsSaidAgain-source desc feeds number width source accepted within is = record {
  columns = source_columns-prefix desc feeds number source.table accepted is.earlier within;
  again = declared_source-spelled desc feeds number width source accepted within is;
  different = table_columns-different desc source.table accepted
      (omega (arith, is.earlier, within));
}

-- the words of what fills a table with these columns declare it again
abbrev pub FillsAgain : DescOf → (number : ℕ) → (own : List Column) → KindOf → Type 0
FillsAgain desc number own kind =
    declared_filling (prefix desc (length desc.feeds) number) (kind_spelled desc own kind)
    ≡ record { columns = own; kind = kind }

-- a raw table
FillsAgain-raw : (desc : DescOf) (number : ℕ) (own : List Column) (feed time : ℕ)
    → IsAccepted desc → are_different (column_names own) ≡ true → IsRaw desc own feed time
    → FillsAgain desc number own (Raw feed time)
FillsAgain-raw desc number own feed time accepted different is = rw (
  declared_columns-spelled own,
  find_feed-prefix desc number feed accepted is.declared,
  written_place-spelled own time different (column_type-within own time ty.Int is.int),
) refl

-- a filter, a group and a join, if their sources are said again
FillsAgain-filter : (desc : DescOf) (number : ℕ) (own : List Column) (source : Src)
    (conds : List Cond) (keep : List ℕ) → IsSaidAgain desc (length desc.feeds) number source
    → IsFilter (table_columns desc source.table) own conds keep
    → FillsAgain desc number own (Filter source conds keep)
FillsAgain-filter desc number own source conds keep said is = rw (said.columns, said.again)
    (declared_filter-spelled (table_columns desc source.table) own source conds keep
    said.different is)

FillsAgain-group : (desc : DescOf) (number : ℕ) (own : List Column) (source : Src)
    (keys : List ℕ) (aggs : List Agg) → IsSaidAgain desc (length desc.feeds) number source
    → IsGroup (table_columns desc source.table) own keys aggs
    → FillsAgain desc number own (Group source keys aggs)
FillsAgain-group desc number own source keys aggs said is = rw (said.columns, said.again)
    (declared_group-spelled (table_columns desc source.table) own source keys aggs
    said.different is)

FillsAgain-join : (desc : DescOf) (number : ℕ) (own : List Column) (left right : Src)
    (on : List Pair) → IsSaidAgain desc (length desc.feeds) number left
    → IsSaidAgain desc (length desc.feeds) number right
    → IsJoin (table_columns desc left.table) (table_columns desc right.table) own on
    → FillsAgain desc number own (Join left right on)
FillsAgain-join desc number own left right on said other is =
    rw (said.columns, said.again, other.columns, other.again)
    (declared_join-spelled (table_columns desc left.table) (table_columns desc right.table) own
    left right on said.different other.different is)

-- what fills a table of an accepted description
FillsAgain-kind : (desc : DescOf) (number : ℕ) (own : List Column) (kind : KindOf)
    → IsAccepted desc → are_different (column_names own) ≡ true
    → All (IsSaidAgain desc (length desc.feeds) number) (kind_sources kind)
    → IsKind desc own kind → FillsAgain desc number own kind
FillsAgain-kind desc number own (Raw feed time) accepted different said is =
    FillsAgain-raw desc number own feed time accepted different is
FillsAgain-kind desc number own (Filter source conds keep) accepted different said is =
    FillsAgain-filter desc number own source conds keep (said 0 source (omega arith)) is
FillsAgain-kind desc number own (Group source keys aggs) accepted different said is =
    FillsAgain-group desc number own source keys aggs (said 0 source (omega arith)) is
FillsAgain-kind desc number own (Join left right on) accepted different said is =
    FillsAgain-join desc number own left right on (said 0 left (omega arith))
    (said 1 left (omega arith)) is

-- the line of a table declares the table
pub declared_table-spelled : (desc : DescOf) (number : ℕ) (table : TableOf) → IsAccepted desc
    → slice_get desc.tables number ≡ Some table
    → declared_table (prefix desc (length desc.feeds) number) (table_spelled desc table) ≡ table
declared_table-spelled desc number table accepted there =
    let is = accepted.each number table there in
    let within = slice_get_within desc.tables number table there in
    let said = All-weaker (IsSource desc number table.width)
    (IsSaidAgain desc (length desc.feeds) number)
    (λ source. IsSaidAgain-source desc (length desc.feeds) number table.width source accepted
    (omega (arith, within))) (kind_sources table.kind) is.sources in
    rw (
      read_width-decimal table.width is.width,
      FillsAgain-kind desc number table.columns table.kind accepted is.different said is.kind,
    ) refl

-- one element more of a list
take-step : {X : Type 0} (xs : List X) (place : ℕ) (x : X) → slice_get xs place ≡ Some x
    → take place xs ++ x ∷ [] ≡ take (place + 1) xs
take-step xs place x there =
    rw (
      take_more xs place x (slice_get_within xs place x there),
      get_or_from_slice_get xs place x x there,
    ) refl

-- the next feed, and the next table
pub with_feed-prefix : (desc : DescOf) (number tables : ℕ) (feed : Feed)
    → slice_get desc.feeds number ≡ Some feed
    → with_feed (prefix desc number tables) feed ≡ prefix desc (number + 1) tables
with_feed-prefix desc number tables feed there = rw (take-step desc.feeds number feed there) refl

pub with_table-prefix : (desc : DescOf) (feeds number : ℕ) (table : TableOf)
    → slice_get desc.tables number ≡ Some table
    → with_table (prefix desc feeds number) table ≡ prefix desc feeds (number + 1)
with_table-prefix desc feeds number table there =
    rw (take-step desc.tables number table there) refl
