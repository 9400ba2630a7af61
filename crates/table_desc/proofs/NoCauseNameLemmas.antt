-- The columns that a table's own line writes have the names of the table's columns.
use Rattle.std.proofs.Common.{◌≡◌, ◌∙◌, ℕ, ◌<◌, List, [], ◌∷◌, ◌++◌, Some, suc, false, not}
use Rattle.std.proofs.Common.{length, map, take, drop, refl, ap, sym, arith}
use Rattle.std.specs.Prelude.{All, is_none}
use Rattle.std.specs.List.{list_any}
use Rattle.std.proofs.lemmas.List.{length-map, map-append, take-append-drop}
use Rattle.std.proofs.lemmas.List.Folds.{list_any_none}
use Rattle.std.proofs.lemmas.Option.{slice_get-map}
use Rattle.depot_cell.specs.declared.cell.Ty.TheVariants as ty
use Rattle.desc_lines.specs.Names.{is_name}
use Rattle.desc_lines.specs.Written.{WrittenAggOf, WrittenColumnOf}
use Rattle.desc_types.specs.declared.table.Column.{Column}
use Rattle.desc_types.specs.declared.view.Agg.{Agg}
use Rattle.desc_types.specs.declared.view.Cond.{Cond}
use Rattle.desc_types.specs.Columns.{agg_type, kept_columns}
use Rattle.desc_types.specs.Lookups.{read_type}
use Rattle.desc_types.specs.Accepted.{IsFilter, IsGroup, IsNamed, column_names, column_type}
use Rattle.desc_types.proofs.ListLemmas.{list_any-map}
use Rattle.desc_causes.specs.Causes.{is_text, time_type}
use Rattle.table_desc.specs.Canonical.{aggs_spelled, column_name, column_spelled}
use Rattle.table_desc.proofs.PrefixLemmas.{IsThere-within}
use Rattle.table_desc.proofs.SpelledPartLemmas.{column_type-within}
use Rattle.table_desc.proofs.SpelledNumberLemmas.{read_type-spelled}
use Rattle.table_desc.proofs.SameTableLemmas.{written_place-spelled}
use Rattle.table_desc.proofs.NoCauseColumnLemmas.{Differ, list_any-map-none}

-- the names of columns that have names
is_name-columns : (columns : List Column) → All IsNamed columns
    → list_any (λ name. not (is_name name)) (column_names columns) ≡ false
is_name-columns columns each =
    list_any-map-none (λ (column : Column). column.name) (λ name. not (is_name name)) IsNamed
    columns (λ column named. ap not named) each

-- the columns of a raw table's line have names
pub is_name-raw : (own : List Column) → All IsNamed own
    → list_any (λ (column : WrittenColumnOf). not (is_name column.name)) (map column_spelled own)
    ≡ false
is_name-raw own each =
    list_any-map-none column_spelled (λ column. not (is_name column.name)) IsNamed own
    (λ column named. ap not named) each

-- the time column is an int
time_type-raw : (own : List Column) (time : ℕ) → Differ own → column_type own time ≡ Some ty.Int
    → time_type (map column_spelled own) (column_name own time) ≡ Some ty.Int
time_type-raw own time different int =
    let within = column_type-within own time ty.Int int in
    let column = IsThere-within own time within in
    let typed : Some column.item.ty ≡ Some ty.Int = rw column.there at int in
    rw (
      written_place-spelled own time different within,
      slice_get-map column_spelled own time,
      column.there,
      read_type-spelled column.item.ty,
    ) typed

-- so it is no text
pub is_text-raw : (own : List Column) (time : ℕ) → Differ own → column_type own time ≡ Some ty.Int
    → is_text (time_type (map column_spelled own) (column_name own time)) ≡ false
is_text-raw own time different int = ap is_text (time_type-raw own time different int)

-- and each type is one
pub read_type-raw : (own : List Column)
    → list_any (λ (column : WrittenColumnOf). is_none (read_type column.ty))
    (map column_spelled own) ≡ false
read_type-raw own =
    list_any-map column_spelled (λ column. is_none (read_type column.ty)) own
    ∙ list_any_none (λ (column : Column). is_none (read_type (column_spelled column).ty)) own
    (λ place default within. ap is_none (read_type-spelled _))

-- columns that are kept
names-kept : (columns : List Column) (numbers : List ℕ)
    → All (λ number. number < length columns) numbers
    → map (column_name columns) numbers ≡ column_names (kept_columns columns numbers)
names-kept columns [] each = refl
names-kept columns (number ∷ numbers) each =
    let column = IsThere-within columns number (each 0 number (omega arith)) in
    rw (
      column.there,
      names-kept columns numbers
          (λ index default within. each (suc index) default (omega (arith, within))),
    ) refl

-- the columns of a filter
pub names-filter : (source own : List Column) (conds : List Cond) (keep : List ℕ)
    → IsFilter source own conds keep → map (column_name source) keep ≡ column_names own
names-filter source own conds keep is =
    names-kept source keep is.each_kept ∙ ap column_names (sym is.kept)

-- aggregates that have a column each
names-aggs : (columns own : List Column) (aggs : List Agg) → length own ≡ length aggs
    → map (λ (agg : WrittenAggOf). agg.name) (aggs_spelled columns own aggs) ≡ column_names own
names-aggs columns [] aggs same = refl
names-aggs columns (own ∷ owns) [] same = absurd (omega (arith, same))
names-aggs columns (own ∷ owns) (agg ∷ aggs) same =
    ap (λ names. own.name ∷ names) (names-aggs columns owns aggs (omega (arith, same)))

-- a group has a column for each aggregate
length-aggs : (source own : List Column) (keys : List ℕ) (aggs : List Agg)
    → IsGroup source own keys aggs → length (drop (length keys) own) ≡ length aggs
length-aggs source own keys aggs is =
    let owns = drop (length keys) own in
    sym (length-map owns (λ (column : Column). column.ty)) ∙ ap length is.agg_columns
    ∙ length-map aggs (agg_type source)

-- the aggregates of a group have names
pub is_name-group : (source own : List Column) (keys : List ℕ) (aggs : List Agg)
    → IsGroup source own keys aggs
    → list_any (λ (agg : WrittenAggOf). not (is_name agg.name))
    (aggs_spelled source (drop (length keys) own) aggs) ≡ false
is_name-group source own keys aggs is =
    let owns = drop (length keys) own in
    let spelled = aggs_spelled source owns aggs in
    sym (list_any-map (λ (agg : WrittenAggOf). agg.name) (λ name. not (is_name name)) spelled)
    ∙ ap (list_any (λ name. not (is_name name)))
    (names-aggs source owns aggs (length-aggs source own keys aggs is))
    ∙ is_name-columns owns is.named

-- the keys and the aggregates of a group have the names of its columns
pub names-group : (source own : List Column) (keys : List ℕ) (aggs : List Agg)
    → IsGroup source own keys aggs
    → map (column_name source) keys
    ++ map (λ (agg : WrittenAggOf). agg.name) (aggs_spelled source (drop (length keys) own) aggs)
    ≡ column_names own
names-group source own keys aggs is =
    let owns = drop (length keys) own in
    ap (λ names. names ++ map (λ (agg : WrittenAggOf). agg.name) (aggs_spelled source owns aggs))
    (names-kept source keys is.each_key ∙ ap column_names (sym is.key_columns))
    ∙ ap (λ names. column_names (take (length keys) own) ++ names)
    (names-aggs source owns aggs (length-aggs source own keys aggs is))
    ∙ sym (map-append (λ (column : Column). column.name) (take (length keys) own) owns)
    ∙ ap column_names (take-append-drop (length keys) own)
