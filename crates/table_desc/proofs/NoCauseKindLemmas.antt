-- What fills a table of an accepted description, in words: no cause speaks against it.
use Rattle.std.proofs.Common.{◌≡◌, ◌∙◌, ℕ, ◌<◌, List, false, length, map, drop, refl, ap, sym}
use Rattle.std.proofs.Common.{arith, length-append}
use Rattle.std.specs.Prelude.{is_none}
use Rattle.std.proofs.lemmas.Bool.{le-ltb}
use Rattle.std.proofs.lemmas.List.{length-map, length-take}
use Rattle.depot_cell.specs.declared.cell.Ty.TheVariants as ty
use Rattle.desc_lines.specs.Written.{WrittenAggOf, WrittenColumnOf, WrittenKindOf}
use Rattle.desc_types.specs.declared.table.Column.{Column}
use Rattle.desc_types.specs.declared.view.Agg.{Agg}
use Rattle.desc_types.specs.declared.view.Cond.{Cond}
use Rattle.desc_types.specs.declared.view.Pair.{Pair}
use Rattle.desc_types.specs.declared.view.Src.{Src}
use Rattle.desc_types.specs.Columns.{are_different}
use Rattle.desc_types.specs.Descriptions.{DescOf}
use Rattle.desc_types.specs.KindValues.{Filter, Group, Join, KindOf, Raw}
use Rattle.desc_types.specs.Lookups.{table_columns}
use Rattle.desc_types.specs.Tables.{TableOf}
use Rattle.desc_types.specs.Accepted.{column_names}
use Rattle.desc_causes.specs.Causes.{count_columns, has_many_parts}
use Rattle.desc_causes.specs.Causes.{written_names}
use Rattle.table_desc.specs.Canonical.{aggs_spelled, column_name, column_spelled, cond_spelled}
use Rattle.table_desc.specs.Canonical.{kind_spelled, pair_spelled}
use Rattle.table_desc.proofs.FilledLemmas.{IsFineKind}
use Rattle.table_desc.proofs.FineLemmas.{IsFew}
use Rattle.table_desc.proofs.JoinLemmas.{length-joined}
use Rattle.table_desc.proofs.PrefixLemmas.{find_feed-prefix}
use Rattle.table_desc.proofs.SpelledPartLemmas.{column_type-within}
use Rattle.table_desc.proofs.NoCauseColumnLemmas.{has_odd_literal-conds}
use Rattle.table_desc.proofs.NoCauseColumnLemmas.{is_odd_pair-pairs, is_text_sum-aggs}
use Rattle.table_desc.proofs.NoCauseColumnLemmas.{lacks-filter, lacks-group, lacks_side-pairs}
use Rattle.table_desc.proofs.NoCauseColumnLemmas.{or-fails}
use Rattle.table_desc.proofs.NoCauseNameLemmas.{is_name-group, is_name-raw, names-filter}
use Rattle.table_desc.proofs.NoCauseNameLemmas.{names-group, read_type-raw}
use Rattle.table_desc.proofs.NoCauseNameLemmas.{is_text-raw}
use Rattle.table_desc.proofs.SameTableLemmas.{written-names, written_place-spelled}
use Rattle.table_desc.proofs.NoCauseSourceLemmas.{IsKnown, IsKnown-placed, IsPlaced, before}
use Rattle.table_desc.proofs.NoCauseSourceLemmas.{lacks_source-placed}

-- there is room for one table more
length-before : (desc : DescOf) (number : ℕ) (table : TableOf) (kind : KindOf)
    → IsPlaced desc number table kind → length (before desc number).tables < 64
length-before desc number table kind placed =
    omega (arith, length-take number desc.tables, placed.within, placed.accepted.tables)

-- a table whose columns are all written has no more of them than it may have
IsFew-names : (desc : DescOf) (number : ℕ) (table : TableOf) (kind : KindOf)
    (written : WrittenKindOf)
    → IsPlaced desc number table kind → written_names written ≡ column_names table.columns
    → count_columns (before desc number) written ≡ length (written_names written)
    → has_many_parts written ≡ false → IsFew (before desc number) written
IsFew-names desc number table kind written placed names count parts = record {
  tables = length-before desc number table kind placed;
  columns = omega (
    arith,
    count,
    ap length names,
    length-map table.columns (λ (column : Column). column.name),
    placed.is.few,
  );
  parts = parts;
}

-- a raw table
IsFineKind-raw : (desc : DescOf) (number : ℕ) (table : TableOf) (feed time : ℕ)
    → IsPlaced desc number table (Raw feed time)
    → IsFineKind (before desc number) (kind_spelled desc table.columns (Raw feed time))
IsFineKind-raw desc number table feed time placed =
    let own = table.columns in
    let names = written-names own in
    let within = column_type-within own time ty.Int placed.fills.int in
    record {
      named = is_name-raw own placed.fills.named;
      different = ap are_different names ∙ placed.is.different;
      feed = ap is_none (find_feed-prefix desc number feed placed.accepted placed.fills.declared);
      source = refl;
      column = ap is_none (written_place-spelled own time placed.is.different within);
      typed = or-fails _ _ (read_type-raw own)
          (is_text-raw own time placed.is.different placed.fills.int);
      few = IsFew-names desc number table (Raw feed time) _ placed names (sym (length-map
          (map column_spelled own) (λ (column : WrittenColumnOf). column.name))) refl;
    }

-- a filter
IsFineKind-filter : (desc : DescOf) (number : ℕ) (table : TableOf) (source : Src)
    (conds : List Cond) (keep : List ℕ) → IsPlaced desc number table (Filter source conds keep)
    → IsKnown desc number source
    → IsFineKind (before desc number) (kind_spelled desc table.columns (Filter source conds keep))
IsFineKind-filter desc number table source conds keep placed known =
    let columns = table_columns desc source.table in
    let names = names-filter columns table.columns conds keep placed.fills in
    record {
      named = refl;
      different = ap are_different names ∙ placed.is.different;
      feed = refl;
      source = lacks_source-placed desc number table (Filter source conds keep) placed;
      column = rw known.found (lacks-filter columns _ conds keep known.differ placed.fills);
      typed = rw known.found
          (has_odd_literal-conds columns conds known.differ placed.fills.each_cond);
      few = IsFew-names desc number table (Filter source conds keep) _ placed names refl
          (le-ltb 8 _ (omega (arith, length-map conds (cond_spelled columns), placed.fills.few)));
    }

-- a group has as many columns as keys and aggregates
IsFew-group : (desc : DescOf) (number : ℕ) (table : TableOf) (source : Src) (keys : List ℕ)
    (aggs : List Agg) → IsPlaced desc number table (Group source keys aggs)
    → IsFew (before desc number) (kind_spelled desc table.columns (Group source keys aggs))
IsFew-group desc number table source keys aggs placed =
    let columns = table_columns desc source.table in
    let spelled = aggs_spelled columns (drop (length keys) table.columns) aggs in
    let names = map (λ (agg : WrittenAggOf). agg.name) spelled in
    IsFew-names desc number table (Group source keys aggs) _ placed
    (names-group columns table.columns keys aggs placed.fills)
    (omega (
      arith,
      length-append (map (column_name columns) keys) names,
      length-map spelled (λ (agg : WrittenAggOf). agg.name),
    ))
    (le-ltb 4 _ (omega (arith, length-map keys (column_name columns), placed.fills.few_keys)))

IsFineKind-group : (desc : DescOf) (number : ℕ) (table : TableOf) (source : Src) (keys : List ℕ)
    (aggs : List Agg) → IsPlaced desc number table (Group source keys aggs)
    → IsKnown desc number source
    → IsFineKind (before desc number) (kind_spelled desc table.columns (Group source keys aggs))
IsFineKind-group desc number table source keys aggs placed known =
    let columns = table_columns desc source.table in
    let owns = drop (length keys) table.columns in
    let names = names-group columns table.columns keys aggs placed.fills in
    record {
      named = is_name-group columns table.columns keys aggs placed.fills;
      different = ap are_different names ∙ placed.is.different;
      feed = refl;
      source = lacks_source-placed desc number table (Group source keys aggs) placed;
      column = rw known.found (lacks-group columns _ keys aggs known.differ placed.fills);
      typed = rw known.found
          (is_text_sum-aggs columns owns aggs known.differ placed.fills.each_agg);
      few = IsFew-group desc number table source keys aggs placed;
    }

-- a join has the columns of both sources
IsFew-join : (desc : DescOf) (number : ℕ) (table : TableOf) (left right : Src) (on : List Pair)
    → IsPlaced desc number table (Join left right on)
    → IsKnown desc number left → IsKnown desc number right
    → IsFew (before desc number) (kind_spelled desc table.columns (Join left right on))
IsFew-join desc number table left right on placed left_known right_known =
    let lefts = table_columns desc left.table in
    let rights = table_columns desc right.table in
    record {
      tables = length-before desc number table (Join left right on) placed;
      columns = rw (left_known.found, right_known.found) (omega (
        arith,
        length-joined lefts rights,
        ap length placed.fills.joined,
        placed.is.few,
      ));
      parts = le-ltb 4 _
          (omega (arith, length-map on (pair_spelled lefts rights), placed.fills.few));
    }

IsFineKind-join : (desc : DescOf) (number : ℕ) (table : TableOf) (left right : Src) (on : List Pair)
    → IsPlaced desc number table (Join left right on)
    → IsKnown desc number left → IsKnown desc number right
    → IsFineKind (before desc number) (kind_spelled desc table.columns (Join left right on))
IsFineKind-join desc number table left right on placed left_known right_known =
    let lefts = table_columns desc left.table in
    let rights = table_columns desc right.table in
    record {
      named = refl;
      different = refl;
      feed = refl;
      source = lacks_source-placed desc number table (Join left right on) placed;
      column = rw (left_known.found, right_known.found) (lacks_side-pairs lefts rights on
          left_known.differ right_known.differ placed.fills.each_pair);
      typed = rw (left_known.found, right_known.found) (is_odd_pair-pairs lefts rights on
          left_known.differ right_known.differ placed.fills.each_pair);
      few = IsFew-join desc number table left right on placed left_known right_known;
    }

-- no test speaks against what fills a table
pub IsFineKind-placed : (desc : DescOf) (number : ℕ) (table : TableOf) (kind : KindOf)
    → IsPlaced desc number table kind
    → IsFineKind (before desc number) (kind_spelled desc table.columns kind)
IsFineKind-placed desc number table (Raw feed time) placed =
    IsFineKind-raw desc number table feed time placed
IsFineKind-placed desc number table (Filter source conds keep) placed =
    IsFineKind-filter desc number table source conds keep placed
    (IsKnown-placed desc number table (Filter source conds keep) 0 source placed (omega arith))
IsFineKind-placed desc number table (Group source keys aggs) placed =
    IsFineKind-group desc number table source keys aggs placed
    (IsKnown-placed desc number table (Group source keys aggs) 0 source placed (omega arith))
IsFineKind-placed desc number table (Join left right on) placed =
    IsFineKind-join desc number table left right on placed
    (IsKnown-placed desc number table (Join left right on) 0 left placed (omega arith))
    (IsKnown-placed desc number table (Join left right on) 1 left placed (omega arith))
