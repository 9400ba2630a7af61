-- The words of a table can stand in a line (`AreSpelled-table`), and what fills it is whole
-- (`IsWholeKind-table`).
use Rattle.std.proofs.Common.{◌≡◌, ◌∙◌, ℕ, ◌<◌, List, [], ◌∷◌, ◌++◌, true, false, length, map}
use Rattle.std.proofs.Common.{drop, refl, ap, sym, arith, decimal}
use Rattle.std.specs.Prelude.{All, codes}
use Rattle.std.specs.List.{AllByRecursion}
use Rattle.std.proofs.lemmas.List.{length-map}
use Rattle.std.proofs.lemmas.List.Elements.{All-weaker}
use Rattle.depot_cell.specs.declared.cell.Ty.TheVariants as ty
use Rattle.desc_lines.specs.LineTexts.{conds_words, source_words, table_words, view_front}
use Rattle.desc_lines.specs.Texts.{ends_in_cr}
use Rattle.desc_lines.specs.Whole.{AreSome, IsWholeAgg, IsWholeKind}
use Rattle.desc_lines.proofs.ListLemmas.{each-append}
use Rattle.desc_types.specs.declared.table.Column.{Column}
use Rattle.desc_types.specs.declared.view.Agg.{Agg}
use Rattle.desc_types.specs.declared.view.Cond.{Cond}
use Rattle.desc_types.specs.declared.view.Pair.{Pair}
use Rattle.desc_types.specs.declared.view.Src.{Src}
use Rattle.desc_types.specs.Accepted.{IsAccepted, IsFilter, IsGroup, IsJoin, IsKind, IsRaw}
use Rattle.desc_types.specs.Accepted.{IsSource, IsTable}
use Rattle.desc_types.specs.Columns.{agg_type, kept_columns}
use Rattle.desc_types.specs.Descriptions.{DescOf}
use Rattle.desc_types.specs.KindValues.{KindOf, Raw, Filter, Group, Join}
use Rattle.desc_types.specs.Lookups.{table_columns}
use Rattle.desc_types.specs.Sources.{kind_sources}
use Rattle.desc_types.specs.Tables.{TableOf}
use Rattle.table_desc.specs.Canonical.{aggs_spelled, column_name, cond_spelled, kind_spelled}
use Rattle.table_desc.specs.Canonical.{source_spelled}
use Rattle.table_desc.proofs.SpelledPartLemmas.{AreNamed, ArePlain, ArePlain-aggs}
use Rattle.table_desc.proofs.SpelledPartLemmas.{ArePlain-append, ArePlain-columns, ArePlain-names}
use Rattle.table_desc.proofs.SpelledPartLemmas.{ArePlain-pairs, ArePlain-source, AreSome-aggs}
use Rattle.table_desc.proofs.SpelledPartLemmas.{AreSome-columns, AreSome-keys, AreSome-pairs}
use Rattle.table_desc.proofs.SpelledPartLemmas.{AreSpelled-conds, column_type-within, each-weaker}
use Rattle.table_desc.proofs.SpelledPartLemmas.{is_plain-column_name, is_plain-feed_name}
use Rattle.table_desc.proofs.SpelledPartLemmas.{table_columns-named}
use Rattle.table_desc.proofs.SpelledWordLemmas.{IsSpelled, IsSpelled-plain, ends_with_byte-plain}
use Rattle.table_desc.proofs.SpelledWordLemmas.{is_plain, is_plain-decimal}

-- words that a line can have, of which the last does not end in CR
pub record AreSpelled (words : List (List ℕ)) : Type 0 where
  pub each : AllByRecursion IsSpelled words
  pub ended : ends_in_cr words ≡ false

-- plain words can stand in a line
each-plain : (words : List (List ℕ)) → ArePlain words → AllByRecursion IsSpelled words
each-plain words plain = each-weaker _ IsSpelled words IsSpelled-plain plain

-- and the last of them does not end in CR
pub AreSpelled-plain : (words : List (List ℕ)) → ArePlain words → AreSpelled words
AreSpelled-plain words plain = record { each = each-plain words plain; ended = ends words plain }
  where
    ends : (words : List (List ℕ)) → ArePlain words → ends_in_cr words ≡ false
    ends [] plain = refl
    ends (word ∷ []) plain = ends_with_byte-plain word plain.0
    ends (word ∷ next ∷ others) plain = ends (next ∷ others) plain.1

-- words after others end as they do themselves
ends_in_cr-append : (front back : List (List ℕ)) → 0 < length back
    → ends_in_cr (front ++ back) ≡ ends_in_cr back
ends_in_cr-append [] back some = refl
ends_in_cr-append (word ∷ []) [] some = absurd (omega (arith, some))
ends_in_cr-append (word ∷ []) (next ∷ others) some = refl
ends_in_cr-append (word ∷ next ∷ front) back some = ends_in_cr-append (next ∷ front) back some

-- words that a line can have may stand before such words
AreSpelled-append : (front back : List (List ℕ)) → 0 < length back
    → AllByRecursion IsSpelled front → AreSpelled back → AreSpelled (front ++ back)
AreSpelled-append front back some before after = record {
  each = each-append IsSpelled front back before after.each;
  ended = ends_in_cr-append front back some ∙ after.ended;
}

-- the words that a view begins with
ArePlain-view : (desc : DescOf) (table : TableOf) (kind : List ℕ) (source : Src)
    → IsAccepted desc → is_plain table.name ≡ true → is_plain kind ≡ true
    → source.table < length desc.tables
    → ArePlain (codes "view"
    ∷ view_front table.name (decimal table.width) kind (source_spelled desc source))
ArePlain-view desc table kind source accepted is_name is_kind within =
    let wide = is_plain-decimal table.width in
    let from = ArePlain-source desc source accepted within in
    (refl, (is_name, (refl, (wide, (is_kind, from)))))

-- the words of a raw table
ArePlain-raw : (desc : DescOf) (number : ℕ) (table : TableOf) (feed time : ℕ) → IsAccepted desc
    → is_plain table.name ≡ true → AreNamed number table.columns
    → IsRaw desc table.columns feed time
    → ArePlain (table_words table.name (decimal table.width)
    (kind_spelled desc table.columns (Raw feed time)))
ArePlain-raw desc number table feed time accepted is_name named is =
    let fed = is_plain-feed_name desc feed accepted is.declared in
    let wide = is_plain-decimal table.width in
    let timed = is_plain-column_name number table.columns time named
    (column_type-within table.columns time ty.Int is.int) in
    let each = ArePlain-columns number table.columns named in
    (refl, (is_name, (refl, (fed, (refl, (wide, (refl, (timed, (refl, each)))))))))

-- words round those of conditions, which need not be plain
AreSpelled-where : (front given kept : List (List ℕ)) → ArePlain front
    → AllByRecursion IsSpelled given → ArePlain kept
    → AreSpelled (front ++ (codes "where" ∷ (given ++ codes "keep" ∷ kept)))
AreSpelled-where front given kept before are after =
    AreSpelled-append front (codes "where" ∷ (given ++ codes "keep" ∷ kept)) (omega arith)
    (each-plain front before)
    (AreSpelled-append (codes "where" ∷ given) (codes "keep" ∷ kept) (omega arith)
    (IsSpelled-plain (codes "where") refl, are)
    (AreSpelled-plain (codes "keep" ∷ kept) (refl, after)))

-- the words of a filter
AreSpelled-filter : (desc : DescOf) (table : TableOf) (source : Src) (conds : List Cond)
    (keep : List ℕ) → IsAccepted desc → is_plain table.name ≡ true
    → source.table < length desc.tables
    → IsFilter (table_columns desc source.table) table.columns conds keep
    → AreSpelled (table_words table.name (decimal table.width)
    (kind_spelled desc table.columns (Filter source conds keep)))
AreSpelled-filter desc table source conds keep accepted is_name within is =
    let columns = table_columns desc source.table in
    let named = table_columns-named desc source.table accepted in
    AreSpelled-where
    (codes "view" ∷ view_front table.name (decimal table.width) (codes "filter")
    (source_spelled desc source))
    (conds_words (map (cond_spelled columns) conds)) (map (column_name columns) keep)
    (ArePlain-view desc table (codes "filter") source accepted is_name refl within)
    (AreSpelled-conds source.table columns conds named is.each_cond)
    (ArePlain-names source.table columns keep named is.each_kept)

-- the words of keys and of aggregates after a front
ArePlain-by : (front keys aggs : List (List ℕ)) → ArePlain front → ArePlain keys → ArePlain aggs
    → ArePlain (front ++ (codes "by" ∷ (keys ++ codes "agg" ∷ aggs)))
ArePlain-by front keys aggs before are after =
    ArePlain-append front (codes "by" ∷ (keys ++ codes "agg" ∷ aggs)) before
    (refl, ArePlain-append keys (codes "agg" ∷ aggs) are (refl, after))

-- the words of a group
ArePlain-group : (desc : DescOf) (table : TableOf) (source : Src) (keys : List ℕ)
    (aggs : List Agg) → IsAccepted desc → is_plain table.name ≡ true
    → source.table < length desc.tables
    → IsGroup (table_columns desc source.table) table.columns keys aggs
    → ArePlain (table_words table.name (decimal table.width)
    (kind_spelled desc table.columns (Group source keys aggs)))
ArePlain-group desc table source keys aggs accepted is_name within is =
    let columns = table_columns desc source.table in
    let named = table_columns-named desc source.table accepted in
    let own = drop (length keys) table.columns in
    ArePlain-by
    (codes "view" ∷ view_front table.name (decimal table.width) (codes "group")
    (source_spelled desc source))
    (map (column_name columns) keys) _
    (ArePlain-view desc table (codes "group") source accepted is_name refl within)
    (ArePlain-names source.table columns keys named is.each_key)
    (ArePlain-aggs source.table columns own aggs named is.named is.each_agg)

-- the words of a source and of pairs after a front
ArePlain-on : (front source pairs : List (List ℕ)) → ArePlain front → ArePlain source
    → ArePlain pairs → ArePlain (front ++ (source ++ codes "on" ∷ pairs))
ArePlain-on front source pairs before are after =
    ArePlain-append front (source ++ codes "on" ∷ pairs) before
    (ArePlain-append source (codes "on" ∷ pairs) are (refl, after))

-- the words of a join
ArePlain-join : (desc : DescOf) (table : TableOf) (left right : Src) (on : List Pair)
    → IsAccepted desc → is_plain table.name ≡ true → left.table < length desc.tables
    → right.table < length desc.tables
    → IsJoin (table_columns desc left.table) (table_columns desc right.table) table.columns on
    → ArePlain (table_words table.name (decimal table.width)
    (kind_spelled desc table.columns (Join left right on)))
ArePlain-join desc table left right on accepted is_name left_within right_within is =
    ArePlain-on
    (codes "view" ∷ view_front table.name (decimal table.width) (codes "join")
    (source_spelled desc left))
    (source_words (source_spelled desc right)) _
    (ArePlain-view desc table (codes "join") left accepted is_name refl left_within)
    (ArePlain-source desc right accepted right_within)
    (ArePlain-pairs left.table right.table _ _ on
    (table_columns-named desc left.table accepted)
    (table_columns-named desc right.table accepted) is.each_pair)

-- a group makes a column of each aggregate
AreSome-group : (source columns : List Column) (keys : List ℕ) (aggs : List Agg)
    → IsGroup source columns keys aggs
    → AreSome IsWholeAgg (aggs_spelled source (drop (length keys) columns) aggs)
AreSome-group source columns keys aggs is =
    let own = drop (length keys) columns in
    let many : length own ≡ length aggs =
    sym (length-map own (λ (column : Column). column.ty)) ∙ ap length is.agg_columns
    ∙ length-map aggs (agg_type source) in
    AreSome-aggs source own aggs (omega (arith, is.some_aggs, many)) is.some_aggs

-- a filter keeps a column
keep-some : (source columns : List Column) (keep : List ℕ) → 0 < length columns
    → columns ≡ kept_columns source keep → 0 < length keep
keep-some source columns [] some kept = absurd (omega (arith, some, ap length kept))
keep-some source columns (first ∷ others) some kept = omega arith

-- the lists of a filter have a member
HasSome-filter : (source columns : List Column) (conds : List Cond) (keep : List ℕ)
    → 0 < length columns → IsFilter source columns conds keep
    → (0 < length (map (cond_spelled source) conds))
    × (0 < length (map (column_name source) keep))
HasSome-filter source columns conds keep some is = (
  omega (arith, is.some, length-map conds (cond_spelled source)),
  omega (arith, keep-some source columns keep some is.kept, length-map keep (column_name source)),
)

-- what fills a table is whole
pub IsWholeKind-table : (desc : DescOf) (number : ℕ) (table : TableOf) (kind : KindOf)
    → IsAccepted desc → IsTable desc number table → IsKind desc table.columns kind
    → IsWholeKind (kind_spelled desc table.columns kind)
IsWholeKind-table desc number table (Raw feed time) accepted is kind =
    AreSome-columns number table.columns is.some is.named
IsWholeKind-table desc number table (Filter source conds keep) accepted is kind =
    HasSome-filter (table_columns desc source.table) table.columns conds keep is.some kind
IsWholeKind-table desc number table (Group source keys aggs) accepted is kind = (
  AreSome-keys source.table (table_columns desc source.table) keys
      (table_columns-named desc source.table accepted) kind.some_keys kind.each_key,
  AreSome-group (table_columns desc source.table) table.columns keys aggs kind,
)
IsWholeKind-table desc number table (Join left right on) accepted is kind =
    AreSome-pairs left.table _ _ on (table_columns-named desc left.table accepted) kind.some
    kind.each_pair

-- a view names earlier tables as its sources
pub earlier-within : (desc : DescOf) (number width : ℕ) (kind : KindOf)
    → number < length desc.tables
    → All (IsSource desc number width) (kind_sources kind)
    → All (λ (source : Src). source.table < length desc.tables) (kind_sources kind)
earlier-within desc number width kind within sources =
    All-weaker (IsSource desc number width) (λ (source : Src). source.table < length desc.tables)
    (λ source is. omega (arith, within, is.earlier)) (kind_sources kind) sources

-- the words of a table
pub AreSpelled-table : (desc : DescOf) (number : ℕ) (table : TableOf) (kind : KindOf)
    → IsAccepted desc → is_plain table.name ≡ true → AreNamed number table.columns
    → IsKind desc table.columns kind
    → All (λ (source : Src). source.table < length desc.tables) (kind_sources kind)
    → AreSpelled (table_words table.name (decimal table.width)
    (kind_spelled desc table.columns kind))
AreSpelled-table desc number table (Raw feed time) accepted is_name named is within =
    AreSpelled-plain _ (ArePlain-raw desc number table feed time accepted is_name named is)
AreSpelled-table desc number table (Filter source conds keep) accepted is_name named is within =
    AreSpelled-filter desc table source conds keep accepted is_name
    (within 0 source (omega arith)) is
AreSpelled-table desc number table (Group source keys aggs) accepted is_name named is within =
    AreSpelled-plain _ (ArePlain-group desc table source keys aggs accepted is_name
    (within 0 source (omega arith)) is)
AreSpelled-table desc number table (Join left right on) accepted is_name named is within =
    AreSpelled-plain _ (ArePlain-join desc table left right on accepted is_name
    (within 0 left (omega arith)) (within 1 left (omega arith)) is)
