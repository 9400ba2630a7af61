-- What fills a table that a line declares, if no cause speaks against it: `IsFilled-fine`.
use Rattle.std.proofs.Common.{◌≡◌, ◌∙◌, ℕ, ◌<◌, ◌≤◌, ◌++◌, List, [], ◌∷◌}
use Rattle.std.proofs.Common.{true, false, length, map, refl, ap, sym, arith}
use Rattle.std.proofs.Common.{length-append}
use Rattle.std.specs.Prelude.{All, is_none, nat_lt}
use Rattle.std.specs.List.{list_any}
use Rattle.std.specs.Str.{bytes_eq}
use Rattle.std.proofs.Math.Seq.{drop-append_seam, take-append_seam}
use Rattle.std.proofs.lemmas.Bool.{ltb-false}
use Rattle.std.proofs.lemmas.List.{length-map, map-append}
use Rattle.std.proofs.lemmas.List.Elements.{All-append, All-map, All-nil, All-weaker}
use Rattle.std.proofs.lemmas.Option.{slice_get_within}
use Rattle.desc_lines.specs.Names.{is_name}
use Rattle.desc_lines.specs.Whole.{IsWholeKind}
use Rattle.desc_lines.specs.Written.{WrittenAggOf, WrittenColumnOf, WrittenCondOf, WrittenKindOf}
use Rattle.desc_lines.specs.Written.{WrittenPairOf, WrittenSourceOf}
use Rattle.desc_lines.specs.Written.{Raw, Filter, Group, Join}
use Rattle.desc_types.specs.declared.table.Column.{Column}
use Rattle.desc_types.specs.declared.table.Feed.{Feed}
use Rattle.desc_types.specs.Descriptions.{DescOf}
use Rattle.desc_types.specs.Tables.{TableOf}
use Rattle.desc_types.specs.Lookups.{find_feed, read_type, source_columns}
use Rattle.desc_types.specs.Columns.{are_different}
use Rattle.desc_causes.specs.Causes.{gives_bad_name, has_bad_type}
use Rattle.desc_causes.specs.Causes.{is_absent, is_text, is_text_sum, lacks}
use Rattle.desc_causes.specs.Causes.{lacks_column, lacks_feed, lacks_some, lacks_source, time_type}
use Rattle.desc_causes.specs.Causes.{written_names}
use Rattle.table_desc.specs.Declarations.{FillingOf, agg_column, column_number}
use Rattle.desc_types.specs.Columns.{agg_type}
use Rattle.table_desc.specs.Declarations.{declared_agg, declared_column, declared_filling, declared_pair, found}
use Rattle.desc_types.specs.Columns.{kept_columns}
use Rattle.table_desc.specs.SaidLines.{IsSaidKind}
use Rattle.desc_types.specs.Accepted.{IsAccepted, IsGroup, IsKind, IsNamed, NamesColumn}
use Rattle.desc_types.specs.Accepted.{column_names, column_types}
use Rattle.desc_types.proofs.BoolLemmas.{or-none}
use Rattle.desc_types.proofs.ListLemmas.{list_any-not}
use Rattle.table_desc.proofs.LookupLemmas.{IsEarlier, IsPlace-found, position-within}
use Rattle.table_desc.proofs.LookupLemmas.{source_columns-found, table_columns-found}
use Rattle.table_desc.proofs.KeptLemmas.{column_numbers-within, kept-each, kept-names, length-kept}
use Rattle.table_desc.proofs.PartsLemmas.{aggs-fit, conds-fit, length-conds, pairs-fit}
use Rattle.table_desc.proofs.RawLemmas.{agg-named, agg-names, declared-named, declared-names}
use Rattle.table_desc.proofs.RawLemmas.{time-int}
use Rattle.table_desc.proofs.JoinLemmas.{joined-different, joined-named, length-joined}
use Rattle.table_desc.proofs.FineLemmas.{IsFew, source_columns-each}

-- a kind of which no test holds, as far as it goes without the table's name and width
pub record IsFineKind (desc : DescOf) (kind : WrittenKindOf) : Type 0 where
  pub named : gives_bad_name kind ≡ false
  pub different : are_different (written_names kind) ≡ true
  pub feed : lacks_feed desc kind ≡ false
  pub source : lacks_source desc kind ≡ false
  pub column : lacks_column desc kind ≡ false
  pub typed : has_bad_type desc kind ≡ false
  pub few : IsFew desc kind

-- what fills the next table
pub record IsFilled (desc : DescOf) (filling : FillingOf) : Type 0 where
  pub some : 0 < length filling.columns
  pub few : length filling.columns ≤ 16
  pub named : All (λ (column : Column). NamesColumn (length desc.tables) column.name)
      filling.columns
  pub different : are_different (column_names filling.columns) ≡ true
  pub kind : IsKind desc filling.columns filling.kind

-- a feed that was found
feed-within : (desc : DescOf) (name : List ℕ) → is_none (find_feed desc name) ≡ false
    → found (find_feed desc name) < length desc.feeds
feed-within desc name there =
    let feed = IsPlace-found (λ (feed : Feed). bytes_eq feed.name name) desc.feeds there in
    rw feed.found (position-within (λ (feed : Feed). bytes_eq feed.name name) desc.feeds
    feed.place feed.found)

-- the columns of a source name columns of the next table
source-named : (desc : DescOf) (name : List ℕ) → IsAccepted desc
    → All (λ (column : Column). NamesColumn (length desc.tables) column.name)
    (source_columns desc name)
source-named desc name accepted = source_columns-each desc name
    (All (λ (column : Column). NamesColumn (length desc.tables) column.name))
    (All-nil (λ (column : Column). NamesColumn (length desc.tables) column.name))
    (λ number table there.
    let within = slice_get_within desc.tables number table there in
    All-weaker (λ (column : Column). NamesColumn number column.name)
    (λ (column : Column). NamesColumn (length desc.tables) column.name)
    (λ column named. record {
      begins = named.begins;
      bytes = named.bytes;
      free = named.free;
      short = omega (arith, named.short, within);
    }) table.columns (accepted.each number table there).named)

-- a source that is not absent
pub IsEarlier-there : (desc : DescOf) (source : WrittenSourceOf) → is_absent desc source ≡ false
    → IsEarlier desc source.table
IsEarlier-there desc source there =
    IsPlace-found (λ (table : TableOf). bytes_eq table.name source.table) desc.tables there

IsFilled-raw : (desc : DescOf) (feed time : List ℕ) (columns : List WrittenColumnOf)
    → IsWholeKind (Raw feed time columns) → IsFineKind desc (Raw feed time columns)
    → IsFilled desc (declared_filling desc (Raw feed time columns))
IsFilled-raw desc feed time columns whole fine =
    let typed = or-none (list_any (λ (column : WrittenColumnOf). is_none (read_type column.ty))
    columns) (is_text (time_type columns time)) fine.typed in
    let many = length-map columns declared_column in
    let named = list_any-not (λ (column : WrittenColumnOf). is_name column.name) columns fine.named in
    record {
      some = omega (arith, many, whole.some);
      few = omega (arith, many, fine.few.columns);
      named = declared-named (length desc.tables) columns named;
      different = ap are_different (declared-names columns) ∙ fine.different;
      kind = record {
        declared = feed-within desc feed fine.feed;
        int = time-int columns time fine.column typed.0 typed.1;
        named = All-map IsNamed declared_column columns named;
      };
    }

IsFilled-filter : (desc : DescOf) (source : WrittenSourceOf) (conds : List WrittenCondOf)
    (keep : List (List ℕ)) → IsAccepted desc → IsSaidKind (Filter source conds keep)
    → IsFineKind desc (Filter source conds keep)
    → IsFilled desc (declared_filling desc (Filter source conds keep))
IsFilled-filter desc source conds keep accepted said fine =
    let columns = source_columns desc source.table in
    let there = or-none (list_any (λ (cond : WrittenCondOf). lacks columns cond.column) conds)
    (list_any (lacks columns) keep) fine.column in
    let earlier = IsEarlier-there desc source (or-none (is_absent desc source) false fine.source).0 in
    let many = length-kept columns keep there.1 in
    let made = length-conds columns conds said.literals there.0 fine.typed in
    record {
      some = omega (arith, many, said.whole.1);
      few = omega (arith, many, fine.few.columns);
      named = kept-each (λ (column : Column). NamesColumn (length desc.tables) column.name) columns
          (map (column_number columns) keep) (source-named desc source.table accepted);
      different = ap are_different (kept-names columns keep there.1) ∙ fine.different;
      kind = rw (table_columns-found desc source.table earlier) (record {
        some = omega (arith, made, said.whole.0);
        few = omega (arith, made, ltb-false 8 (length conds) fine.few.parts);
        each_cond = conds-fit columns conds said.literals there.0 fine.typed;
        each_kept = column_numbers-within columns keep there.1;
        kept = refl;
      });
    }

-- the names of a group's columns
group-names : (columns : List Column) (keys : List (List ℕ)) (aggs : List WrittenAggOf)
    → list_any (lacks columns) keys ≡ false
    → column_names (kept_columns columns (map (column_number columns) keys)
    ++ map (agg_column columns) aggs)
    ≡ keys ++ map (λ (agg : WrittenAggOf). agg.name) aggs
group-names columns keys aggs there =
    map-append (λ (column : Column). column.name)
    (kept_columns columns (map (column_number columns) keys)) (map (agg_column columns) aggs)
    ∙ rw (kept-names columns keys there, agg-names columns aggs) refl

-- the types of a group's aggregates
agg-types : (columns : List Column) (aggs : List WrittenAggOf)
    → column_types (map (agg_column columns) aggs)
    ≡ map (agg_type columns) (map (declared_agg columns) aggs)
agg-types columns [] = refl
agg-types columns (agg ∷ aggs) =
    ap (λ types. agg_type columns (declared_agg columns agg) ∷ types) (agg-types columns aggs)

-- what fills a group over columns that there are
IsGroup-fine : (columns : List Column) (keys : List (List ℕ)) (aggs : List WrittenAggOf)
    (source : WrittenSourceOf) → IsWholeKind (Group source keys aggs)
    → All (λ (agg : WrittenAggOf). is_name agg.name ≡ true) aggs
    → list_any (lacks columns) keys ≡ false
    → list_any (λ (agg : WrittenAggOf). lacks_some columns agg.column) aggs ≡ false
    → list_any (is_text_sum columns) aggs ≡ false → nat_lt 4 (length keys) ≡ false
    → IsGroup columns (kept_columns columns (map (column_number columns) keys)
    ++ map (agg_column columns) aggs)
    (map (column_number columns) keys) (map (declared_agg columns) aggs)
IsGroup-fine columns keys aggs source whole named there over typed few =
    let kept = kept_columns columns (map (column_number columns) keys) in
    let numbers = length-map keys (column_number columns) in
    let same = numbers ∙ sym (length-kept columns keys there) in
    record {
      some_keys = omega (arith, numbers, whole.0.some);
      few_keys = omega (arith, numbers, ltb-false 4 (length keys) few);
      each_key = column_numbers-within columns keys there;
      some_aggs = omega (arith, length-map aggs (declared_agg columns), whole.1.some);
      each_agg = aggs-fit columns aggs whole.1.each over typed;
      key_columns = rw same (take-append_seam kept (map (agg_column columns) aggs));
      agg_columns = rw same (ap column_types (drop-append_seam kept (map (agg_column columns) aggs))
          ∙ agg-types columns aggs);
      named = rw (same, drop-append_seam kept (map (agg_column columns) aggs))
          (All-map IsNamed (agg_column columns) aggs named);
    }

IsFilled-group : (desc : DescOf) (source : WrittenSourceOf) (keys : List (List ℕ))
    (aggs : List WrittenAggOf) → IsAccepted desc → IsWholeKind (Group source keys aggs)
    → IsFineKind desc (Group source keys aggs)
    → IsFilled desc (declared_filling desc (Group source keys aggs))
IsFilled-group desc source keys aggs accepted whole fine =
    let columns = source_columns desc source.table in
    let kept = kept_columns columns (map (column_number columns) keys) in
    let there = or-none (list_any (lacks columns) keys)
    (list_any (λ (agg : WrittenAggOf). lacks_some columns agg.column) aggs) fine.column in
    let earlier = IsEarlier-there desc source (or-none (is_absent desc source) false fine.source).0 in
    let many = length-append kept (map (agg_column columns) aggs) in
    let keys_many = length-kept columns keys there.0 in
    let aggs_many = length-map aggs (agg_column columns) in
    let named = list_any-not (λ (agg : WrittenAggOf). is_name agg.name) aggs fine.named in
    record {
      some = omega (arith, many, keys_many, whole.0.some);
      few = omega (arith, many, keys_many, aggs_many, fine.few.columns);
      named = All-append (λ (column : Column). NamesColumn (length desc.tables) column.name)
          kept (map (agg_column columns) aggs)
          (kept-each (λ (column : Column). NamesColumn (length desc.tables) column.name) columns
          (map (column_number columns) keys) (source-named desc source.table accepted))
          (agg-named (length desc.tables) columns aggs named);
      different = ap are_different (group-names columns keys aggs there.0) ∙ fine.different;
      kind = rw (table_columns-found desc source.table earlier)
          (IsGroup-fine columns keys aggs source whole named there.0 there.1 fine.typed
          fine.few.parts);
    }

IsFilled-join : (desc : DescOf) (left right : WrittenSourceOf) (on : List WrittenPairOf)
    → IsAccepted desc → IsWholeKind (Join left right on) → IsFineKind desc (Join left right on)
    → IsFilled desc (declared_filling desc (Join left right on))
IsFilled-join desc left right on accepted whole fine =
    let left_columns = source_columns desc left.table in
    let right_columns = source_columns desc right.table in
    let absent = or-none (is_absent desc left) _ fine.source in
    let earlier_left = IsEarlier-there desc left absent.0 in
    let earlier_right = IsEarlier-there desc right (or-none (is_absent desc right) false absent.1).0 in
    let table_left = accepted.each earlier_left.place earlier_left.item earlier_left.there in
    let table_right = accepted.each earlier_right.place earlier_right.item earlier_right.there in
    let many = length-joined left_columns right_columns in
    let same_left = source_columns-found desc left.table earlier_left in
    let same_right = source_columns-found desc right.table earlier_right in
    record {
      some = omega (arith, many, ap length same_left, table_left.some);
      few = omega (arith, many, fine.few.columns);
      named = joined-named earlier_left.place earlier_right.place (length desc.tables)
          left_columns right_columns
          (slice_get_within desc.tables earlier_left.place earlier_left.item earlier_left.there)
          (slice_get_within desc.tables earlier_right.place earlier_right.item earlier_right.there)
          (rw same_left table_left.named) (rw same_right table_right.named);
      different = joined-different left_columns right_columns
          (rw same_left table_left.different) (rw same_right table_right.different);
      kind = rw (
        table_columns-found desc left.table earlier_left,
        table_columns-found desc right.table earlier_right,
      )
          (record {
            some = omega (arith, length-map on (declared_pair left_columns right_columns), whole.some);
            few = omega (
              arith,
              length-map on (declared_pair left_columns right_columns),
              ltb-false 4 (length on) fine.few.parts,
            );
            each_pair = pairs-fit left_columns right_columns on fine.column fine.typed;
            joined = refl;
          });
    }

-- so is each kind
pub IsFilled-fine : (desc : DescOf) (kind : WrittenKindOf) → IsAccepted desc → IsSaidKind kind
    → IsFineKind desc kind → IsFilled desc (declared_filling desc kind)
IsFilled-fine desc (Raw feed time columns) accepted said fine =
    IsFilled-raw desc feed time columns said.whole fine
IsFilled-fine desc (Filter source conds keep) accepted said fine =
    IsFilled-filter desc source conds keep accepted said fine
IsFilled-fine desc (Group source keys aggs) accepted said fine =
    IsFilled-group desc source keys aggs accepted said.whole fine
IsFilled-fine desc (Join left right on) accepted said fine =
    IsFilled-join desc left right on accepted said.whole fine
