-- Of the columns that a table's own line names none is lacking, and none has a bad name or type.
use Rattle.std.proofs.Common.{drop, ◌≡◌, ◌∙◌, ℕ, suc, ◌<◌, List, [], ◌∷◌, Option, Some, None, Bool}
use Rattle.std.proofs.Common.{true, false, length, map, refl, ap, arith}
use Rattle.std.specs.Prelude.{All, IsSomeAnd, ◌||◌, is_none}
use Rattle.std.specs.List.{list_any}
use Rattle.std.proofs.lemmas.List.Elements.{All-weaker}
use Rattle.std.proofs.lemmas.List.Folds.{list_any_none}
use Rattle.depot_cell.specs.declared.cell.Ty.{Ty}
use Rattle.depot_cell.specs.declared.cell.Ty.TheVariants as ty
use Rattle.depot_cell.specs.Reading.{IsCellOf}
use Rattle.depot_cell.specs.Spelling.{text_of}
use Rattle.desc_lines.specs.declared.fun.Fun.{Fun}
use Rattle.desc_lines.specs.declared.fun.Fun.TheVariants as fun
use Rattle.desc_lines.specs.Written.{WrittenAggOf, WrittenCondOf}
use Rattle.desc_types.specs.declared.table.Column.{Column}
use Rattle.desc_types.specs.declared.view.Agg.{Agg}
use Rattle.desc_types.specs.declared.view.Cond.{Cond}
use Rattle.desc_types.specs.declared.view.Pair.{Pair}
use Rattle.desc_types.specs.Columns.{are_different}
use Rattle.desc_types.specs.Lookups.{find_type}
use Rattle.desc_types.specs.Accepted.{Computes, IsCond, IsFilter, IsGroup, IsPair, column_names}
use Rattle.desc_types.specs.Accepted.{column_type}
use Rattle.desc_types.proofs.ListLemmas.{list_any-map}
use Rattle.desc_causes.specs.Causes.{has_odd_literal, have_two_types, is_odd_literal, is_odd_pair}
use Rattle.desc_causes.specs.Causes.{is_text_sum, lacks, lacks_side, lacks_some, sums_texts}
use Rattle.desc_causes.specs.Causes.{type_over}
use Rattle.table_desc.specs.Canonical.{aggs_spelled, column_name, cond_spelled, over_spelled}
use Rattle.table_desc.specs.Canonical.{pair_spelled}
use Rattle.table_desc.proofs.PrefixLemmas.{find_column-named, find_type-named}
use Rattle.table_desc.proofs.SpelledPartLemmas.{column_type-within}
use Rattle.table_desc.proofs.SpelledNumberLemmas.{value_of-spelled}

-- two tests that fail
pub or-fails : (left right : Bool) → left ≡ false → right ≡ false → (left || right) ≡ false
or-fails true right first second = absurd cc
or-fails false right first second = second

-- a test of what is made of items fails, if it fails for each item of which a fact is known
pub list_any-map-none : {X Y : Type 0} (f : X → Y) (test : Y → Bool) (P : X → Type 0) (xs : List X)
    → ((x : X) → P x → test (f x) ≡ false) → All P xs → list_any test (map f xs) ≡ false
list_any-map-none f test P xs fails each = list_any-map f test xs
    ∙ list_any_none (λ x. test (f x)) xs (All-weaker P (λ x. test (f x) ≡ false) fails xs each)

-- the columns of a source go by different names
abbrev pub Differ : List Column → Type 0
Differ columns = are_different (column_names columns) ≡ true

-- the type of a column that has one, of which a fact is known
record HasType (columns : List Column) (number : ℕ) (P : Ty → Type 0) : Type 0 where
  of : Ty
  is : column_type columns number ≡ Some of
  within : number < length columns
  holds : P of

HasType-some : (columns : List Column) (number : ℕ) (P : Ty → Type 0)
    → IsSomeAnd (column_type columns number) P → HasType columns number P
HasType-some columns number P typed = by_type (column_type columns number) refl typed
  where
    by_type : (found : Option Ty) → column_type columns number ≡ found → IsSomeAnd found P
        → HasType columns number P
    by_type None is typed = absurd typed
    by_type (Some of) is typed = record {
      of = of;
      is = is;
      within = column_type-within columns number of is;
      holds = typed;
    }

-- a column that is there is not lacking
lacks-named : (columns : List Column) (number : ℕ) → Differ columns → number < length columns
    → lacks columns (column_name columns number) ≡ false
lacks-named columns number different within =
    ap is_none (find_column-named columns number different within)

-- nor are the columns with some numbers
lacks-each : (columns : List Column) (numbers : List ℕ) → Differ columns
    → All (λ number. number < length columns) numbers
    → list_any (lacks columns) (map (column_name columns) numbers) ≡ false
lacks-each columns numbers different each =
    list_any-map-none (column_name columns) (lacks columns) (λ number. number < length columns)
    numbers (λ number within. lacks-named columns number different within) each

-- the columns of conditions are there
lacks-conds : (columns : List Column) (conds : List Cond) → Differ columns
    → All (IsCond columns) conds
    → list_any (λ (cond : WrittenCondOf). lacks columns cond.column)
    (map (cond_spelled columns) conds) ≡ false
lacks-conds columns conds different each =
    list_any-map-none (cond_spelled columns) (λ cond. lacks columns cond.column) (IsCond columns)
    conds (λ cond is.
    let typed = HasType-some columns cond.column (λ of. IsCellOf of cond.value) is.typed in
    lacks-named columns cond.column different typed.within) each

-- so are all columns of a filter
pub lacks-filter : (source own : List Column) (conds : List Cond) (keep : List ℕ) → Differ source
    → IsFilter source own conds keep
    → (list_any (λ (cond : WrittenCondOf). lacks source cond.column)
    (map (cond_spelled source) conds)
    || list_any (lacks source) (map (column_name source) keep)) ≡ false
lacks-filter source own conds keep different is =
    or-fails _ _ (lacks-conds source conds different is.each_cond)
    (lacks-each source keep different is.each_kept)

-- the text of a condition's value is a value of its column's type
has_odd_literal-cond : (columns : List Column) (cond : Cond) → Differ columns
    → IsCond columns cond → has_odd_literal columns (cond_spelled columns cond) ≡ false
has_odd_literal-cond columns cond different is =
    let typed = HasType-some columns cond.column (λ of. IsCellOf of cond.value) is.typed in
    ap (λ of. is_odd_literal of (text_of cond.value))
    (find_type-named columns cond.column different typed.within ∙ typed.is)
    ∙ ap is_none (value_of-spelled typed.of cond.value typed.holds)

pub has_odd_literal-conds : (columns : List Column) (conds : List Cond) → Differ columns
    → All (IsCond columns) conds
    → list_any (has_odd_literal columns) (map (cond_spelled columns) conds) ≡ false
has_odd_literal-conds columns conds different each =
    list_any-map-none (cond_spelled columns) (has_odd_literal columns) (IsCond columns) conds
    (λ cond is. has_odd_literal-cond columns cond different is) each

-- what an aggregate is over is there
lacks_some-over : (columns : List Column) (fun : Fun) (column : ℕ) → Differ columns
    → Computes fun columns column → lacks_some columns (over_spelled columns fun column) ≡ false
lacks_some-over columns fun.Count column different is = refl
lacks_some-over columns fun.Sum column different is =
    lacks-named columns column different (column_type-within columns column ty.Int is)
lacks_some-over columns fun.Least column different is = lacks-named columns column different is
lacks_some-over columns fun.Greatest column different is = lacks-named columns column different is

-- a sum is not over texts
sums_texts-over : (columns : List Column) (fun : Fun) (column : ℕ) → Differ columns
    → Computes fun columns column
    → sums_texts fun (type_over columns (over_spelled columns fun column)) ≡ false
sums_texts-over columns fun.Count column different is = refl
sums_texts-over columns fun.Sum column different is = ap (sums_texts fun.Sum)
    (find_type-named columns column different (column_type-within columns column ty.Int is) ∙ is)
sums_texts-over columns fun.Least column different is = refl
sums_texts-over columns fun.Greatest column different is = refl

-- a test of aggregates fails, if it fails for each
aggs-none : (test : WrittenAggOf → Bool) (P : Agg → Type 0) (columns own : List Column)
    (aggs : List Agg)
    → ((agg : Agg) (name : List ℕ) → P agg
    → test (record {
      fun = agg.fun;
      column = over_spelled columns agg.fun agg.column;
      name = name;
    }) ≡ false)
    → All P aggs → list_any test (aggs_spelled columns own aggs) ≡ false
aggs-none test P columns [] aggs fails each = refl
aggs-none test P columns (own ∷ owns) [] fails each = refl
aggs-none test P columns (own ∷ owns) (agg ∷ aggs) fails each =
    or-fails _ _ (fails agg own.name (each 0 agg (omega arith)))
    (aggs-none test P columns owns aggs fails
    (λ index default within. each (suc index) default (omega (arith, within))))

-- the columns of aggregates are there
lacks_some-aggs : (columns own : List Column) (aggs : List Agg) → Differ columns
    → All (λ (agg : Agg). Computes agg.fun columns agg.column) aggs
    → list_any (λ (agg : WrittenAggOf). lacks_some columns agg.column)
    (aggs_spelled columns own aggs) ≡ false
lacks_some-aggs columns own aggs different each =
    aggs-none (λ agg. lacks_some columns agg.column)
    (λ (agg : Agg). Computes agg.fun columns agg.column) columns own aggs
    (λ agg name is. lacks_some-over columns agg.fun agg.column different is) each

-- so are all columns of a group
pub lacks-group : (source own : List Column) (keys : List ℕ) (aggs : List Agg) → Differ source
    → IsGroup source own keys aggs
    → (list_any (lacks source) (map (column_name source) keys)
    || list_any (λ (agg : WrittenAggOf). lacks_some source agg.column)
    (aggs_spelled source (drop (length keys) own) aggs)) ≡ false
lacks-group source own keys aggs different is =
    or-fails _ _ (lacks-each source keys different is.each_key)
    (lacks_some-aggs source (drop (length keys) own) aggs different is.each_agg)

-- no sum of a group is over texts
pub is_text_sum-aggs : (columns own : List Column) (aggs : List Agg) → Differ columns
    → All (λ (agg : Agg). Computes agg.fun columns agg.column) aggs
    → list_any (is_text_sum columns) (aggs_spelled columns own aggs) ≡ false
is_text_sum-aggs columns own aggs different each =
    aggs-none (is_text_sum columns) (λ (agg : Agg). Computes agg.fun columns agg.column) columns own
    aggs (λ agg name is. sums_texts-over columns agg.fun agg.column different is) each

-- both sides of a pair are there
pub lacks_side-pairs : (left right : List Column) (on : List Pair) → Differ left → Differ right
    → All (IsPair left right) on
    → list_any (lacks_side left right) (map (pair_spelled left right) on) ≡ false
lacks_side-pairs left right on left_differ right_differ each =
    list_any-map-none (pair_spelled left right) (lacks_side left right) (IsPair left right) on
    (λ pair is.
    let typed = HasType-some left pair.left (λ of. column_type right pair.right ≡ Some of) is in
    or-fails _ _ (lacks-named left pair.left left_differ typed.within)
    (lacks-named right pair.right right_differ
    (column_type-within right pair.right typed.of typed.holds))) each

-- one type is not two
have_two_types-same : (of : Ty) → have_two_types (Some of) (Some of) ≡ false
have_two_types-same ty.Int = refl
have_two_types-same ty.Text = refl

-- the columns of a pair have one type
is_odd_pair-pair : (left right : List Column) (pair : Pair) → Differ left → Differ right
    → IsPair left right pair → is_odd_pair left right (pair_spelled left right pair) ≡ false
is_odd_pair-pair left right pair left_differ right_differ is =
    let typed = HasType-some left pair.left (λ of. column_type right pair.right ≡ Some of) is in
    let within = column_type-within right pair.right typed.of typed.holds in
    ap (λ of. have_two_types of (find_type right (column_name right pair.right)))
    (find_type-named left pair.left left_differ typed.within ∙ typed.is)
    ∙ ap (have_two_types (Some typed.of))
    (find_type-named right pair.right right_differ within ∙ typed.holds)
    ∙ have_two_types-same typed.of

pub is_odd_pair-pairs : (left right : List Column) (on : List Pair) → Differ left → Differ right
    → All (IsPair left right) on
    → list_any (is_odd_pair left right) (map (pair_spelled left right) on) ≡ false
is_odd_pair-pairs left right on left_differ right_differ each =
    list_any-map-none (pair_spelled left right) (is_odd_pair left right) (IsPair left right) on
    (λ pair is. is_odd_pair-pair left right pair left_differ right_differ is) each
