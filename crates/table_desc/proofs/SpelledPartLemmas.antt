-- The parts of a table in words: names by their numbers, sources, columns, conditions, aggregates
-- and pairs.
use Rattle.std.proofs.Common.{◌≡◌, ◌∙◌, ℕ, ◌<◌, List, [], ◌∷◌, ◌++◌, Option, None, Some, true}
use Rattle.std.proofs.Common.{length, map, flat_map, refl, sym, subst, arith}
use Rattle.std.specs.Prelude.{All, IsSomeAnd, codes, is_none, option_map, slice_get}
use Rattle.std.specs.List.{AllByRecursion}
use Rattle.std.proofs.lemmas.List.{length-map}
use Rattle.std.proofs.lemmas.List.Elements.{All-map, All-nil, recursion_from_All}
use Rattle.std.proofs.lemmas.Option.{slice_get-get_or, slice_get-map, slice_get_within}
use Rattle.depot_cell.specs.Cells.{IsCell}
use Rattle.depot_cell.specs.Reading.{IsCellOf}
use Rattle.depot_cell.specs.Spelling.{text_of}
use Rattle.depot_cell.specs.declared.cell.Ty.{Ty}
use Rattle.depot_cell.specs.declared.cell.Ty.TheVariants as ty
use Rattle.desc_lines.specs.declared.fun.Fun.{Fun}
use Rattle.desc_lines.specs.declared.fun.Fun.TheVariants as fun
use Rattle.desc_lines.specs.Lines.{colon, equals}
use Rattle.desc_lines.specs.LineTexts.{agg_word, agg_words, column_word, conds_words, op_word}
use Rattle.desc_lines.specs.LineTexts.{pair_word, source_words}
use Rattle.desc_lines.specs.Names.{is_name}
use Rattle.desc_lines.specs.Whole.{AreSome, IsWholeAgg, IsWholeColumn, IsWholeKey, IsWholePair}
use Rattle.desc_lines.specs.Whole.{is_count}
use Rattle.desc_lines.specs.Written.{WrittenCondOf}
use Rattle.desc_lines.proofs.ListLemmas.{each-append}
use Rattle.desc_types.specs.declared.table.Column.{Column}
use Rattle.desc_types.specs.declared.table.Feed.{Feed}
use Rattle.desc_types.specs.declared.view.Agg.{Agg}
use Rattle.desc_types.specs.declared.view.Cond.{Cond}
use Rattle.desc_types.specs.declared.view.Pair.{Pair}
use Rattle.desc_types.specs.declared.view.Src.{Src}
use Rattle.desc_types.specs.Accepted.{Computes, IsAccepted, IsCond, IsNamed, IsPair, NamesColumn}
use Rattle.desc_types.specs.Accepted.{column_type}
use Rattle.desc_types.specs.Descriptions.{DescOf}
use Rattle.desc_types.specs.Lookups.{columns_of, table_columns}
use Rattle.desc_types.specs.Tables.{TableOf}
use Rattle.desc_types.proofs.ListLemmas.{option_map-some}
use Rattle.table_desc.specs.Canonical.{aggs_spelled, column_name, column_spelled, cond_spelled}
use Rattle.table_desc.specs.Canonical.{feed_name, or_nothing, over_spelled, pair_spelled}
use Rattle.table_desc.specs.Canonical.{source_spelled, table_name, type_word}
use Rattle.table_desc.proofs.SpelledWordLemmas.{IsSpelled, IsSpelled-plain, IsSpelled-text_of}
use Rattle.table_desc.proofs.SpelledWordLemmas.{Lacks-named, is_agg-named, is_plain}
use Rattle.table_desc.proofs.SpelledWordLemmas.{is_plain-joined, is_plain-name, is_plain-named}
use Rattle.table_desc.proofs.SpelledWordLemmas.{is_plain-op_word, is_plain-signed_decimal}
use Rattle.table_desc.proofs.SpelledWordLemmas.{is_plain-type_word}

-- plain words
abbrev pub ArePlain : List (List ℕ) → Type 0
ArePlain words = AllByRecursion (λ word. is_plain word ≡ true) words

-- columns whose names name columns of the table with this number
abbrev pub AreNamed : (number : ℕ) → List Column → Type 0
AreNamed number columns = All (λ (column : Column). NamesColumn number column.name) columns

-- what is so of each item is so of each item of a list of images
pub each-map : {X Y : Type 0} (P : X → Type 0) (Q : Y → Type 0) (f : X → Y) (xs : List X)
    → ((x : X) → P x → Q (f x)) → AllByRecursion P xs → AllByRecursion Q (map f xs)
each-map P Q f [] follows each = tt
each-map P Q f (x ∷ xs) follows each = (follows x each.0, each-map P Q f xs follows each.1)

-- and what follows from it is so too
pub each-weaker : {X : Type 0} (P Q : X → Type 0) (xs : List X) → ((x : X) → P x → Q x)
    → AllByRecursion P xs → AllByRecursion Q xs
each-weaker P Q [] follows each = tt
each-weaker P Q (x ∷ xs) follows each = (follows x each.0, each-weaker P Q xs follows each.1)

-- plain words after plain words
pub ArePlain-append : (front back : List (List ℕ)) → ArePlain front → ArePlain back
    → ArePlain (front ++ back)
ArePlain-append front back before after =
    each-append (λ word. is_plain word ≡ true) front back before after

-- what is so of all names is so of the one with a number
or_nothing-each : {X : Type 0} (P : List ℕ → Type 0) (name : X → List ℕ) (items : List X)
    (number : ℕ) → number < length items → All P (map name items)
    → P (or_nothing (option_map name (slice_get items number)))
or_nothing-each P name items number within each =
    let inside : number < length (map name items) = omega (arith, within, length-map items name) in
    subst (λ found. P (or_nothing found))
    (sym (slice_get-get_or (map name items) number [] inside) ∙ slice_get-map name items number)
    (each number [] inside)

-- the name of a feed is plain, and so are those that follow
pub is_plain-feed_name : (desc : DescOf) (number : ℕ) → IsAccepted desc
    → number < length desc.feeds → is_plain (feed_name desc number) ≡ true
is_plain-feed_name desc number accepted within = is_plain-name (feed_name desc number)
    (or_nothing-each (λ name. is_name name ≡ true) (λ (feed : Feed). feed.name) desc.feeds number
    within accepted.feed_names.each)

-- the name of a table
is_plain-table_name : (desc : DescOf) (number : ℕ) → IsAccepted desc
    → number < length desc.tables → is_plain (table_name desc number) ≡ true
is_plain-table_name desc number accepted within = is_plain-name (table_name desc number)
    (or_nothing-each (λ name. is_name name ≡ true) (λ (table : TableOf). table.name) desc.tables
    number within accepted.table_names.each)

-- the name of a column
column_name-named : (earlier : ℕ) (columns : List Column) (number : ℕ) → AreNamed earlier columns
    → number < length columns → NamesColumn earlier (column_name columns number)
column_name-named earlier columns number named within =
    or_nothing-each (NamesColumn earlier) (λ (column : Column). column.name) columns number within
    (All-map (NamesColumn earlier) (λ (column : Column). column.name) columns named)

-- it is plain
pub is_plain-column_name : (earlier : ℕ) (columns : List Column) (number : ℕ)
    → AreNamed earlier columns → number < length columns
    → is_plain (column_name columns number) ≡ true
is_plain-column_name earlier columns number named within =
    is_plain-named earlier _ (column_name-named earlier columns number named within)

-- the names of columns with numbers
column_names-named : (earlier : ℕ) (columns : List Column) (numbers : List ℕ)
    → AreNamed earlier columns → All (λ number. number < length columns) numbers
    → AllByRecursion (NamesColumn earlier) (map (column_name columns) numbers)
column_names-named earlier columns numbers named within =
    each-map (λ number. number < length columns) (NamesColumn earlier) (column_name columns)
    numbers (λ number inside. column_name-named earlier columns number named inside)
    (recursion_from_All _ numbers within)

-- they are plain
pub ArePlain-names : (earlier : ℕ) (columns : List Column) (numbers : List ℕ)
    → AreNamed earlier columns → All (λ number. number < length columns) numbers
    → ArePlain (map (column_name columns) numbers)
ArePlain-names earlier columns numbers named within =
    each-weaker (NamesColumn earlier) (λ word. is_plain word ≡ true)
    (map (column_name columns) numbers) (is_plain-named earlier)
    (column_names-named earlier columns numbers named within)

-- a table of an accepted description has columns with names
pub table_columns-named : (desc : DescOf) (number : ℕ) → IsAccepted desc
    → AreNamed number (table_columns desc number)
table_columns-named desc number accepted = by_table (slice_get desc.tables number) refl
  where
    by_table : (table : Option TableOf) → slice_get desc.tables number ≡ table
        → AreNamed number (columns_of table)
    by_table None there = All-nil (λ (column : Column). NamesColumn number column.name)
    by_table (Some table) there = (accepted.each number table there).named

-- a column with a type is there
pub column_type-within : (columns : List Column) (number : ℕ) (ty : Ty)
    → column_type columns number ≡ Some ty → number < length columns
column_type-within columns number ty typed =
    option_map-some (λ (column : Column). column.ty) (slice_get columns number) ty typed
    (λ column there same. slice_get_within columns number column there)

-- what follows from each value follows from one that is there
IsSomeAnd-then : {X : Type 0} (found : Option X) (P : X → Type 0) (Q : Type 0)
    → ((x : X) → P x → Q) → IsSomeAnd found P → Q
IsSomeAnd-then None P Q follows some = absurd some
IsSomeAnd-then (Some x) P Q follows some = follows x some

-- a column with a type of which something is so is there
column_type-some : (columns : List Column) (number : ℕ) (P : Ty → Type 0)
    → IsSomeAnd (column_type columns number) P → number < length columns
column_type-some columns number P some = by_type (column_type columns number) refl some
  where
    by_type : (found : Option Ty) → column_type columns number ≡ found → IsSomeAnd found P
        → number < length columns
    by_type None there some = absurd some
    by_type (Some ty) there some = column_type-within columns number ty there

-- the words of a source
pub ArePlain-source : (desc : DescOf) (source : Src) → IsAccepted desc
    → source.table < length desc.tables → ArePlain (source_words (source_spelled desc source))
ArePlain-source desc source accepted within = (
  is_plain-table_name desc source.table accepted within,
  (is_plain-signed_decimal source.span.lo, (is_plain-signed_decimal source.span.hi, tt)),
)

-- the words of the columns of a raw table
pub ArePlain-columns : (number : ℕ) (columns : List Column) → AreNamed number columns
    → ArePlain (map column_word (map column_spelled columns))
ArePlain-columns number columns named = each-map (λ column. is_plain (column_word column) ≡ true)
    (λ word. is_plain word ≡ true) column_word (map column_spelled columns)
    (λ column plain. plain)
    (each-map (λ (column : Column). NamesColumn number column.name)
    (λ column. is_plain (column_word column) ≡ true) column_spelled columns
    (λ column names. is_plain-joined column.name colon (type_word column.ty)
    (is_plain-named number column.name names) refl (is_plain-type_word column.ty))
    (recursion_from_All _ columns named))

-- they are whole
pub AreSome-columns : (number : ℕ) (columns : List Column) → 0 < length columns
    → AreNamed number columns → AreSome IsWholeColumn (map column_spelled columns)
AreSome-columns number columns some named = record {
  some = omega (arith, some, length-map columns column_spelled);
  each = each-map (λ (column : Column). NamesColumn number column.name) IsWholeColumn
      column_spelled columns (λ column names. Lacks-named colon number column.name refl names)
      (recursion_from_All _ columns named);
}

-- keys are whole
pub AreSome-keys : (earlier : ℕ) (columns : List Column) (keys : List ℕ) → AreNamed earlier columns
    → 0 < length keys → All (λ number. number < length columns) keys
    → AreSome IsWholeKey (map (column_name columns) keys)
AreSome-keys earlier columns keys named some within = record {
  some = omega (arith, some, length-map keys (column_name columns));
  each = each-weaker (NamesColumn earlier) IsWholeKey (map (column_name columns) keys)
      (is_agg-named earlier) (column_names-named earlier columns keys named within);
}

-- the words of conditions can stand in a line, if those of each one can
conds_words-each : (P : List ℕ → Type 0) (conds : List WrittenCondOf) → P (codes "and")
    → AllByRecursion (λ cond. P cond.column × P (op_word cond.op) × P cond.literal) conds
    → AllByRecursion P (conds_words conds)
conds_words-each P [] between each = tt
conds_words-each P (cond ∷ []) between each = (each.0.0, (each.0.1, (each.0.2, tt)))
conds_words-each P (cond ∷ next ∷ others) between each = (
  each.0.0,
  (
    each.0.1,
    (
      each.0.2,
      (between, conds_words-each P (next ∷ others) between each.1),
    ),
  ),
)

-- the condition of a filter in words
cond_spelled-each : (earlier : ℕ) (columns : List Column) (cond : Cond) → AreNamed earlier columns
    → IsCond columns cond
    → IsSpelled (column_name columns cond.column) × IsSpelled (op_word cond.op)
    × IsSpelled (text_of cond.value)
cond_spelled-each earlier columns cond named is = (
  IsSpelled-plain _ (is_plain-column_name earlier columns cond.column named
      (column_type-some columns cond.column (λ ty. IsCellOf ty cond.value) is.typed)),
  IsSpelled-plain _ (is_plain-op_word cond.op),
  IsSpelled-text_of cond.value
      (IsSomeAnd-then (column_type columns cond.column) (λ ty. IsCellOf ty cond.value)
      (IsCell cond.value) (λ ty typed. typed.is_cell) is.typed) is.said,
)

-- the words of the conditions of a filter
pub AreSpelled-conds : (earlier : ℕ) (columns : List Column) (conds : List Cond)
    → AreNamed earlier columns → All (IsCond columns) conds
    → AllByRecursion IsSpelled (conds_words (map (cond_spelled columns) conds))
AreSpelled-conds earlier columns conds named each =
    conds_words-each IsSpelled (map (cond_spelled columns) conds)
    (IsSpelled-plain (codes "and") refl)
    (each-map (IsCond columns) _ (cond_spelled columns) conds
    (λ cond is. cond_spelled-each earlier columns cond named is)
    (recursion_from_All (IsCond columns) conds each))

-- the word of an aggregate
is_plain-agg_word : (earlier : ℕ) (columns : List Column) (fun_ : Fun) (column : ℕ)
    → AreNamed earlier columns → Computes fun_ columns column
    → is_plain (agg_word fun_ (over_spelled columns fun_ column)) ≡ true
is_plain-agg_word earlier columns fun.Count column named computes = refl
is_plain-agg_word earlier columns fun.Sum column named computes =
    is_plain-joined (codes "sum") colon (column_name columns column) refl refl
    (is_plain-column_name earlier columns column named
    (column_type-within columns column ty.Int computes))
is_plain-agg_word earlier columns fun.Least column named computes =
    is_plain-joined (codes "least") colon (column_name columns column) refl refl
    (is_plain-column_name earlier columns column named computes)
is_plain-agg_word earlier columns fun.Greatest column named computes =
    is_plain-joined (codes "greatest") colon (column_name columns column) refl refl
    (is_plain-column_name earlier columns column named computes)

-- the words of aggregates
agg_words-plain : (earlier : ℕ) (columns own : List Column) (aggs : List Agg)
    → AreNamed earlier columns → AllByRecursion IsNamed own
    → AllByRecursion (λ (agg : Agg). Computes agg.fun columns agg.column) aggs
    → ArePlain (flat_map agg_words (aggs_spelled columns own aggs))
agg_words-plain earlier columns [] aggs named own each = tt
agg_words-plain earlier columns (first ∷ owns) [] named own each = tt
agg_words-plain earlier columns (first ∷ owns) (agg ∷ aggs) named own each =
    let others = agg_words-plain earlier columns owns aggs named own.1 each.1 in (
      is_plain-agg_word earlier columns agg.fun agg.column named each.0,
      (refl, (is_plain-name first.name own.0, others)),
    )

-- the same of aggregates of a group
pub ArePlain-aggs : (earlier : ℕ) (columns own : List Column) (aggs : List Agg)
    → AreNamed earlier columns → All IsNamed own
    → All (λ (agg : Agg). Computes agg.fun columns agg.column) aggs
    → ArePlain (flat_map agg_words (aggs_spelled columns own aggs))
ArePlain-aggs earlier columns own aggs named own_named each =
    agg_words-plain earlier columns own aggs named (recursion_from_All IsNamed own own_named)
    (recursion_from_All (λ (agg : Agg). Computes agg.fun columns agg.column) aggs each)

-- they are whole
aggs_spelled-whole : (columns own : List Column) (aggs : List Agg)
    → AllByRecursion IsWholeAgg (aggs_spelled columns own aggs)
aggs_spelled-whole columns [] aggs = tt
aggs_spelled-whole columns (first ∷ owns) [] = tt
aggs_spelled-whole columns (first ∷ owns) (agg ∷ aggs) =
    (by_fun agg.fun, aggs_spelled-whole columns owns aggs)
  where
    by_fun : (fun_ : Fun)
        → is_none (over_spelled columns fun_ agg.column) ≡ is_count fun_
    by_fun fun.Sum = refl
    by_fun fun.Count = refl
    by_fun fun.Least = refl
    by_fun fun.Greatest = refl

-- and there is one, if there is an aggregate and a column for it
pub AreSome-aggs : (columns own : List Column) (aggs : List Agg) → 0 < length own
    → 0 < length aggs → AreSome IsWholeAgg (aggs_spelled columns own aggs)
AreSome-aggs columns own aggs some_own some =
    record { some = first own aggs some_own some; each = aggs_spelled-whole columns own aggs }
  where
    first : (own : List Column) (aggs : List Agg) → 0 < length own → 0 < length aggs
        → 0 < length (aggs_spelled columns own aggs)
    first [] aggs some_own some = absurd (omega (arith, some_own))
    first (own ∷ owns) [] some_own some = absurd (omega (arith, some))
    first (own ∷ owns) (agg ∷ aggs) some_own some = omega arith

-- the columns of a pair are there
pub record IsPairWithin (left right : List Column) (pair : Pair) : Type 0 where
  pub left_within : pair.left < length left
  pub right_within : pair.right < length right

-- so it is if both have one type
IsPairWithin-typed : (left right : List Column) (pair : Pair) → IsPair left right pair
    → IsPairWithin left right pair
IsPairWithin-typed left right pair typed =
    let P = λ (ty : Ty). column_type right pair.right ≡ Some ty in
    record {
      left_within = column_type-some left pair.left P typed;
      right_within = IsSomeAnd-then (column_type left pair.left) P (pair.right < length right)
          (column_type-within right pair.right) typed;
    }

-- the words of pairs
pub ArePlain-pairs : (earlier later : ℕ) (left right : List Column) (on : List Pair)
    → AreNamed earlier left → AreNamed later right → All (IsPair left right) on
    → ArePlain (map pair_word (map (pair_spelled left right) on))
ArePlain-pairs earlier later left right on named others each =
    each-map (λ pair. is_plain (pair_word pair) ≡ true) (λ word. is_plain word ≡ true) pair_word
    (map (pair_spelled left right) on) (λ pair plain. plain)
    (each-map (IsPair left right) (λ pair. is_plain (pair_word pair) ≡ true)
    (pair_spelled left right) on (λ pair is.
    let within = IsPairWithin-typed left right pair is in
    is_plain-joined (column_name left pair.left) equals (column_name right pair.right)
    (is_plain-column_name earlier left pair.left named within.left_within) refl
    (is_plain-column_name later right pair.right others within.right_within))
    (recursion_from_All (IsPair left right) on each))

-- they are whole
pub AreSome-pairs : (earlier : ℕ) (left right : List Column) (on : List Pair)
    → AreNamed earlier left → 0 < length on → All (IsPair left right) on
    → AreSome IsWholePair (map (pair_spelled left right) on)
AreSome-pairs earlier left right on named some each = record {
  some = omega (arith, some, length-map on (pair_spelled left right));
  each = each-map (IsPair left right) IsWholePair (pair_spelled left right) on (λ pair is.
      Lacks-named equals earlier (column_name left pair.left) refl
      (column_name-named earlier left pair.left named
      (IsPairWithin-typed left right pair is).left_within))
      (recursion_from_All (IsPair left right) on each);
}
