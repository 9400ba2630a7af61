-- The parts of a view that a line declares: conditions, aggregates and pairs.
use Rattle.std.proofs.Common.{◌≡◌, ℕ, ℤ, List, [], ◌∷◌, Option, Some, None, Bool, true, false}
use Rattle.std.proofs.Common.{Result, Ok, Err, length, map, nat_lt, refl, ap, subst}
use Rattle.std.specs.Prelude.{All, filter_map, is_none, if◌then◌else◌}
use Rattle.std.specs.List.{list_any, AllByRecursion}
use Rattle.std.specs.Result.{result_ok}
use Rattle.std.specs.Str.{is_utf8}
use Rattle.std.proofs.lemmas.List.Elements.{All-cons, All-nil}
use Rattle.depot_cell.specs.declared.cell.Cell.{Cell}
use Rattle.depot_cell.specs.declared.cell.Cell.TheVariants.{Int, Text}
use Rattle.depot_cell.specs.declared.cell.CellFault.{CellFault}
use Rattle.depot_cell.specs.declared.cell.CellFault.TheVariants.{LongText, NotUtf8}
use Rattle.depot_cell.specs.Numbers.{int_of}
use Rattle.depot_cell.specs.declared.cell.Ty.{Ty}
use Rattle.depot_cell.specs.declared.cell.Ty.TheVariants as ty
use Rattle.depot_cell.specs.Reading.{cell_of, int_cell}
use Rattle.depot_cell.proofs.ReadingLemmas.{gives_cells}
use Rattle.desc_lines.specs.declared.fun.Fun.{Fun}
use Rattle.desc_lines.specs.declared.fun.Fun.TheVariants as fun
use Rattle.desc_lines.specs.Whole.{IsWholeAgg, is_count}
use Rattle.desc_lines.specs.Written.{WrittenAggOf, WrittenCondOf, WrittenPairOf}
use Rattle.desc_types.specs.declared.table.Column.{Column}
use Rattle.desc_types.specs.declared.view.Agg.{Agg}
use Rattle.desc_types.specs.declared.view.Cond.{Cond}
use Rattle.desc_causes.specs.Causes.{has_odd_literal, have_two_types, is_odd_pair, is_text_sum}
use Rattle.desc_causes.specs.Causes.{lacks, lacks_side, lacks_some, sums_texts, type_over}
use Rattle.table_desc.specs.Declarations.{column_number, declared_agg, declared_cond}
use Rattle.table_desc.specs.Declarations.{declared_pair, number_over}
use Rattle.desc_types.specs.Accepted.{Computes, IsCond, IsLineWord, IsPair, IsSaid, column_type}
use Rattle.desc_types.proofs.BoolLemmas.{or-none}
use Rattle.table_desc.proofs.LookupLemmas.{IsColumn}
use Rattle.table_desc.proofs.KeptLemmas.{IsColumn-lacks, column_number-within}

-- a value that was read of a word of a line can be said by it
IsSaid-read : (ty : Ty) (literal : List ℕ) (value : Cell) → IsLineWord literal
    → cell_of ty literal ≡ Ok value → IsSaid value
IsSaid-read ty.Int literal value word read = by_int (int_of literal) read
  where
    by_int : (number : Option ℤ) → int_cell number ≡ Ok value → IsSaid value
    by_int None read = absurd cc
    by_int (Some number) read =
        subst IsSaid (let same : Int number ≡ value = cc in same) tt
IsSaid-read ty.Text literal value word read =
    by_tests (nat_lt 255 (length literal)) (is_utf8 literal) read
  where
    by_tests : (long utf8 : Bool) → (if long then Err LongText
        else if utf8 then Ok (Text literal) else Err NotUtf8) ≡ Ok value → IsSaid value
    by_tests true utf8 read = absurd cc
    by_tests false false read = absurd cc
    by_tests false true read =
        subst IsSaid (let same : Text literal ≡ value = cc in same) word

-- a condition that was made of a written one
record IsMade (columns : List Column) (cond : WrittenCondOf) : Type 0 where
  made : Cond
  is : declared_cond columns cond ≡ Some made
  fits : IsCond columns made

IsMade-read : (columns : List Column) (cond : WrittenCondOf) (column : IsColumn columns cond.column)
    (read : Result Cell CellFault) → IsLineWord cond.literal
    → cell_of column.item.ty cond.literal ≡ read
    → is_none (result_ok read) ≡ false → IsMade columns cond
IsMade-read columns cond column (Ok value) word is there = record {
  made = record { column = column.place; op = cond.op; value = value };
  is = rw (column.found, column.there, is) refl;
  fits = record {
    typed = rw column.there (gives_cells column.item.ty cond.literal value is);
    said = IsSaid-read column.item.ty cond.literal value word is;
  };
}
IsMade-read columns cond column (Err fault) word is there = absurd cc

IsMade-fine : (columns : List Column) (cond : WrittenCondOf) → IsLineWord cond.literal
    → lacks columns cond.column ≡ false → has_odd_literal columns cond ≡ false
    → IsMade columns cond
IsMade-fine columns cond word there even =
    let column = IsColumn-lacks columns cond.column there in
    IsMade-read columns cond column (cell_of column.item.ty cond.literal) word refl
    (rw (column.found, column.there) at even)

-- the conditions of a filter
pub conds-fit : (columns : List Column) (conds : List WrittenCondOf)
    → AllByRecursion (λ (cond : WrittenCondOf). IsLineWord cond.literal) conds
    → list_any (λ (cond : WrittenCondOf). lacks columns cond.column) conds ≡ false
    → list_any (has_odd_literal columns) conds ≡ false
    → All (IsCond columns) (filter_map (declared_cond columns) conds)
conds-fit columns [] said there even = All-nil (IsCond columns)
conds-fit columns (cond ∷ others) said there even =
    let found = or-none (lacks columns cond.column) _ there in
    let typed = or-none (has_odd_literal columns cond) _ even in
    let cond_made = IsMade-fine columns cond said.0 found.0 typed.0 in
    rw cond_made.is (All-cons (IsCond columns) cond_made.made
    (filter_map (declared_cond columns) others) cond_made.fits
    (conds-fit columns others said.1 found.1 typed.1))

-- as many as were written
pub length-conds : (columns : List Column) (conds : List WrittenCondOf)
    → AllByRecursion (λ (cond : WrittenCondOf). IsLineWord cond.literal) conds
    → list_any (λ (cond : WrittenCondOf). lacks columns cond.column) conds ≡ false
    → list_any (has_odd_literal columns) conds ≡ false
    → length (filter_map (declared_cond columns) conds) ≡ length conds
length-conds columns [] said there even = refl
length-conds columns (cond ∷ others) said there even =
    let found = or-none (lacks columns cond.column) _ there in
    let typed = or-none (has_odd_literal columns cond) _ even in
    let cond_made = IsMade-fine columns cond said.0 found.0 typed.0 in
    rw (cond_made.is, length-conds columns others said.1 found.1 typed.1) refl

-- a sum that is of no texts is of ints
sum-int : (columns : List Column) (name : List ℕ) (column : IsColumn columns name) (of : Ty)
    → column.item.ty ≡ of → sums_texts fun.Sum (Some of) ≡ false
    → column_type columns (column_number columns name) ≡ Some ty.Int
sum-int columns name column ty.Int is even = rw (column.found, column.there, is) refl
sum-int columns name column ty.Text is even = absurd cc

-- an aggregate computes what it can
agg-computes : (columns : List Column) (fun : Fun) (column : Option (List ℕ))
    → is_none column ≡ is_count fun → lacks_some columns column ≡ false
    → sums_texts fun (type_over columns column) ≡ false
    → Computes fun columns (number_over columns column)
agg-computes columns fun.Count None whole there even = refl
agg-computes columns fun.Count (Some name) whole there even = absurd cc
agg-computes columns fun.Sum None whole there even = absurd cc
agg-computes columns fun.Least None whole there even = absurd cc
agg-computes columns fun.Greatest None whole there even = absurd cc
agg-computes columns fun.Sum (Some name) whole there even =
    let column = IsColumn-lacks columns name there in
    sum-int columns name column column.item.ty refl (rw (column.found, column.there) at even)
agg-computes columns fun.Least (Some name) whole there even =
    column_number-within columns name there
agg-computes columns fun.Greatest (Some name) whole there even =
    column_number-within columns name there

-- the aggregates of a group
pub aggs-fit : (columns : List Column) (aggs : List WrittenAggOf)
    → AllByRecursion IsWholeAgg aggs
    → list_any (λ (agg : WrittenAggOf). lacks_some columns agg.column) aggs ≡ false
    → list_any (is_text_sum columns) aggs ≡ false
    → All (λ (agg : Agg). Computes agg.fun columns agg.column) (map (declared_agg columns) aggs)
aggs-fit columns [] whole there even =
    All-nil (λ (agg : Agg). Computes agg.fun columns agg.column)
aggs-fit columns (agg ∷ others) whole there even =
    let found = or-none (lacks_some columns agg.column) _ there in
    let typed = or-none (is_text_sum columns agg) _ even in
    All-cons (λ (agg : Agg). Computes agg.fun columns agg.column) (declared_agg columns agg)
    (map (declared_agg columns) others)
    (agg-computes columns agg.fun agg.column whole.0 found.0 typed.0)
    (aggs-fit columns others whole.1 found.1 typed.1)

-- types that are not two are one
one-type : (left right : Ty) → have_two_types (Some left) (Some right) ≡ false → right ≡ left
one-type ty.Int ty.Int same = refl
one-type ty.Text ty.Text same = refl
one-type ty.Int ty.Text same = absurd cc
one-type ty.Text ty.Int same = absurd cc

-- a pair of columns that are there
pair-typed : (left right : List Column) (pair : WrittenPairOf) (left_column : IsColumn left pair.left)
    (right_column : IsColumn right pair.right) → is_odd_pair left right pair ≡ false
    → IsPair left right (declared_pair left right pair)
pair-typed left right pair left_column right_column even =
    let same = one-type left_column.item.ty right_column.item.ty
    (rw (left_column.found, left_column.there, right_column.found, right_column.there) at even) in
    rw (left_column.found, left_column.there, right_column.found, right_column.there) (ap Some same)

pair-fits : (left right : List Column) (pair : WrittenPairOf)
    → lacks_side left right pair ≡ false → is_odd_pair left right pair ≡ false
    → IsPair left right (declared_pair left right pair)
pair-fits left right pair there even =
    let found = or-none (lacks left pair.left) (lacks right pair.right) there in
    pair-typed left right pair (IsColumn-lacks left pair.left found.0)
    (IsColumn-lacks right pair.right found.1) even

-- the pairs of a join
pub pairs-fit : (left right : List Column) (on : List WrittenPairOf)
    → list_any (lacks_side left right) on ≡ false → list_any (is_odd_pair left right) on ≡ false
    → All (IsPair left right) (map (declared_pair left right) on)
pairs-fit left right [] there even = All-nil (IsPair left right)
pairs-fit left right (pair ∷ others) there even =
    let found = or-none (lacks_side left right pair) _ there in
    let typed = or-none (is_odd_pair left right pair) _ even in
    All-cons (IsPair left right) (declared_pair left right pair)
    (map (declared_pair left right) others) (pair-fits left right pair found.0 typed.0)
    (pairs-fit left right others found.1 typed.1)
