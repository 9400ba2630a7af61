-- The columns of a raw table: their names, and the time column.
use Rattle.std.proofs.Common.{◌≡◌, ℕ, List, [], ◌∷◌, Option, Some, None, true, false}
use Rattle.std.proofs.Common.{not, length, map, refl, ap, arith}
use Rattle.std.specs.Prelude.{All, is_none, nat_le, ◌&&◌}
use Rattle.std.specs.List.{list_all, list_any}
use Rattle.std.specs.Str.{bytes_eq}
use Rattle.std.proofs.lemmas.Bool.Decides.{nat_tests}
use Rattle.std.proofs.lemmas.List.Elements.{All-map, All-weaker}
use Rattle.std.proofs.lemmas.Option.{slice_get-map}
use Rattle.depot_cell.specs.declared.cell.Ty.{Ty}
use Rattle.depot_cell.specs.declared.cell.Ty.TheVariants as ty
use Rattle.desc_lines.specs.Names.{begins_name, is_name, is_name_byte, reserved}
use Rattle.desc_lines.specs.Written.{WrittenAggOf, WrittenColumnOf}
use Rattle.desc_types.specs.declared.table.Column.{Column}
use Rattle.desc_types.specs.Lookups.{read_type}
use Rattle.desc_causes.specs.Causes.{is_text, time_type, written_place}
use Rattle.table_desc.specs.Declarations.{agg_column, declared_column, time_number}
use Rattle.desc_types.specs.Accepted.{NamesColumn, column_names, column_type}
use Rattle.desc_types.proofs.BoolLemmas.{and-both, not-true}
use Rattle.table_desc.proofs.KeptLemmas.{All-there}
use Rattle.desc_types.proofs.ListLemmas.{list_any-none}
use Rattle.table_desc.proofs.LookupLemmas.{IsPlace, IsPlace-found}

-- a name names a column of any table
pub NamesColumn-name : (number : ℕ) (name : List ℕ) → is_name name ≡ true → NamesColumn number name
NamesColumn-name number name named =
    let short = begins_name name && nat_le (length name) 32 in
    let whole = and-both (short && list_all is_name_byte name)
    (not (list_any (bytes_eq name) reserved)) named in
    let bytes = and-both short (list_all is_name_byte name) whole.0 in
    let first = and-both (begins_name name) (nat_le (length name) 32) bytes.0 in
    record {
      begins = first.0;
      bytes = bytes.1;
      free = not-true (list_any (bytes_eq name) reserved) whole.1;
      short = grind (arith, nat_tests, first.1);
    }

-- the columns have the names that were written
pub declared-names : (columns : List WrittenColumnOf)
    → column_names (map declared_column columns)
    ≡ map (λ (column : WrittenColumnOf). column.name) columns
declared-names [] = refl
declared-names (column ∷ columns) = ap (λ names. column.name ∷ names) (declared-names columns)

pub agg-names : (columns : List Column) (aggs : List WrittenAggOf)
    → column_names (map (agg_column columns) aggs) ≡ map (λ (agg : WrittenAggOf). agg.name) aggs
agg-names columns [] = refl
agg-names columns (agg ∷ aggs) = ap (λ names. agg.name ∷ names) (agg-names columns aggs)

-- so they name columns
pub declared-named : (number : ℕ) (columns : List WrittenColumnOf)
    → All (λ (column : WrittenColumnOf). is_name column.name ≡ true) columns
    → All (λ (column : Column). NamesColumn number column.name) (map declared_column columns)
declared-named number columns named =
    All-map (λ (column : Column). NamesColumn number column.name) declared_column columns
    (All-weaker (λ (column : WrittenColumnOf). is_name column.name ≡ true)
    (λ (column : WrittenColumnOf). NamesColumn number column.name)
    (λ column. NamesColumn-name number column.name) columns named)

pub agg-named : (number : ℕ) (columns : List Column) (aggs : List WrittenAggOf)
    → All (λ (agg : WrittenAggOf). is_name agg.name ≡ true) aggs
    → All (λ (column : Column). NamesColumn number column.name) (map (agg_column columns) aggs)
agg-named number columns aggs named =
    All-map (λ (column : Column). NamesColumn number column.name) (agg_column columns) aggs
    (All-weaker (λ (agg : WrittenAggOf). is_name agg.name ≡ true)
    (λ (agg : WrittenAggOf). NamesColumn number agg.name)
    (λ agg. NamesColumn-name number agg.name) aggs named)

-- a type that is there and is not that of texts
int-type : (of : Option Ty) → is_none of ≡ false → is_text of ≡ false → of ≡ Some ty.Int
int-type None there even = absurd cc
int-type (Some ty.Int) there even = refl
int-type (Some ty.Text) there even = absurd cc

-- the place of the time column
time-place : (columns : List WrittenColumnOf) (time : List ℕ)
    (place : IsPlace (λ (column : WrittenColumnOf). bytes_eq column.name time) columns)
    → list_any (λ (column : WrittenColumnOf). is_none (read_type column.ty)) columns ≡ false
    → is_text (time_type columns time) ≡ false
    → column_type (map declared_column columns) (time_number columns time) ≡ Some ty.Int
time-place columns time place typed even =
    let there = All-there (λ (column : WrittenColumnOf). is_none (read_type column.ty) ≡ false)
    columns place.place place.item
    (list_any-none (λ (column : WrittenColumnOf). is_none (read_type column.ty)) columns typed)
    place.there in
    let int = int-type (read_type place.item.ty) there
    (rw (place.found, place.there) at even) in
    rw (place.found, slice_get-map declared_column columns place.place, place.there, int) refl

-- the time column is an int
pub time-int : (columns : List WrittenColumnOf) (time : List ℕ)
    → is_none (written_place columns time) ≡ false
    → list_any (λ (column : WrittenColumnOf). is_none (read_type column.ty)) columns ≡ false
    → is_text (time_type columns time) ≡ false
    → column_type (map declared_column columns) (time_number columns time) ≡ Some ty.Int
time-int columns time there typed even = time-place columns time
    (IsPlace-found (λ (column : WrittenColumnOf). bytes_eq column.name time) columns there)
    typed even
