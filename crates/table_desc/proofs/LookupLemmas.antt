-- What was found by name: `IsPlace-found`, and the sources of a line.
use Rattle.std.proofs.Common.{◌≡◌, ℕ, ◌<◌, ◌≤◌, List, Option, Some, None, Bool, true, false}
use Rattle.std.proofs.Common.{◌⊎◌, length, get_or, refl, arith, inl, inr, rules, tests}
use Rattle.std.specs.Prelude.{position, slice_get, is_none, is_some, nat_lt, if◌then◌else◌}
use Rattle.std.specs.List.{list_any, position_or_len}
use Rattle.std.specs.Str.{bytes_eq}
use Rattle.std.proofs.lemmas.Bool.{ltb-false, ltb-true}
use Rattle.std.proofs.lemmas.List.Folds.{list_any_none}
use Rattle.std.proofs.lemmas.List.Quantifiers.{position-Some}
use Rattle.std.proofs.lemmas.List.Sums.{fails_before_first}
use Rattle.std.proofs.lemmas.Option.{cond_some, slice_get_cases}
use Rattle.std.proofs.lemmas.Slice.Eq.{bytes_eq-Decides}
use Rattle.partition_map.specs.declared.time.Span.{Span}
use Rattle.partition_map.specs.Partitions.{is_fitting, SpanFits}
use Rattle.desc_types.specs.declared.table.Column.{Column}
use Rattle.desc_types.specs.Descriptions.{DescOf}
use Rattle.desc_types.specs.Tables.{TableOf}
use Rattle.desc_types.specs.Sources.{table_width}
use Rattle.desc_types.specs.Lookups.{find_table, source_columns, source_width, table_columns}
use Rattle.table_desc.specs.Declarations.{found}

-- what is found is there
pub position-within : {X : Type 0} (test : X → Bool) (xs : List X) (place : ℕ)
    → position test xs ≡ Some place → place < length xs
position-within test xs place found =
    let parts = cond_some (nat_lt (position_or_len test xs) (length xs))
    (position_or_len test xs) place found in
    omega (arith, ltb-true (position_or_len test xs) (length xs) parts.0, parts.1)

-- where no place was found, no item passes the test
pub position-none : {X : Type 0} (test : X → Bool) (xs : List X) → is_some (position test xs) ≡ false
    → list_any test xs ≡ false
position-none test xs none = list_any_none test xs (λ place default within.
    fails_before_first test xs place default (omega (
      arith,
      within,
      past (nat_lt (position_or_len test xs) (length xs)) refl none,
    )))
  where
    past : (found : Bool) → nat_lt (position_or_len test xs) (length xs) ≡ found
        → is_some (if found then Some (position_or_len test xs) else None) ≡ false
        → length xs ≤ position_or_len test xs
    past true is none = absurd cc
    past false is none = ltb-false (position_or_len test xs) (length xs) is

-- the first item that passes a test
pub record IsPlace {X : Type 0} (test : X → Bool) (xs : List X) : Type 0 where
  pub place : ℕ
  pub item : X
  pub found : position test xs ≡ Some place
  pub there : slice_get xs place ≡ Some item
  pub passes : test item ≡ true

IsPlace-at : {X : Type 0} (test : X → Bool) (xs : List X) (place : ℕ)
    → position test xs ≡ Some place
    → ((x : X) × (place < length xs) × (slice_get xs place ≡ Some x) × (get_or xs place x ≡ x))
    ⊎ ((length xs ≤ place) × (slice_get xs place ≡ None))
    → IsPlace test xs
IsPlace-at test xs place found (inl at) = record {
  place = place;
  item = at.0;
  found = found;
  there = at.2;
  passes = rw at.3 at (position-Some test xs place at.0 found).1;
}
IsPlace-at test xs place found (inr past) =
    absurd (omega (arith, position-within test xs place found, past.0))

-- an item passes a test if a place was found
pub IsPlace-found : {X : Type 0} (test : X → Bool) (xs : List X)
    → is_none (position test xs) ≡ false → IsPlace test xs
IsPlace-found test xs found = by_place (position test xs) refl found
  where
    by_place : (place : Option ℕ) → position test xs ≡ place → is_none place ≡ false
        → IsPlace test xs
    by_place None is found = absurd cc
    by_place (Some place) is found = IsPlace-at test xs place is (slice_get_cases xs place).1

-- texts that pass the test are the same
pub bytes-same : (left right : List ℕ) → bytes_eq left right ≡ true → left ≡ right
bytes-same left right same = (bytes_eq-Decides left right).0 same

-- a source that is an earlier table
abbrev pub IsEarlier : DescOf → List ℕ → Type 0
IsEarlier desc name = IsPlace (λ (table : TableOf). bytes_eq table.name name) desc.tables

-- a column that there is
abbrev pub IsColumn : List Column → List ℕ → Type 0
IsColumn columns name = IsPlace (λ (column : Column). bytes_eq column.name name) columns

-- the columns of a source that was found, by its name and by its number
pub source_columns-found : (desc : DescOf) (name : List ℕ) (source : IsEarlier desc name)
    → source_columns desc name ≡ source.item.columns
source_columns-found desc name source = rw (source.found, source.there) refl

pub table_columns-found : (desc : DescOf) (name : List ℕ) (source : IsEarlier desc name)
    → table_columns desc (found (find_table desc name)) ≡ source_columns desc name
table_columns-found desc name source = rw source.found refl

-- its width, likewise
pub table_width-found : (desc : DescOf) (name : List ℕ) (source : IsEarlier desc name)
    → table_width desc (found (find_table desc name)) ≡ source_width desc name
table_width-found desc name source = rw (source.found, source.there) refl

-- its number
pub found-within : (desc : DescOf) (name : List ℕ) (source : IsEarlier desc name)
    → found (find_table desc name) < length desc.tables
found-within desc name source =
    rw source.found (position-within (λ (table : TableOf). bytes_eq table.name name) desc.tables
    source.place source.found)

-- a test of spans that passes
pub SpanFits-fitting : (width source_width : ℕ) (span : Span)
    → is_fitting width source_width span ≡ true → SpanFits width source_width span
SpanFits-fitting width source_width span fits = search (rules, tests)
