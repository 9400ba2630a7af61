-- What is so of a table's line if no cause speaks against it: `IsFine-none`, and that what it
-- declares can be made: `IsReady-fine`.
use Rattle.std.proofs.Common.{◌≡◌, ℕ, ◌<◌, ◌≤◌, List, [], ◌∷◌, Option, Some, None}
use Rattle.std.proofs.Common.{Bool, true, false, not, length, refl, arith}
use Rattle.std.specs.Prelude.{⊤, All, ◌||◌, option_and_then, slice_get, nat_le, nat_lt}
use Rattle.std.proofs.lemmas.Bool.Decides.{nat_tests}
use Rattle.std.proofs.lemmas.Bool.{ltb-false}
use Rattle.std.proofs.lemmas.List.Elements.{All-nil, All-weaker}
use Rattle.std.proofs.lemmas.Option.{slice_get_within}
use Rattle.desc_lines.specs.Names.{is_name}
use Rattle.desc_lines.specs.Written.{WrittenAggOf, WrittenColumnOf, WrittenKindOf}
use Rattle.desc_lines.specs.Written.{WrittenSourceOf, WrittenTableOf}
use Rattle.desc_lines.specs.Written.{Raw, Filter, Group, Join, TableLine}
use Rattle.desc_causes.specs.declared.cause.DescCause.{DescCause}
use Rattle.desc_types.specs.declared.table.Column.{Column}
use Rattle.desc_types.specs.Descriptions.{DescOf}
use Rattle.desc_types.specs.Tables.{TableOf}
use Rattle.desc_types.specs.Lookups.{columns_of, find_table, source_columns}
use Rattle.desc_causes.specs.Ticks.{read_width}
use Rattle.desc_causes.specs.Causes.{cause_of, count_columns, first_cause, gives_bad_name}
use Rattle.desc_causes.specs.Causes.{has_bad_name, has_bad_span, has_bad_type, has_bad_width}
use Rattle.desc_causes.specs.Causes.{has_double_name, has_many_parts, lacks_column, lacks_feed}
use Rattle.desc_causes.specs.Causes.{lacks_source, makes_too_many, sources, table_tests}
use Rattle.table_desc.specs.Declarations.{IsReady, IsReadySource, LeavesRoom}
use Rattle.desc_types.specs.Accepted.{IsAccepted, NamesColumn}
use Rattle.desc_types.proofs.BoolLemmas.{or-none, not-false}
use Rattle.desc_types.proofs.ListLemmas.{list_any-not}

-- no test of a list holds
abbrev pub AreFalse : List (Bool × DescCause) → Type 0
AreFalse [] = ⊤
AreFalse (test ∷ others) = (test.0 ≡ false) × AreFalse others

-- where none speaks, no test holds
pub AreFalse-none : (tests : List (Bool × DescCause)) → first_cause tests ≡ None → AreFalse tests
AreFalse-none [] none = tt
AreFalse-none ((true, cause) ∷ others) none = absurd cc
AreFalse-none ((false, cause) ∷ others) none = (refl, AreFalse-none others none)

-- a table's line of which no test holds
pub record IsFine (desc : DescOf) (table : WrittenTableOf) : Type 0 where
  pub named : has_bad_name table ≡ false
  pub different : has_double_name desc table ≡ false
  pub feed : lacks_feed desc table.kind ≡ false
  pub source : lacks_source desc table.kind ≡ false
  pub column : lacks_column desc table.kind ≡ false
  pub typed : has_bad_type desc table.kind ≡ false
  pub width : has_bad_width desc (read_width table.width) (sources table.kind) ≡ false
  pub span : has_bad_span desc (read_width table.width) (sources table.kind) ≡ false
  pub few : makes_too_many desc table.kind ≡ false

pub IsFine-none : (desc : DescOf) (table : WrittenTableOf)
    → cause_of desc (TableLine table) ≡ None → IsFine desc table
IsFine-none desc table none =
    let tests = AreFalse-none (table_tests desc table) none in
    record {
      named = tests.0;
      different = tests.1.0;
      feed = tests.1.1.0;
      source = tests.1.1.1.0;
      column = tests.1.1.1.1.0;
      typed = tests.1.1.1.1.1.0;
      width = tests.1.1.1.1.1.1.0;
      span = tests.1.1.1.1.1.1.1.0;
      few = tests.1.1.1.1.1.1.1.1.0;
    }

-- the three tests of `makes_too_many`
pub record IsFew (desc : DescOf) (kind : WrittenKindOf) : Type 0 where
  pub tables : length desc.tables < 64
  pub columns : count_columns desc kind ≤ 16
  pub parts : has_many_parts kind ≡ false

pub IsFew-fine : (desc : DescOf) (kind : WrittenKindOf) → makes_too_many desc kind ≡ false
    → IsFew desc kind
IsFew-fine desc kind few =
    let full = nat_le 64 (length desc.tables) in
    let wide = nat_lt 16 (count_columns desc kind) in
    let both = or-none (full || wide) (has_many_parts kind) few in
    let each = or-none full wide both.0 in
    record {
      tables = grind (arith, nat_tests, each.0);
      columns = ltb-false 16 (count_columns desc kind) each.1;
      parts = both.1;
    }

-- what is so of no columns, and of those of each table, is so of those of a source
pub source_columns-each : (desc : DescOf) (name : List ℕ) (P : List Column → Type 0) → P []
    → ((number : ℕ) (table : TableOf) → slice_get desc.tables number ≡ Some table
    → P table.columns)
    → P (source_columns desc name)
source_columns-each desc name P none each = by_number (find_table desc name)
  where
    by_table : (number : ℕ) (table : Option TableOf) → slice_get desc.tables number ≡ table
        → P (columns_of table)
    by_table number None there = none
    by_table number (Some table) there = each number table there

    by_number : (number : Option ℕ)
        → P (columns_of (option_and_then (slice_get desc.tables) number))
    by_number None = none
    by_number (Some number) = by_table number (slice_get desc.tables number) refl

-- a source of an accepted description can be read
IsReadySource-accepted : (desc : DescOf) (source : WrittenSourceOf) → IsAccepted desc
    → IsReadySource desc source
IsReadySource-accepted desc source accepted = record {
  tables = accepted.tables;
  few = source_columns-each desc source.table (λ columns. length columns ≤ 16) (omega arith)
      (λ number table there. (accepted.each number table there).few);
  room = source_columns-each desc source.table (All LeavesRoom) (All-nil LeavesRoom)
      (λ number table there.
      let within = slice_get_within desc.tables number table there in
      All-weaker (λ (column : Column). NamesColumn number column.name) LeavesRoom
      (λ column named. omega (arith, named.short, within, accepted.tables)) table.columns
      (accepted.each number table there).named);
}

-- what a line declares can be made if no cause speaks against it
pub IsReady-fine : (desc : DescOf) (kind : WrittenKindOf) → IsAccepted desc
    → gives_bad_name kind ≡ false → makes_too_many desc kind ≡ false → IsReady desc kind
IsReady-fine desc (Raw feed time columns) accepted named few = record {
  feeds = accepted.feeds;
  few = (IsFew-fine desc (Raw feed time columns) few).columns;
  named = list_any-not (λ (column : WrittenColumnOf). is_name column.name) columns named;
}
IsReady-fine desc (Filter source conds keep) accepted named few =
    IsReadySource-accepted desc source accepted
IsReady-fine desc (Group source keys aggs) accepted named few = record {
  ready = IsReadySource-accepted desc source accepted;
  named = list_any-not (λ (agg : WrittenAggOf). is_name agg.name) aggs named;
}
IsReady-fine desc (Join left right on) accepted named few =
    (IsReadySource-accepted desc left accepted, IsReadySource-accepted desc right accepted)

-- the name of a table is one
pub is_name-table : (desc : DescOf) (table : WrittenTableOf) → IsFine desc table
    → is_name table.name ≡ true
is_name-table desc table fine =
    not-false (is_name table.name) (or-none (not (is_name table.name)) _ fine.named).0

-- what a table's line declares can be made
pub IsReady-table : (desc : DescOf) (table : WrittenTableOf) → IsAccepted desc
    → IsFine desc table → IsReady desc table.kind
IsReady-table desc table accepted fine =
    let named = (or-none (not (is_name table.name)) (gives_bad_name table.kind) fine.named).1 in
    IsReady-fine desc table.kind accepted named fine.few
