-- The row of a raw table that is wanted is a row that fits the description.
use Rattle.std.proofs.Common.{◌≡◌, ◌∷◌, [], ◌<◌, ◌∙◌, ℕ, zero, suc, List, true, pos, negsuc}
use Rattle.std.proofs.Common.{Option, Some, None, map, refl, sym, subst, rules, tests}
use Rattle.std.specs.Prelude.{All, IsSomeAnd, slice_get}
use Rattle.std.specs.List.{AllZip}
use Rattle.std.proofs.lemmas.List.Elements.{All-cons, All-head, All-nil, All-tail}
use Rattle.depot_cell.specs.declared.cell.Cell.{Cell}
use Rattle.depot_cell.specs.declared.cell.Cell.TheVariants.{Int, Text}
use Rattle.depot_cell.specs.declared.cell.Ty.TheVariants as ty
use Rattle.depot_cell.specs.Cells.{IsCell, ty_of}
use Rattle.depot_cell.specs.Reading.{IsCellOf}
use Rattle.partition_map.specs.Time.{END}
use Rattle.desc_types.specs.declared.table.Column.{Column}
use Rattle.desc_types.specs.Accepted.{IsKind, column_type}
use Rattle.desc_types.specs.Descriptions.{DescOf}
use Rattle.desc_types.specs.KindValues.{KindOf, Raw, Filter, Group, Join}
use Rattle.desc_types.specs.Tables.{TableOf}
use Rattle.view_meaning.specs.Journal.{IsRawOf, IsRowOf, row_tick, tick_of}
use Rattle.row_codec.specs.declared.field.Wanted.{Wanted}
use Rattle.row_codec.specs.Deliveries.{is_raw_of, is_raw_table, table_wants}
use Rattle.row_codec.specs.Deliveries.{time_of, timed_wants}
use Rattle.row_codec.specs.Reading.{is_tick, wanted_of}
use Rattle.row_codec.proofs.CellLemmas.{IsWanted, IsWanted-from, IsWanted-to}

-- the types of cells are those of columns
abbrev AreTyped : List Column → List Cell → Type 0
AreTyped columns cells = AllZip (λ (column : Column) cell. ty_of cell ≡ column.ty) columns cells

-- there is a tick in time
abbrev IsInTime : Option ℕ → Type 0
IsInTime tick = IsSomeAnd tick (λ tick. tick < END)

-- what columns want without a time
abbrev column_wants : List Column → List Wanted
column_wants columns = map (λ (column : Column). wanted_of column.ty) columns

-- cells of the columns' types are wanted
typed-wanted : (columns : List Column) (cells : List Cell) → All IsCell cells
    → AreTyped columns cells → AllZip IsWanted (column_wants columns) cells
typed-wanted [] [] are typed = tt
typed-wanted [] (_ ∷ _) are typed = absurd typed
typed-wanted (_ ∷ _) [] are typed = absurd typed
typed-wanted (column ∷ columns) (cell ∷ cells) are typed = (
  IsWanted-to column.ty cell
      (record { typed = typed.0; is_cell = All-head IsCell cell cells are }),
  typed-wanted columns cells (All-tail IsCell cell cells are) typed.1,
)

-- a cell with a tick in time is a tick
tick-wanted : (cell : Cell) → IsCell cell → IsInTime (tick_of (Some cell))
    → IsCellOf ty.Int cell × (is_tick cell ≡ true)
tick-wanted (Int (pos tick)) is timed =
    (record { typed = refl; is_cell = is }, search (rules, tests, timed))
tick-wanted (Int (negsuc below)) is timed = absurd timed
tick-wanted (Text text) is timed = absurd timed

-- so they are with a tick in the time column
timed-wanted : (time : ℕ) (columns : List Column) (cells : List Cell) → All IsCell cells
    → AreTyped columns cells → IsInTime (tick_of (slice_get cells time))
    → AllZip IsWanted (timed_wants time columns) cells
timed-wanted time [] [] are typed timed = tt
timed-wanted time [] (_ ∷ _) are typed timed = absurd typed
timed-wanted time (_ ∷ _) [] are typed timed = absurd typed
timed-wanted zero (column ∷ columns) (cell ∷ cells) are typed timed = (
  tick-wanted cell (All-head IsCell cell cells are) timed,
  typed-wanted columns cells (All-tail IsCell cell cells are) typed.1,
)
timed-wanted (suc time) (column ∷ columns) (cell ∷ cells) are typed timed = (
  IsWanted-to column.ty cell
      (record { typed = typed.0; is_cell = All-head IsCell cell cells are }),
  timed-wanted time columns cells (All-tail IsCell cell cells are) typed.1 timed,
)

-- a row of a raw table of the feed is wanted
pub IsRowOf-wanted : (feed : ℕ) (found : Option TableOf) (cells : List Cell)
    → IsSomeAnd found (IsRowOf feed cells)
    → (is_raw_table feed found ≡ true) × AllZip IsWanted (table_wants found) cells
IsRowOf-wanted feed None cells is = absurd is
IsRowOf-wanted feed (Some table) cells is =
    by_kind table.kind is.of_feed is.in_time
  where
    by_kind : (kind : KindOf) → IsRawOf feed kind → IsInTime (row_tick kind cells)
        → (is_raw_of feed kind ≡ true)
        × AllZip IsWanted (timed_wants (time_of kind) table.columns) cells
    by_kind (Raw its_feed time) raw timed =
        (search (rules, tests, raw), timed-wanted time table.columns cells is.cells is.typed timed)
    by_kind (Filter _ _ _) raw timed = absurd raw
    by_kind (Group _ _ _) raw timed = absurd raw
    by_kind (Join _ _ _) raw timed = absurd raw

-- cells that fit columns, with a tick in the time column
record AreTimed (time : ℕ) (columns : List Column) (cells : List Cell) : Type 0 where
  pub fit : All IsCell cells
  pub typed : AreTyped columns cells
  pub in_time : IsInTime (tick_of (slice_get cells time))

-- cells that are wanted fit the columns
record Fit (columns : List Column) (cells : List Cell) : Type 0 where
  pub fit : All IsCell cells
  pub typed : AreTyped columns cells

wanted-typed : (columns : List Column) (cells : List Cell)
    → AllZip IsWanted (column_wants columns) cells → Fit columns cells
wanted-typed [] [] wanted = record { fit = All-nil IsCell; typed = tt }
wanted-typed [] (_ ∷ _) wanted = absurd wanted
wanted-typed (_ ∷ _) [] wanted = absurd wanted
wanted-typed (column ∷ columns) (cell ∷ cells) wanted =
    let is = IsWanted-from column.ty cell wanted.0 in
    let fit = wanted-typed columns cells wanted.1 in
    record {
      fit = All-cons IsCell cell cells is.is_cell fit.fit;
      typed = (is.typed, fit.typed);
    }

-- a tick has a tick in time
tick-in_time : (cell : Cell) → is_tick cell ≡ true → IsInTime (tick_of (Some cell))
tick-in_time (Int (pos tick)) is = search (rules, tests, is)
tick-in_time (Int (negsuc below)) is = absurd cc
tick-in_time (Text text) is = absurd cc

-- what is equal to a value is it
same_Some : {X : Type 0} {x y : X} → ◌≡◌ {A = Option X} (Some x) (Some y) → x ≡ y
same_Some same = cc

-- so do they with a tick in an int column for the time
wanted-timed : (time : ℕ) (columns : List Column) (cells : List Cell)
    → column_type columns time ≡ Some ty.Int
    → AllZip IsWanted (timed_wants time columns) cells → AreTimed time columns cells
wanted-timed time [] cells int wanted = absurd cc
wanted-timed zero (_ ∷ _) [] int wanted = absurd wanted
wanted-timed (suc time) (_ ∷ _) [] int wanted = absurd wanted
wanted-timed zero (column ∷ columns) (cell ∷ cells) int wanted =
    let fit = wanted-typed columns cells wanted.1 in
    let is : column.ty ≡ ty.Int = same_Some int in
    record {
      fit = All-cons IsCell cell cells wanted.0.0.is_cell fit.fit;
      typed = (wanted.0.0.typed ∙ sym is, fit.typed);
      in_time = tick-in_time cell wanted.0.1;
    }
wanted-timed (suc time) (column ∷ columns) (cell ∷ cells) int wanted =
    let is = IsWanted-from column.ty cell wanted.0 in
    let fit = wanted-timed time columns cells int wanted.1 in
    record {
      fit = All-cons IsCell cell cells is.is_cell fit.fit;
      typed = (is.typed, fit.typed);
      in_time = fit.in_time;
    }

-- a row that is wanted of a raw table of the feed is a row of it
pub wanted-IsRowOf : (desc : DescOf) (feed : ℕ) (found : Option TableOf) (cells : List Cell)
    → ((table : TableOf) → found ≡ Some table → IsKind desc table.columns table.kind)
    → is_raw_table feed found ≡ true → AllZip IsWanted (table_wants found) cells
    → IsSomeAnd found (IsRowOf feed cells)
wanted-IsRowOf desc feed None cells kinds raw wanted = absurd cc
wanted-IsRowOf desc feed (Some table) cells kinds raw wanted =
    by_kind table.kind (kinds table refl) raw wanted refl
  where
    by_kind : (kind : KindOf) → IsKind desc table.columns kind → is_raw_of feed kind ≡ true
        → AllZip IsWanted (timed_wants (time_of kind) table.columns) cells → kind ≡ table.kind
        → IsRowOf feed cells table
    by_kind (Raw its_feed time) is raw wanted same =
        let fit = wanted-timed time table.columns cells is.int wanted in
        record {
          of_feed = subst (IsRawOf feed) same (search (rules, tests, raw));
          cells = fit.fit;
          typed = fit.typed;
          in_time = subst (λ kind. IsInTime (row_tick kind cells)) same fit.in_time;
        }
    by_kind (Filter _ _ _) is raw wanted same = absurd cc
    by_kind (Group _ _ _) is raw wanted same = absurd cc
    by_kind (Join _ _ _) is raw wanted same = absurd cc
