-- The rows of a body fit the description: `rows_fit`.
use Rattle.std.proofs.Common.{◌≡◌, ◌+◌, ◌<◌, ◌≤◌, ◌∷◌, [], ℕ, zero, suc, List, Option, Some, None}
use Rattle.std.proofs.Common.{Ok, Err, Bool, nat_eq, true, false, get_or, length, refl, subst}
use Rattle.std.proofs.Common.{arith, rules, tests}
use Rattle.std.specs.Prelude.{All, IsSomeAnd, Result, ◌&&◌, if◌then◌else◌, slice_get}
use Rattle.std.specs.List.{AllAdjacentBelow, AllZip}
use Rattle.std.specs.Str.{bytes_eq}
use Rattle.std.proofs.lemmas.List.Elements.{All-cons, All-nil}
use Rattle.std.proofs.lemmas.List.Quantifiers.{position-Some}
use Rattle.std.proofs.lemmas.Option.{get_or_from_slice_get}
use Rattle.depot_cell.specs.declared.cell.Cell.{Cell}
use Rattle.depot_cell.specs.declared.cell.CellFault.{CellFault}
use Rattle.depot_cell.specs.declared.cell.Ty.{Ty}
use Rattle.depot_cell.specs.Cells.{IsCell, ty_of}
use Rattle.depot_cell.specs.Reading.{cell_of}
use Rattle.depot_cell.proofs.ReadingLemmas.{gives_cells}
use Rattle.desc_types.specs.declared.table.Column.{Column}
use Rattle.desc_types.specs.declared.delivery.DRow.{DRow}
use Rattle.desc_types.specs.Accepted.{IsAccepted, IsKind, column_type}
use Rattle.desc_types.specs.Descriptions.{DescOf}
use Rattle.desc_types.specs.Tables.{TableOf}
use Rattle.desc_types.specs.KindValues.{KindOf, Raw, Filter, Group, Join}
use Rattle.partition_map.specs.Time.{END}
use Rattle.view_meaning.specs.Journal.{FitsRow, IsRawOf, IsRowOf, row_tick, tick_of}
use Rattle.feed_csv.specs.declared.fault.RowCause.{RowCause}
use Rattle.feed_csv.specs.declared.fault.RowCause.TheVariants as cause
use Rattle.feed_csv.specs.Bodies.{cell_read, cells_from, cells_of, find_raw_table, is_in_time}
use Rattle.feed_csv.specs.Bodies.{is_raw_of, numbered, placed, records_of, row_in, row_of}
use Rattle.feed_csv.specs.Bodies.{rows_from, table_cells, time_of, timed, without_header}
use Rattle.feed_csv.specs.Rows.{RowsFit}
use Rattle.feed_csv.proofs.FrontLemmas.{then_more-ok}
use Rattle.feed_csv.proofs.ListLemmas.{AllAdjacentBelow-cons, same_Ok}

-- a cell that was read: a time lies in time
record IsCellRead (is_time : Bool) (read : Result Cell CellFault) (cell : Cell) : Type 0 where
  pub is_read : read ≡ Ok cell
  pub in_time : is_time ≡ true → is_in_time (tick_of (Some cell)) ≡ true

-- a cell that passes a test, or a cause
if-ok : (test : Bool) (given cell : Cell) (cause : RowCause)
    → (if test then Ok given else Err cause) ≡ Ok cell → (test ≡ true) × (given ≡ cell)
if-ok true given cell cause made = (refl, same_Ok made)
if-ok false given cell cause made = absurd cc

-- what a field is read as is such a cell
IsCellRead-cell_read : (is_time : Bool) (read : Result Cell CellFault) (cell : Cell)
    → cell_read is_time read ≡ Ok cell → IsCellRead is_time read cell
IsCellRead-cell_read is_time (Err fault) cell made = absurd cc
IsCellRead-cell_read false (Ok given) cell made =
    subst (IsCellRead false (Ok given)) (same_Ok made)
    (record { is_read = refl; in_time = λ is_time. absurd cc })
IsCellRead-cell_read true (Ok given) cell made =
    let passes = if-ok (is_in_time (tick_of (Some given))) given cell cause.BadTime made in
    subst (IsCellRead true (Ok given)) passes.1
    (record { is_read = refl; in_time = λ _. passes.0 })

-- cells of their columns' types, of which the first has a number: the time lies in time
record AreCellsFrom (time number : ℕ) (columns : List Column) (cells : List Cell)
    : Type 0 where
  pub typed : AllZip (λ (column : Column) cell. ty_of cell ≡ column.ty) columns cells
  pub fit : All IsCell cells
  pub in_time : (place : ℕ) → place + number ≡ time → place < length columns
      → is_in_time (tick_of (slice_get cells place)) ≡ true

-- a cell before those of later columns
AreCellsFrom-cons : (time number : ℕ) (column : Column) (columns : List Column)
    (field : List ℕ) (cell : Cell) (cells : List Cell)
    → IsCellRead (nat_eq number time) (cell_of column.ty field) cell
    → AreCellsFrom time (number + 1) columns cells
    → AreCellsFrom time number (column ∷ columns) (cell ∷ cells)
AreCellsFrom-cons time number column columns field cell cells here rest =
    let is_cell = gives_cells column.ty field cell here.is_read in
    record {
      typed = (is_cell.typed, rest.typed);
      fit = All-cons IsCell cell cells is_cell.is_cell rest.fit;
      in_time = by_place;
    }
  where
    by_place : (place : ℕ) → place + number ≡ time → place < length (column ∷ columns)
        → is_in_time (tick_of (slice_get (cell ∷ cells) place)) ≡ true
    by_place zero at within = here.in_time (search (rules, tests, at))
    by_place (suc place) at within =
        rest.in_time place (omega (arith, at)) (omega (arith, within))

-- fields are read as such cells
AreCellsFrom-cells_from : (time number : ℕ) (columns : List Column) (fields : List (List ℕ))
    (cells : List Cell)
    → length fields ≡ length columns → cells_from time number columns fields ≡ Ok cells
    → AreCellsFrom time number columns cells
AreCellsFrom-cells_from time number [] [] cells many read =
    subst (AreCellsFrom time number []) (same_Ok read) (record {
      typed = tt;
      fit = All-nil _;
      in_time = λ place at within. absurd (omega (arith, within));
    })
AreCellsFrom-cells_from time number [] (_ ∷ _) cells many read = absurd (omega (arith, many))
AreCellsFrom-cells_from time number (_ ∷ _) [] cells many read = absurd (omega (arith, many))
AreCellsFrom-cells_from time number (column ∷ columns) (field ∷ fields) cells many read =
    then_more-ok _ _ cells read (λ cell others first rest same.
    subst (AreCellsFrom time number (column ∷ columns)) same
    (AreCellsFrom-cons time number column columns field cell others
    (IsCellRead-cell_read (nat_eq number time) (cell_of column.ty field) cell first)
    (AreCellsFrom-cells_from time (number + 1) columns fields others (omega (arith, many)) rest)))

-- so are the fields of a record, which are as many as the columns
AreCellsFrom-cells_of : (time : ℕ) (columns : List Column) (fields : List (List ℕ))
    (cells : List Cell)
    → cells_of time columns fields ≡ Ok cells → AreCellsFrom time 0 columns cells
AreCellsFrom-cells_of time columns fields cells read =
    by_count (nat_eq (length fields) (length columns)) refl read
  where
    by_count : (many : Bool) → nat_eq (length fields) (length columns) ≡ many
        → (if many then cells_from time 0 columns fields else Err cause.BadCount) ≡ Ok cells
        → AreCellsFrom time 0 columns cells
    by_count true many read = AreCellsFrom-cells_from time 0 columns fields cells
        (search (rules, tests, many)) read
    by_count false many read = absurd cc

-- a column with a type is there
column_type-within : (columns : List Column) (number : ℕ) (ty : Ty)
    → column_type columns number ≡ Some ty → number < length columns
column_type-within [] number ty there = absurd cc
column_type-within (column ∷ columns) zero ty there = omega arith
column_type-within (column ∷ columns) (suc number) ty there =
    omega (arith, column_type-within columns number ty there)

-- the time column of a raw table is there
time_of-within : (desc : DescOf) (feed : ℕ) (columns : List Column) (kind : KindOf)
    → is_raw_of feed kind ≡ true → IsKind desc columns kind → time_of kind < length columns
time_of-within desc feed columns (Raw its_feed time) raw is_kind =
    column_type-within columns time _ is_kind.int
time_of-within desc feed columns (Filter _ _ _) raw is_kind = absurd cc
time_of-within desc feed columns (Group _ _ _) raw is_kind = absurd cc
time_of-within desc feed columns (Join _ _ _) raw is_kind = absurd cc

-- a tick that passes the test lies in time
IsSomeAnd-in_time : (tick : Option ℕ) → is_in_time tick ≡ true → IsSomeAnd tick (λ tick. tick < END)
IsSomeAnd-in_time None timed = absurd cc
IsSomeAnd-in_time (Some tick) timed = search (rules, tests, timed)

-- the tick of a row of a raw table lies in time if its time does
IsSomeAnd-row_tick : (feed : ℕ) (kind : KindOf) (cells : List Cell)
    → is_raw_of feed kind ≡ true → is_in_time (tick_of (slice_get cells (time_of kind))) ≡ true
    → IsSomeAnd (row_tick kind cells) (λ tick. tick < END)
IsSomeAnd-row_tick feed (Raw its_feed time) cells raw in_time = IsSomeAnd-in_time _ in_time
IsSomeAnd-row_tick feed (Filter _ _ _) cells raw in_time = absurd cc
IsSomeAnd-row_tick feed (Group _ _ _) cells raw in_time = absurd cc
IsSomeAnd-row_tick feed (Join _ _ _) cells raw in_time = absurd cc

-- a table that passes the test is a raw one of the feed
IsRawOf-raw_of : (feed : ℕ) (kind : KindOf) → is_raw_of feed kind ≡ true → IsRawOf feed kind
IsRawOf-raw_of feed (Raw its_feed time) same = search (rules, tests, same)
IsRawOf-raw_of feed (Filter _ _ _) same = absurd cc
IsRawOf-raw_of feed (Group _ _ _) same = absurd cc
IsRawOf-raw_of feed (Join _ _ _) same = absurd cc

-- the cells of a row of a raw table are a row of it
IsRowOf-table_cells : (feed : ℕ) (table : TableOf) (fields : List (List ℕ)) (cells : List Cell)
    → is_raw_of feed table.kind ≡ true → time_of table.kind < length table.columns
    → table_cells (Some table) fields ≡ Ok cells
    → IsRowOf feed cells table
IsRowOf-table_cells feed table fields cells raw within read =
    let fit = AreCellsFrom-cells_of (time_of table.kind) table.columns fields cells read in
    record {
      of_feed = IsRawOf-raw_of feed table.kind raw;
      typed = fit.typed;
      cells = fit.fit;
      in_time = IsSomeAnd-row_tick feed table.kind cells raw
          (fit.in_time (time_of table.kind) (omega arith) within);
    }

-- the table that a name finds is a raw one of the feed
is_raw_of-find_raw_table : (desc : DescOf) (feed place : ℕ) (name : List ℕ) (table : TableOf)
    → find_raw_table desc feed name ≡ Some place → slice_get desc.tables place ≡ Some table
    → is_raw_of feed table.kind ≡ true
is_raw_of-find_raw_table desc feed place name table found there =
    let here : get_or desc.tables place table ≡ table =
    get_or_from_slice_get desc.tables place table table there in
    let passes = (position-Some
    (λ (table : TableOf). bytes_eq table.name name && is_raw_of feed table.kind)
    desc.tables place table found).1 in
    search (rules, rw here at passes)

-- a row of the record with this number
record IsRowAt (desc : DescOf) (feed number : ℕ) (row : DRow) : Type 0 where
  pub fits : FitsRow desc feed row
  pub numbered : row.number ≡ number

-- the cells of a row of a raw table are such a row
IsRowAt-numbered : (desc : DescOf) (feed number place : ℕ) (row : DRow) (table : TableOf)
    (fields : List (List ℕ)) (read : Result (List Cell) RowCause)
    → IsAccepted desc → is_raw_of feed table.kind ≡ true → slice_get desc.tables place ≡ Some table
    → table_cells (Some table) fields ≡ read → numbered number place read ≡ Ok row
    → IsRowAt desc feed number row
IsRowAt-numbered desc feed number place row table fields (Err cause) accepted raw there read made =
    absurd cc
IsRowAt-numbered desc feed number place row table fields (Ok cells) accepted raw there read made =
    let within = time_of-within desc feed table.columns table.kind raw
    (accepted.each place table there).kind in
    subst (IsRowAt desc feed number) (same_Ok made) (record {
      fits = rw there (IsRowOf-table_cells feed table fields cells raw within read);
      numbered = refl;
    })

-- so are those of the table that a name finds
IsRowAt-cells : (desc : DescOf) (feed number place : ℕ) (name : List ℕ) (fields : List (List ℕ))
    (row : DRow) (there : Option TableOf)
    → IsAccepted desc → find_raw_table desc feed name ≡ Some place
    → slice_get desc.tables place ≡ there
    → numbered number place (table_cells there fields) ≡ Ok row
    → IsRowAt desc feed number row
IsRowAt-cells desc feed number place name fields row None accepted found there made = absurd cc
IsRowAt-cells desc feed number place name fields row (Some table) accepted found there made =
    IsRowAt-numbered desc feed number place row table fields (table_cells (Some table) fields)
    accepted (is_raw_of-find_raw_table desc feed place name table found there) there refl made

-- so is what a record is read as
IsRowAt-row_of : (desc : DescOf) (feed number : ℕ) (fields : List (List ℕ)) (row : DRow)
    → IsAccepted desc → row_of desc feed number fields ≡ Ok row → IsRowAt desc feed number row
IsRowAt-row_of desc feed number [] row accepted read = absurd cc
IsRowAt-row_of desc feed number (name ∷ fields) row accepted read =
    by_table (find_raw_table desc feed name) refl read
  where
    by_table : (table : Option ℕ) → find_raw_table desc feed name ≡ table
        → row_in desc number table fields ≡ Ok row → IsRowAt desc feed number row
    by_table None found read = absurd cc
    by_table (Some place) found read = IsRowAt-cells desc feed number place name fields row
        (slice_get desc.tables place) accepted found refl read

-- a row that has its place was read
placed-ok : (number : ℕ) (read : Result DRow RowCause) (row : DRow)
    → placed number read ≡ Ok row → read ≡ Ok row
placed-ok number (Ok given) row made = rw (same_Ok made) refl
placed-ok number (Err cause) row made = absurd cc

-- rows of records that are numbered from here on
record AreRowsFrom (desc : DescOf) (feed number : ℕ) (rows : List DRow) : Type 0 where
  pub fit : All (FitsRow desc feed) rows
  pub from : All (λ (row : DRow). number ≤ row.number) rows
  pub rising : AllAdjacentBelow (λ (row next : DRow). row.number < next.number) rows (length rows)

-- a row before those of later records
AreRowsFrom-cons : (desc : DescOf) (feed number : ℕ) (row : DRow) (rows : List DRow)
    → IsRowAt desc feed number row → AreRowsFrom desc feed (number + 1) rows
    → AreRowsFrom desc feed number (row ∷ rows)
AreRowsFrom-cons desc feed number row rows here rest = record {
  fit = All-cons (FitsRow desc feed) row rows here.fits rest.fit;
  from = All-cons (λ (row : DRow). number ≤ row.number) row rows (omega (arith, here.numbered))
      (λ index default within. omega (arith, rest.from index default within));
  rising = AllAdjacentBelow-cons (λ (row next : DRow). row.number < next.number) row rows
      (λ default some. omega (arith, here.numbered, rest.from 0 default some)) rest.rising;
}

-- records are read as such rows
AreRowsFrom-rows_from : (desc : DescOf) (feed number : ℕ) (records : List (List (List ℕ)))
    (rows : List DRow)
    → IsAccepted desc → rows_from desc feed number records ≡ Ok rows
    → AreRowsFrom desc feed number rows
AreRowsFrom-rows_from desc feed number [] rows accepted read =
    subst (AreRowsFrom desc feed number) (same_Ok read)
    (record {
      fit = All-nil _;
      from = All-nil _;
      rising = λ index default within. absurd (omega arith);
    })
AreRowsFrom-rows_from desc feed number (fields ∷ others) rows accepted read =
    then_more-ok _ _ rows read (λ row rest first behind same.
    subst (AreRowsFrom desc feed number) same (AreRowsFrom-cons desc feed number row rest
    (IsRowAt-row_of desc feed number fields row accepted
    (placed-ok number (row_of desc feed number fields) row first))
    (AreRowsFrom-rows_from desc feed (number + 1) others rest accepted behind)))

-- the rows of a body fit
pub rows_fit : RowsFit
rows_fit desc feed body rows accepted read =
    let fit = AreRowsFrom-rows_from desc feed 1 (without_header desc feed (records_of body)) rows
    accepted read in
    record { fit = fit.fit; from_one = fit.from; rising = fit.rising }
