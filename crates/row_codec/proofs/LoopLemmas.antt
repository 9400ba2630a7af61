-- The loops that read rows, cell by cell and row by row. Each keeps that what was read, followed by
-- what the rest gives, is the whole (`with_front`). For each there is a lemma on one turn more
-- (`-step`), on a turn that cannot be read (`-stop`), and on the end (`-end`).
use Rattle.std.proofs.Common.{◌≡◌, ◌++◌, ◌∷◌, [], ◌+◌, ◌-◌, ◌<◌, ◌≤◌, ◌∙◌, ℕ, suc, List, Ok, Err}
use Rattle.std.proofs.Common.{length, drop, get_or, refl, sym, ap, arith, append_assoc, drop-cons}
use Rattle.std.proofs.Common.{◌⊎◌, ◌≢◌, true, false, inl, inr, map, rules, subst, tests}
use Rattle.std.specs.Prelude.{IsErrAnd, Result, if◌then◌else◌, nat_eq, set}
use Rattle.std.proofs.lemmas.Bool.{cases_Bool}
use Rattle.std.proofs.lemmas.List.{append-nil, drop_all, get_or-map, get_or-set_other}
use Rattle.std.proofs.lemmas.List.{get_or-set_same, length-map, length-set}
use Rattle.depot_cell.specs.declared.cell.Cell.{Cell}
use Rattle.depot_cell.specs.declared.cell.Ty.{Ty}
use Rattle.desc_types.specs.declared.delivery.DRow.{DRow}
use Rattle.desc_types.specs.declared.table.Column.{Column}
use Rattle.desc_types.specs.Descriptions.{DescOf}
use Rattle.row_codec.specs.declared.fault.Cut.{Cut}
use Rattle.row_codec.specs.declared.fault.Cut.TheVariants as cut
use Rattle.row_codec.specs.declared.field.Wanted.{Wanted}
use Rattle.row_codec.specs.declared.field.Wanted.TheVariants as wanted
use Rattle.row_codec.specs.Answers.{Stops, Takes}
use Rattle.row_codec.specs.Deliveries.{record_at, records_at, timed_wants}
use Rattle.row_codec.specs.Reading.{◌>>=◌, cell_at, row_at, so_many_rows_at, wanted_of}

-- what was read, followed by what was read of the rest
abbrev pub with_front : {A : Type 0} → List A → Result (List A × List ℕ) ℕ
    → Result (List A × List ℕ) ℕ
with_front front (Ok others) = Ok (front ++ others.0, others.1)
with_front front (Err left) = Err left

-- nothing was read yet
pub with_front-empty : {A : Type 0} (others : Result (List A × List ℕ) ℕ)
    → with_front [] others ≡ others
with_front-empty (Ok others) = refl
with_front-empty (Err left) = refl

-- a first element and others
abbrev then_others : {A : Type 0} → Result (A × List ℕ) ℕ
    → (A → List ℕ → Result (List A × List ℕ) ℕ) → Result (List A × List ℕ) ℕ
then_others first others =
    first >>= λ one. others one.0 one.1 >>= λ rest. Ok (one.0 ∷ rest.0, rest.1)

-- one more element before the others
regroup : {A : Type 0} (front : List A) (one : A) (others : Result (List A × List ℕ) ℕ)
    → with_front front (others >>= λ rest. Ok (one ∷ rest.0, rest.1))
    ≡ with_front (front ++ one ∷ []) others
regroup front one (Ok rest) = ap (λ list. Ok (list, rest.1)) (sym (append_assoc front (one ∷ []) rest.0))
regroup front one (Err left) = refl

-- one turn more
step : {A : Type 0} (front : List A) (first : Result (A × List ℕ) ℕ)
    (others : A → List ℕ → Result (List A × List ℕ) ℕ) (one : A) (after : List ℕ)
    (total : Result (List A × List ℕ) ℕ)
    → first ≡ Ok (one, after) → with_front front (then_others first others) ≡ total
    → with_front (front ++ one ∷ []) (others one after) ≡ total
step front first others one after total read whole =
    sym (regroup front one (others one after))
    ∙ ap (λ reading. with_front front (then_others reading others)) (sym read) ∙ whole

-- an element that cannot be read
stop : {A : Type 0} (front : List A) (first : Result (A × List ℕ) ℕ)
    (others : A → List ℕ → Result (List A × List ℕ) ℕ) (why : Cut)
    (total : Result (List A × List ℕ) ℕ)
    → Stops why first → with_front front (then_others first others) ≡ total → Stops why total
stop front first others (cut.Left left) total stops whole =
    sym whole ∙ ap (λ reading. with_front front (then_others reading others)) stops
stop front first others cut.Memory total stops whole = tt

-- no element more
end : {A : Type 0} (front : List A) (bytes : List ℕ) (rest : Result (List A × List ℕ) ℕ)
    (total : Result (List A × List ℕ) ℕ)
    → rest ≡ Ok ([], bytes) → with_front front rest ≡ total → total ≡ Ok (front, bytes)
end front bytes rest total none whole =
    sym whole ∙ ap (with_front front) none ∙ ap (λ list. Ok (list, bytes)) (append-nil front)

-- a stop that is handed on
pub Takes-passed : {A B : Type 0} (view : A → B) (result : Result A Cut) (why : Cut)
    (reading : Result B ℕ) → IsErrAnd result (λ passed. passed ≡ why) → Stops why reading
    → Takes view result reading
Takes-passed view (Ok value) why reading passed stops = absurd passed
Takes-passed view (Err stop) why reading passed stops = rw passed stops

-- what is wanted for a type
pub typed_wants-at : (types : List Ty) (i : ℕ) (type : Ty) (want : Wanted) → i < length types
    → want ≡ wanted_of (get_or types i type) → get_or (map wanted_of types) i want ≡ want
typed_wants-at types i type want within is =
    get_or-map wanted_of types i type want within ∙ sym is

-- something is wanted for each column
pub length-timed_wants : (time : ℕ) (columns : List Column)
    → length (timed_wants time columns) ≡ length columns
length-timed_wants time columns =
    length-set (map (λ (column : Column). wanted_of column.ty) columns) time wanted.Tick
    ∙ length-map columns (λ (column : Column). wanted_of column.ty)

-- what is wanted for a column, of which one has the time
pub timed_wants-at : (time : ℕ) (columns : List Column) (i : ℕ) (column : Column) (want : Wanted)
    → i < length columns → column ≡ get_or columns i column
    → want ≡ (if nat_eq i time then wanted.Tick else wanted_of column.ty)
    → get_or (timed_wants time columns) i want ≡ want
timed_wants-at time columns i column want within is wants =
    by_test (cases_Bool (nat_eq i time))
  where
    of_columns : List Wanted
    of_columns = map (λ (column : Column). wanted_of column.ty) columns

    by_test : (nat_eq i time ≡ true) ⊎ (nat_eq i time ≡ false)
        → get_or (timed_wants time columns) i want ≡ want
    by_test (inl here) =
        let same : i ≡ time = search (rules, tests, here) in
        let many = length-map columns (λ (column : Column). wanted_of column.ty) in
        let tick : want ≡ wanted.Tick = rw here at wants in
        subst (λ n. get_or (set of_columns n wanted.Tick) i want ≡ want) same
        (get_or-set_same of_columns i wanted.Tick want (omega (arith, within, many)) ∙ sym tick)
    by_test (inr there) =
        let other : i ≢ time = search (rules, tests, there) in
        let typed : want ≡ wanted_of column.ty = rw there at wants in
        get_or-set_other of_columns time i wanted.Tick want other
        ∙ get_or-map (λ (column : Column). wanted_of column.ty) columns i column want within
        ∙ ap (λ (column : Column). wanted_of column.ty) (sym is) ∙ sym typed

-- what a row gives from a cell on
row_at-drop : (wants : List Wanted) (i : ℕ) (wanted : Wanted) (bytes : List ℕ) → i < length wants
    → get_or wants i wanted ≡ wanted
    → row_at (drop i wants) bytes
    ≡ then_others (cell_at wanted bytes) (λ _. row_at (drop (i + 1) wants))
unfolding row_at
row_at-drop wants i wanted bytes within is =
    let next : suc i ≡ i + 1 = omega arith in
    let parts : drop i wants ≡ wanted ∷ drop (i + 1) wants =
    drop-cons wants i wanted within ∙ ap (λ one. one ∷ drop (suc i) wants) is
    ∙ ap (λ n. wanted ∷ drop n wants) next in
    rw parts refl

pub row-step : (wants : List Wanted) (i : ℕ) (wanted : Wanted) (front : List Cell)
    (bytes : List ℕ) (cell : Cell) (after : List ℕ) (total : Result (List Cell × List ℕ) ℕ)
    → i < length wants → get_or wants i wanted ≡ wanted → cell_at wanted bytes ≡ Ok (cell, after)
    → with_front front (row_at (drop i wants) bytes) ≡ total
    → with_front (front ++ cell ∷ []) (row_at (drop (i + 1) wants) after) ≡ total
row-step wants i wanted front bytes cell after total within is read whole =
    step front (cell_at wanted bytes) (λ _. row_at (drop (i + 1) wants)) cell after total read
    (ap (with_front front) (sym (row_at-drop wants i wanted bytes within is)) ∙ whole)

pub row-stop : (wants : List Wanted) (i : ℕ) (wanted : Wanted) (front : List Cell)
    (bytes : List ℕ) (why : Cut) (total : Result (List Cell × List ℕ) ℕ)
    → i < length wants → get_or wants i wanted ≡ wanted → Stops why (cell_at wanted bytes)
    → with_front front (row_at (drop i wants) bytes) ≡ total → Stops why total
row-stop wants i wanted front bytes why total within is stops whole =
    stop front (cell_at wanted bytes) (λ _. row_at (drop (i + 1) wants)) why total stops
    (ap (with_front front) (sym (row_at-drop wants i wanted bytes within is)) ∙ whole)

pub row-end : (wants : List Wanted) (i : ℕ) (front : List Cell) (bytes : List ℕ)
    (total : Result (List Cell × List ℕ) ℕ)
    → length wants ≤ i → with_front front (row_at (drop i wants) bytes) ≡ total
    → total ≡ Ok (front, bytes)
unfolding row_at
row-end wants i front bytes total within whole =
    end front bytes (row_at (drop i wants) bytes) total
    (ap (λ list. row_at list bytes) (drop_all i wants within)) whole

-- what so many rows give from a row on
so_many_rows_at-turn : (wants : List Wanted) (count i : ℕ) (bytes : List ℕ) → i < count
    → so_many_rows_at wants (count - i) bytes
    ≡ then_others (row_at wants bytes) (λ _. so_many_rows_at wants (count - (i + 1)))
unfolding so_many_rows_at
so_many_rows_at-turn wants count i bytes within =
    let more : count - i ≡ suc (count - (i + 1)) = omega arith in rw more refl

pub rows-step : (wants : List Wanted) (count i : ℕ) (front : List (List Cell)) (bytes : List ℕ)
    (row : List Cell) (after : List ℕ) (total : Result (List (List Cell) × List ℕ) ℕ)
    → i < count → row_at wants bytes ≡ Ok (row, after)
    → with_front front (so_many_rows_at wants (count - i) bytes) ≡ total
    → with_front (front ++ row ∷ []) (so_many_rows_at wants (count - (i + 1)) after) ≡ total
rows-step wants count i front bytes row after total within read whole =
    step front (row_at wants bytes) (λ _. so_many_rows_at wants (count - (i + 1))) row after total
    read (ap (with_front front) (sym (so_many_rows_at-turn wants count i bytes within)) ∙ whole)

pub rows-stop : (wants : List Wanted) (count i : ℕ) (front : List (List Cell)) (bytes : List ℕ)
    (why : Cut) (total : Result (List (List Cell) × List ℕ) ℕ)
    → i < count → Stops why (row_at wants bytes)
    → with_front front (so_many_rows_at wants (count - i) bytes) ≡ total → Stops why total
rows-stop wants count i front bytes why total within stops whole =
    stop front (row_at wants bytes) (λ _. so_many_rows_at wants (count - (i + 1))) why total stops
    (ap (with_front front) (sym (so_many_rows_at-turn wants count i bytes within)) ∙ whole)

pub rows-end : (wants : List Wanted) (count i : ℕ) (front : List (List Cell)) (bytes : List ℕ)
    (total : Result (List (List Cell) × List ℕ) ℕ)
    → count ≤ i → with_front front (so_many_rows_at wants (count - i) bytes) ≡ total
    → total ≡ Ok (front, bytes)
unfolding so_many_rows_at
rows-end wants count i front bytes total within whole =
    let none : count - i ≡ 0 = omega arith in
    end front bytes (so_many_rows_at wants (count - i) bytes) total
    (ap (λ many. so_many_rows_at wants many bytes) none) whole

-- what so many records give from a record on
records_at-turn : (desc : DescOf) (feed count i before : ℕ) (bytes : List ℕ) → i < count
    → records_at desc feed (count - i) before bytes ≡ then_others (record_at desc feed before bytes)
    (λ row. records_at desc feed (count - (i + 1)) row.number)
unfolding records_at
records_at-turn desc feed count i before bytes within =
    let more : count - i ≡ suc (count - (i + 1)) = omega arith in rw more refl

pub records-step : (desc : DescOf) (feed count i before : ℕ) (front : List DRow) (bytes : List ℕ)
    (row : DRow) (after : List ℕ) (total : Result (List DRow × List ℕ) ℕ)
    → i < count → record_at desc feed before bytes ≡ Ok (row, after)
    → with_front front (records_at desc feed (count - i) before bytes) ≡ total
    → with_front (front ++ row ∷ []) (records_at desc feed (count - (i + 1)) row.number after)
    ≡ total
records-step desc feed count i before front bytes row after total within read whole =
    step front (record_at desc feed before bytes)
    (λ next. records_at desc feed (count - (i + 1)) next.number) row after total read
    (ap (with_front front) (sym (records_at-turn desc feed count i before bytes within)) ∙ whole)

pub records-stop : (desc : DescOf) (feed count i before : ℕ) (front : List DRow) (bytes : List ℕ)
    (why : Cut) (total : Result (List DRow × List ℕ) ℕ)
    → i < count → Stops why (record_at desc feed before bytes)
    → with_front front (records_at desc feed (count - i) before bytes) ≡ total → Stops why total
records-stop desc feed count i before front bytes why total within stops whole =
    stop front (record_at desc feed before bytes)
    (λ next. records_at desc feed (count - (i + 1)) next.number) why total stops
    (ap (with_front front) (sym (records_at-turn desc feed count i before bytes within)) ∙ whole)

pub records-end : (desc : DescOf) (feed count i before : ℕ) (front : List DRow) (bytes : List ℕ)
    (total : Result (List DRow × List ℕ) ℕ)
    → count ≤ i → with_front front (records_at desc feed (count - i) before bytes) ≡ total
    → total ≡ Ok (front, bytes)
unfolding records_at
records-end desc feed count i before front bytes total within whole =
    let none : count - i ≡ 0 = omega arith in
    end front bytes (records_at desc feed (count - i) before bytes) total
    (ap (λ many. records_at desc feed many before bytes) none) whole
