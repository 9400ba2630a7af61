-- Rows of a delivery, whose record numbers rise: there are fewer than 2^32.
use Rattle.std.proofs.Common.{◌∷◌, [], ◌≡◌, ◌+◌, ◌-◌, ◌^◌, ◌<◌, ◌≤◌, ℕ, zero, suc}
use Rattle.std.proofs.Common.{List, ap, arith, get_or, length, sym}
use Rattle.std.specs.Prelude.{All, slice_index_or}
use Rattle.std.specs.List.{AllAdjacentBelow}
use Rattle.std.proofs.lemmas.List.Elements.{All-head, All-tail}
use Rattle.desc_types.specs.declared.delivery.DRow.{DRow}

-- each number is below the next one
abbrev pub AreRising : List DRow → Type 0
AreRising rows = AllAdjacentBelow (λ (row next : DRow). row.number < next.number) rows (length rows)

-- a number below that of the first row
abbrev pub IsBefore : ℕ → List DRow → Type 0
IsBefore before rows = (d : DRow) → 0 < length rows → before < (slice_index_or rows 0 d).number

-- the rows after the first rise
pub AreRising-tail : (row : DRow) (rows : List DRow) → AreRising (row ∷ rows) → AreRising rows
AreRising-tail row rows rising k d within =
    let next : suc k + 1 ≡ suc (k + 1) = omega arith in
    rw next at (rising (suc k) d (omega arith))

-- the first number is below that of the row after it
pub IsBefore-tail : (row : DRow) (rows : List DRow) → AreRising (row ∷ rows)
    → IsBefore row.number rows
IsBefore-tail row rows rising d some = rising 0 d (omega arith)

-- rows rise with one more in front
pub AreRising-cons : (row : DRow) (rows : List DRow) → IsBefore row.number rows → AreRising rows
    → AreRising (row ∷ rows)
AreRising-cons row rows before rising zero d within = before d (omega arith)
AreRising-cons row rows before rising (suc k) d within =
    let next : suc k + 1 ≡ suc (k + 1) = omega arith in
    rw next (rising k d (omega arith))

-- rising numbers above one of 32 bits
pub rising-count : (before : ℕ) (rows : List DRow) → IsBefore before rows → AreRising rows
    → All (λ (row : DRow). row.number < 2 ^ 32) rows → before < 2 ^ 32
    → before + length rows < 2 ^ 32
rising-count before [] above rising short small = omega arith
rising-count before (row ∷ rows) above rising short small =
    let first = above row (omega arith) in
    let is_short = All-head (λ (row : DRow). row.number < 2 ^ 32) row rows short in
    let others = rising-count row.number rows (IsBefore-tail row rows rising)
    (AreRising-tail row rows rising)
    (All-tail (λ (row : DRow). row.number < 2 ^ 32) row rows short) is_short in
    omega (arith, first, others)

-- the first number is above 0
pub IsBefore-from_one : (rows : List DRow) → All (λ (row : DRow). 1 ≤ row.number) rows
    → IsBefore 0 rows
IsBefore-from_one [] from_one d some = absurd (omega (arith, some))
IsBefore-from_one (row ∷ rows) from_one d some =
    All-head (λ (row : DRow). 1 ≤ row.number) row rows from_one

-- a number above 0 that rises is above its place
pub rising-at : (rows : List DRow) → IsBefore 0 rows → AreRising rows → (k : ℕ) (d : DRow)
    → k < length rows → k < (slice_index_or rows k d).number
rising-at rows above rising zero d within = above d (omega (arith, within))
rising-at rows above rising (suc k) d within =
    let earlier = rising-at rows above rising k d (omega (arith, within)) in
    let step = rising k d (omega (arith, within)) in
    let next : suc k ≡ k + 1 = omega arith in
    rw next (omega (arith, earlier, step))

-- the last number is at least the count
pub count-le-last : (rows : List DRow) (last : DRow) → All (λ (row : DRow). 1 ≤ row.number) rows
    → AreRising rows → 0 < length rows → last ≡ get_or rows (length rows - 1) last
    → length rows ≤ last.number
count-le-last rows last from_one rising some is =
    let above = rising-at rows (IsBefore-from_one rows from_one) rising (length rows - 1) last
    (omega (arith, some)) in
    let same : (get_or rows (length rows - 1) last).number ≡ last.number =
    ap (λ (row : DRow). row.number) (sym is) in
    omega (arith, above, same, some)
