-- What was found of each partition, as more rows are kept.
use Rattle.std.proofs.Common.{◌≡◌, ◌∙◌, ℕ, suc, ◌+◌, ◌<◌, ◌≤◌, List, [], ◌∷◌, ◌++◌, length, take}
use Rattle.std.proofs.Common.{drop, get_or, sym, ap, map, arith, inl, inr, subst, append-nil}
use Rattle.std.proofs.Common.{length-take, length-drop}
use Rattle.std.specs.Prelude.{Bool, true, false, ◌||◌, Option, Some, All, Vec}
use Rattle.std.specs.Prelude.{slice_get}
use Rattle.std.specs.List.{list_any}
use Rattle.std.specs.BTreeMap.{is_at}
use Rattle.std.specs.declared.alloc.Global.{Global}
use Rattle.std.proofs.Math.Seq.{drop-cons}
use Rattle.std.proofs.Math.Bool.{or-false, or-true}
use Rattle.std.proofs.lemmas.Bool.{cases_Bool}
use Rattle.std.proofs.lemmas.Grind.{flat_map-append}
use Rattle.std.proofs.lemmas.List.Elements.{All-cons, All-head, All-nil, All-push, All-same}
use Rattle.std.proofs.lemmas.List.Elements.{All-weaker}
use Rattle.std.proofs.lemmas.List.Folds.{list_any-append, list_any_none}
use Rattle.desc_types.specs.declared.table.Key.{Key}
use Rattle.desc_types.specs.declared.delivery.DRow.{DRow}
use Rattle.desc_types.specs.Descriptions.{DescOf}
use Rattle.desc_types.specs.Tables.{TableOf}
use Rattle.desc_types.specs.Keys.{key_cmp}
use Rattle.partition_map.proofs.ListLemmas.{filter-all, filter-none}
use Rattle.view_meaning.specs.RawValues.{lies_in}
use Rattle.view_meaning.specs.TableRows.{cells_where, lies_in_table}
use Rattle.view_meaning.proofs.RawLemmas.{cells_where-append}
use Rattle.raw_load.specs.declared.piece.Stretch.{Stretch}
use Rattle.raw_load.specs.Stretches.{AddsStretch, IsStretchOf, LiesNowhere, LiesOnlyIn}
use Rattle.raw_load.specs.Stretches.{Stretches, run_of}
use Rattle.raw_load.specs.Stretches.{TellsPart, TellsRows, found_at, stretch_rows, stretches_in}
use Rattle.raw_load.specs.Stretches.{stretches_rows}
use Rattle.raw_load.proofs.CompareLemmas.{is_at-key_cmp-itself, is_at-key_cmp-same}
use Rattle.raw_load.proofs.LyingLemmas.{LiesOnlyIn-lies_in, lies_in-found}

-- so many rows from one on are that one and those that follow it
run_of-more : (rows : List DRow) (first more : ℕ) (row : DRow) → first < length rows
    → row ≡ get_or rows first row
    → run_of rows first (1 + more) ≡ row ∷ run_of rows (first + 1) more
run_of-more rows first more row within read =
    let count : 1 + more ≡ suc more = omega arith in
    let next : suc first ≡ first + 1 = omega arith in
    ap (λ (count : ℕ). take count (drop first rows)) count
    ∙ ap (λ (rest : List DRow). take (suc more) rest) (drop-cons rows first row within)
    ∙ ap (λ (head : DRow). head ∷ take more (drop (suc first) rows)) (sym read)
    ∙ ap (λ (next : ℕ). row ∷ take more (drop next rows)) next

-- what is so of a row is so of the run of it alone
pub All-run_of : (P : DRow → Type 0) (rows : List DRow) (first : ℕ) (row : DRow)
    → first < length rows → row ≡ get_or rows first row → P row → All P (run_of rows first 1)
All-run_of P rows first row within read holds =
    All-same P (run_of rows first 1) (row ∷ []) (run_of-more rows first 0 row within read)
    (All-cons P row [] holds (All-nil P))

-- there are so many, if they end within the rows
pub length-run_of : (rows : List DRow) (first count : ℕ) → first + count ≤ length rows
    → length (run_of rows first count) ≡ count
length-run_of rows first count within =
    omega (arith, length-take count (drop first rows), length-drop first rows)

-- a test that some rows pass, and all of them, finds one
list_any-all : (test : DRow → Bool) (rows : List DRow) → 1 ≤ length rows
    → All (λ row. test row ≡ true) rows → list_any test rows ≡ true
list_any-all test [] some all = absurd (omega arith)
list_any-all test (row ∷ rows) some all =
    ap (λ (passes : Bool). passes || list_any test rows)
    (All-head (λ row. test row ≡ true) row rows all)

-- rows from one on, so many, lie in one partition
pub record IsRun (desc : DescOf) (rows : List DRow) (first count : ℕ) (key : Key) : Type 0 where
  pub some : 1 ≤ count
  pub within : first + count ≤ length rows
  pub only : All (LiesOnlyIn desc key) (run_of rows first count)

-- each of them lies there
lies_in-run : (desc : DescOf) (rows : List DRow) (first count : ℕ) (key : Key)
    → IsRun desc rows first count key
    → All (λ row. lies_in desc key row ≡ true) (run_of rows first count)
lies_in-run desc rows first count key run =
    All-weaker (LiesOnlyIn desc key) (λ row. lies_in desc key row ≡ true)
    (λ row only. only key ∙ is_at-key_cmp-itself key) (run_of rows first count) run.only

-- and one does
list_any-run : (desc : DescOf) (rows kept : List DRow) (first count : ℕ) (key : Key)
    → IsRun desc rows first count key
    → list_any (lies_in desc key) (kept ++ run_of rows first count) ≡ true
list_any-run desc rows kept first count key run =
    let test = lies_in desc key in
    list_any-append test kept (run_of rows first count)
    ∙ ap (λ also. list_any test kept || also)
    (list_any-all test (run_of rows first count)
    (omega (arith, run.some, length-run_of rows first count run.within))
    (lies_in-run desc rows first count key run))
    ∙ or-true (list_any test kept)

-- what was found of a partition stays, if none of the rows that are kept besides lies in it
TellsPart-same : (desc : DescOf) (rows kept more : List DRow) (key : Key)
    (found : Option (Vec Stretch Global))
    → All (λ row. lies_in desc key row ≡ false) more
    → TellsPart desc rows kept key found → TellsPart desc rows (kept ++ more) key found
TellsPart-same desc rows kept more key found none tells =
    let test = lies_in desc key in
    record {
      some = tells.some ∙ sym (or-false (list_any test kept))
          ∙ ap (λ also. list_any test kept || also) (sym (list_any_none test more none))
          ∙ sym (list_any-append test kept more);
      exact = tells.exact ∙ sym (append-nil (cells_where test kept))
          ∙ ap (λ (passed : List DRow). cells_where test kept
          ++ map (λ (row : DRow). row.cells) passed) (sym (filter-none test more none))
          ∙ sym (cells_where-append test kept more);
      within = tells.within;
    }

-- so it is of each partition, if they lie in none
pub TellsRows-none : (desc : DescOf) (rows kept more : List DRow) (found : Stretches)
    → All (LiesNowhere desc) more
    → TellsRows desc rows kept found → TellsRows desc rows (kept ++ more) found
TellsRows-none desc rows kept more found none tells key =
    TellsPart-same desc rows kept more key (found_at found key)
    (All-weaker (LiesNowhere desc) (λ row. lies_in desc key row ≡ false)
    (λ row none. none key) more none)
    (tells key)

-- a stretch more has the cells of its run besides
stretches_rows-run : (test : DRow → Bool) (rows kept : List DRow) (first count : ℕ)
    (stretches : List Stretch)
    → All (λ row. test row ≡ true) (run_of rows first count)
    → stretches_rows rows stretches ≡ cells_where test kept
    → stretches_rows rows (stretches ++ record { first = first; count = count } ∷ [])
    ≡ cells_where test (kept ++ run_of rows first count)
stretches_rows-run test rows kept first count stretches all told =
    let stretch : Stretch = record { first = first; count = count } in
    flat_map-append (stretch_rows rows) stretches (stretch ∷ [])
    ∙ ap (λ cells. stretches_rows rows stretches ++ cells) (append-nil (stretch_rows rows stretch))
    ∙ ap (λ cells. cells ++ stretch_rows rows stretch) told
    ∙ ap (λ (passed : List DRow). cells_where test kept ++ map (λ (row : DRow). row.cells) passed)
    (sym (filter-all test (run_of rows first count) all))
    ∙ sym (cells_where-append test kept (run_of rows first count))

-- if a run of a partition is kept besides, its stretch is found there
TellsPart-run : (desc : DescOf) (rows kept : List DRow) (first count : ℕ) (key : Key)
    (old new : Stretches) → IsRun desc rows first count key
    → AddsStretch key (record { first = first; count = count }) old new
    → TellsPart desc rows kept key (found_at old key)
    → TellsPart desc rows (kept ++ run_of rows first count) key (found_at new key)
TellsPart-run desc rows kept first count key old new run adds tells = record {
  some = adds.some ∙ sym (list_any-run desc rows kept first count key run);
  exact = ap (stretches_rows rows) adds.gained
      ∙ stretches_rows-run (lies_in desc key) rows kept first count
      (stretches_in (found_at old key)) (lies_in-run desc rows first count key run) tells.exact;
  within = rw adds.gained
      (All-push (IsStretchOf rows) (stretches_in (found_at old key))
      (record { first = first; count = count }) tells.within run.within);
}

-- and each other partition has what it had
TellsPart-other : (desc : DescOf) (rows kept : List DRow) (first count : ℕ) (key other : Key)
    (old new : Stretches) → IsRun desc rows first count key
    → AddsStretch key (record { first = first; count = count }) old new
    → is_at (key_cmp key) other ≡ false
    → TellsPart desc rows kept other (found_at old other)
    → TellsPart desc rows (kept ++ run_of rows first count) other (found_at new other)
TellsPart-other desc rows kept first count key other old new run adds apart tells =
    rw (adds.others other apart)
    (TellsPart-same desc rows kept (run_of rows first count) other (found_at old other)
    (All-weaker (LiesOnlyIn desc key) (λ row. lies_in desc other row ≡ false)
    (λ row only. only other ∙ apart) (run_of rows first count) run.only)
    tells)

-- so a run that is kept besides is told by its stretch
pub TellsRows-run : (desc : DescOf) (rows kept : List DRow) (first count : ℕ) (key : Key)
    (old new : Stretches) → IsRun desc rows first count key
    → AddsStretch key (record { first = first; count = count }) old new
    → TellsRows desc rows kept old → TellsRows desc rows (kept ++ run_of rows first count) new
TellsRows-run desc rows kept first count key old new run adds tells other =
    elim (cases_Bool (is_at (key_cmp key) other)) [
      | inl same ↦
          subst (λ (other : Key).
          TellsPart desc rows (kept ++ run_of rows first count) other (found_at new other))
          (is_at-key_cmp-same key other same)
          (TellsPart-run desc rows kept first count key old new run adds (tells key))
      | inr apart ↦
          TellsPart-other desc rows kept first count key other old new run adds apart (tells other)
    ]

-- a row and those that follow it in its partition lie in that one
pub run_of-only : (desc : DescOf) (rows : List DRow) (first more : ℕ) (row : DRow) (key : Key)
    (table : TableOf) → first < length rows → row ≡ get_or rows first row
    → slice_get desc.tables key.table ≡ Some table
    → LiesOnlyIn desc key row
    → All (λ row. lies_in_table table key row ≡ true) (run_of rows (first + 1) more)
    → All (LiesOnlyIn desc key) (run_of rows first (1 + more))
run_of-only desc rows first more row key table within read found only all =
    All-same (LiesOnlyIn desc key) (run_of rows first (1 + more))
    (row ∷ run_of rows (first + 1) more) (run_of-more rows first more row within read)
    (All-cons (LiesOnlyIn desc key) row (run_of rows (first + 1) more) only
    (All-weaker (λ row. lies_in_table table key row ≡ true) (LiesOnlyIn desc key)
    (λ row lies.
    LiesOnlyIn-lies_in desc key row (lies_in-found desc key table row found ∙ lies))
    (run_of rows (first + 1) more) all))
