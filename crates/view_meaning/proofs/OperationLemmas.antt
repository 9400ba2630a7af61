-- What one row more does to a sum and to the best cell of a column.
use Rattle.std.proofs.Common.{◌≡◌, ◌∙◌, ℕ, ℤ, pos, ◌+ℤ◌, ◌+◌, ◌*◌, ◌^◌, ◌<◌, ◌≤◌, List, [], ◌∷◌}
use Rattle.std.proofs.Common.{◌++◌, take, get_or, length, refl, sym, ap, map, arith}
use Rattle.std.specs.Prelude.{Option, Some, None, FitsSigned, fold, slice_get, unsigned_abs}
use Rattle.std.specs.Int.{w64, w128}
use Rattle.std.specs.List.{cons_option}
use Rattle.std.specs.Option.{option_to_list}
use Rattle.std.proofs.lemmas.Int.{ints, fits_signed_from_abs}
use Rattle.std.proofs.lemmas.List.{map-append, take_more}
use Rattle.std.proofs.lemmas.List.Elements.{filter_map-append}
use Rattle.std.proofs.lemmas.List.Sums.{fold-append}
use Rattle.depot_cell.specs.declared.cell.Cell.{Cell}
use Rattle.depot_cell.specs.declared.cell.Op.{Op}
use Rattle.view_meaning.specs.Operations.{best_by, column_of, number_in, total}

-- one row more of the list
take-push : (rows : List (List Cell)) (index : ℕ) (cells : List Cell)
    → index < length rows → cells ≡ get_or rows index cells
    → take (index + 1) rows ≡ take index rows ++ cells ∷ []
take-push rows index cells below read =
    take_more rows index cells below
    ∙ ap (λ (next : List Cell). take index rows ++ next ∷ []) (sym read)

-- one row more adds its number to a sum
pub total-push : (column : ℕ) (rows : List (List Cell)) (cells : List Cell)
    → total column (rows ++ cells ∷ [])
    ≡ total column rows +ℤ number_in (slice_get cells column)
total-push column rows cells =
    let number = λ (cells : List Cell). number_in (slice_get cells column) in
    ap (λ (numbers : List ℤ). fold ◌+ℤ◌ (pos 0) numbers) (map-append number rows (cells ∷ []))
    ∙ fold-append ◌+ℤ◌ (pos 0) (map number rows) (number cells ∷ [])

-- one row more adds its number
pub total-take : (column : ℕ) (rows : List (List Cell)) (index : ℕ) (cells : List Cell)
    → index < length rows → cells ≡ get_or rows index cells
    → total column (take (index + 1) rows)
    ≡ total column (take index rows) +ℤ number_in (slice_get cells column)
total-take column rows index cells below read =
    ap (λ (all : List (List Cell)). total column all) (take-push rows index cells below read)
    ∙ total-push column (take index rows) cells

-- one int of 64 bits more makes a sum larger by 2^63 at most
pub sum-within : (sum number : ℤ) (index : ℕ) → unsigned_abs sum ≤ index * 2 ^ 63
    → FitsSigned w64 number → unsigned_abs (sum +ℤ number) ≤ (index + 1) * 2 ^ 63
sum-within sum number index within fits = grind (arith, ints)

-- a sum of fewer than 2^63 ints of 64 bits is an int of 128 bits
pub sum-fits : (sum number : ℤ) (index : ℕ) → unsigned_abs sum ≤ index * 2 ^ 63
    → FitsSigned w64 number → index < 2 ^ 63 → FitsSigned w128 (sum +ℤ number)
sum-fits sum number index within fits few =
    fits_signed_from_abs w128 (sum +ℤ number)
    (omega (arith, sum-within sum number index within fits))

-- the best of the cells of two lists is the best of the first list's best and the second list
best_by-append : (op : Op) (cells more : List Cell)
    → best_by op (cells ++ more) ≡ best_by op (option_to_list (best_by op cells) ++ more)
best_by-append op [] more = refl
best_by-append op (cell ∷ cells) more = ap Some (fold-append _ cell cells more)

-- one row more has the best cell, or leaves the best so far
pub best_by-push : (op : Op) (column : ℕ) (rows : List (List Cell)) (cells : List Cell)
    → best_by op (column_of column (rows ++ cells ∷ []))
    ≡ best_by op (option_to_list (best_by op (column_of column rows))
    ++ option_to_list (slice_get cells column))
best_by-push op column rows cells =
    let before = column_of column rows in
    ap (λ (cells : List Cell). best_by op cells)
    (filter_map-append (λ cells. slice_get cells column) rows (cells ∷ [])
    ∙ ap (λ (last : List Cell). before ++ last) (one (slice_get cells column)))
    ∙ best_by-append op before (option_to_list (slice_get cells column))
  where
    one : (found : Option Cell) → cons_option found [] ≡ option_to_list found
    one None = refl
    one (Some cell) = refl

-- so has the next row of a list
pub best_by-take : (op : Op) (column : ℕ) (rows : List (List Cell)) (index : ℕ)
    (cells : List Cell) → index < length rows → cells ≡ get_or rows index cells
    → best_by op (column_of column (take (index + 1) rows))
    ≡ best_by op (option_to_list (best_by op (column_of column (take index rows)))
    ++ option_to_list (slice_get cells column))
best_by-take op column rows index cells below read =
    ap (λ (all : List (List Cell)). best_by op (column_of column all))
    (take-push rows index cells below read)
    ∙ best_by-push op column (take index rows) cells
