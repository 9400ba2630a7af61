-- What is read as a cell of a type is a cell of that type.
use Rattle.std.proofs.Common.{◌≡◌, ◌^◌, ◌≤◌, ℕ, zero, suc, ℤ, List, [], ◌∷◌, Bool, true, false}
use Rattle.std.proofs.Common.{pos, neg_ℤ, Some, Ok, FitsSigned, length, refl, subst, rules, tests}
use Rattle.std.specs.Int.{w64}
use Rattle.std.specs.Prelude.{Option, None, Err, Result, ◌==◌, nat_le, nat_lt, if◌then◌else◌}
use Rattle.std.specs.Str.{IsUtf8, is_utf8}
use Rattle.std.proofs.lemmas.Str.{IsUtf8-from_is_utf8}
use Rattle.std.proofs.lemmas.Option.{cond_some}
use Rattle.depot_cell.specs.declared.cell.Cell.{Cell}
use Rattle.depot_cell.specs.declared.cell.Cell.TheVariants.{Text}
use Rattle.depot_cell.specs.declared.cell.Ty.TheVariants as ty
use Rattle.depot_cell.specs.declared.cell.CellFault.TheVariants.{LongText, NotUtf8}
use Rattle.depot_cell.specs.Numbers.{int_of, minus_int, plain_int, value_from}
use Rattle.depot_cell.specs.Reading.{GivesCells, IsCellOf, int_cell, text_cell}

-- a number below 2^63 is in range
pos-fits : (n : ℕ) → nat_lt n (2 ^ 63) ≡ true → FitsSigned w64 (pos n)
pos-fits n small = search (rules, tests, small)

-- so is one up to 2^63 after a minus
neg_ℤ-fits : (n : ℕ) → nat_le n (2 ^ 63) ≡ true → FitsSigned w64 (neg_ℤ (pos n))
neg_ℤ-fits zero small = search (rules, tests)
neg_ℤ-fits (suc n) small = search (rules, tests, small)

-- the int of digits without a sign is in range
plain_int-fits : (digits : List ℕ) (number : ℤ) → plain_int digits ≡ Some number
    → FitsSigned w64 number
plain_int-fits digits number read =
    let made = cond_some _ _ _ read in
    subst (FitsSigned w64) made.1 (pos-fits (value_from 0 digits) (search (rules, made.0)))

-- so is that of digits after a minus
minus_int-fits : (digits : List ℕ) (number : ℤ) → minus_int digits ≡ Some number
    → FitsSigned w64 number
minus_int-fits digits number read =
    let made = cond_some _ _ _ read in
    subst (FitsSigned w64) made.1 (neg_ℤ-fits (value_from 0 digits) (search (rules, made.0)))

-- the int of a text is in range
int_of-fits : (bytes : List ℕ) (number : ℤ) → int_of bytes ≡ Some number → FitsSigned w64 number
int_of-fits [] number read = absurd cc
int_of-fits (first ∷ rest) number read = by_sign (first == 45) read
  where
    by_sign : (signed : Bool)
        → (if signed then minus_int rest else plain_int (first ∷ rest)) ≡ Some number
        → FitsSigned w64 number
    by_sign true read = minus_int-fits rest number read
    by_sign false read = plain_int-fits (first ∷ rest) number read

-- what two equal answers hold is the same
same_Ok : {X E : Type 0} {x y : X} → ◌≡◌ {A = Result X E} (Ok x) (Ok y) → x ≡ y
same_Ok same = cc

-- an int that was read is a cell
int_cell-IsCellOf : (read : Option ℤ) (cell : Cell)
    → ((number : ℤ) → read ≡ Some number → FitsSigned w64 number)
    → int_cell read ≡ Ok cell → IsCellOf ty.Int cell
int_cell-IsCellOf None cell fits is_cell = absurd cc
int_cell-IsCellOf (Some number) cell fits is_cell =
    subst (IsCellOf ty.Int) (same_Ok is_cell)
    (record { typed = refl; is_cell = fits number refl })

-- a text that was read is a cell
text_cell-IsCellOf : (bytes : List ℕ) (cell : Cell) → text_cell bytes ≡ Ok cell
    → IsCellOf ty.Text cell
text_cell-IsCellOf bytes cell is_cell =
    by_tests (nat_lt 255 (length bytes)) (is_utf8 bytes)
    (λ is_short. search (rules, tests, is_short)) (IsUtf8-from_is_utf8 bytes) is_cell
  where
    by_tests : (long utf8 : Bool) → (long ≡ false → length bytes ≤ 255)
        → (utf8 ≡ true → IsUtf8 bytes)
        → (if long then Err LongText else if utf8 then Ok (Text bytes) else Err NotUtf8) ≡ Ok cell
        → IsCellOf ty.Text cell
    by_tests true utf8 is_short is_text read = absurd cc
    by_tests false false is_short is_text read = absurd cc
    by_tests false true is_short is_text read = subst (IsCellOf ty.Text) (same_Ok read) (record {
      typed = refl;
      is_cell = record { utf8 = is_text refl; short = is_short refl };
    })

-- so each cell that is read is one of its type
pub gives_cells : GivesCells
gives_cells ty.Int bytes cell read = int_cell-IsCellOf (int_of bytes) cell (int_of-fits bytes) read
gives_cells ty.Text bytes cell read = text_cell-IsCellOf bytes cell read
