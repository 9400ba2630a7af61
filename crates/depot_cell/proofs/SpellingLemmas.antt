-- The text of a cell is read as that cell again.
use Rattle.std.proofs.Common.{◌≡◌, ℕ, ℤ, ◌^◌, ◌<◌, ◌≤◌, List, [], ◌∷◌, suc, pos, negsuc, neg_ℤ}
use Rattle.std.proofs.Common.{true, Ok, Some, FitsSigned, ap, length, arith, rules, decimal, ◌∙◌}
use Rattle.std.specs.Int.{w64}
use Rattle.std.specs.Fmt.{signed_decimal}
use Rattle.std.proofs.lemmas.Fmt.{decimal_nonempty, length-decimal-le, digits_decimal}
use Rattle.std.proofs.lemmas.Fmt.{digits_value-decimal}
use Rattle.std.proofs.lemmas.Str.{is_utf8-from_IsUtf8}
use Rattle.std.proofs.lemmas.Grind.{common_steps}
use Rattle.std.proofs.lemmas.Bool.Decides.{nat_tests}
use Rattle.depot_cell.specs.declared.cell.Cell.TheVariants.{Int, Text}
use Rattle.depot_cell.specs.ShortText.{IsShortText}
use Rattle.depot_cell.specs.Numbers.{value_from, is_numeral, int_of}
use Rattle.depot_cell.specs.Reading.{int_cell, text_cell}
use Rattle.depot_cell.specs.Spelling.{HasExactTexts}
use Rattle.depot_cell.proofs.NumberLemmas.{own, is_numeral-at}

-- the shortest form of a number of at most 19 digits is a numeral
is_numeral-decimal : (n : ℕ) → n < 10 ^ 19 → is_numeral (decimal n) ≡ true
is_numeral-decimal n small =
    let digits = digits_decimal own n (omega arith) in
    let few : length (decimal n) ≤ 19 = length-decimal-le 19 n (omega arith) small (omega arith) in
    let some : 0 < length (decimal n) = decimal_nonempty n (omega arith) in
    search rules

-- a numeral of an int in range is read without a sign
int_of-plain : (digits : List ℕ) → is_numeral digits ≡ true → value_from 0 digits < 2 ^ 63
    → int_of digits ≡ Some (pos (value_from 0 digits))
int_of-plain [] numeral small = absurd (search (rules, numeral))
int_of-plain (first ∷ rest) numeral small =
    let digit = is_numeral-at (first ∷ rest) 0 numeral (omega arith) in
    grind (arith, common_steps, nat_tests)

-- and after a minus
int_of-minus : (digits : List ℕ) → is_numeral digits ≡ true → value_from 0 digits ≤ 2 ^ 63
    → int_of (45 ∷ digits) ≡ Some (neg_ℤ (pos (value_from 0 digits)))
int_of-minus digits numeral small = grind (arith, common_steps, nat_tests)

-- the text of an int is read as the int
int_of-signed_decimal : (number : ℤ) → FitsSigned w64 number
    → int_of (signed_decimal number) ≡ Some number
int_of-signed_decimal (pos n) fits =
    let same : value_from 0 (decimal n) ≡ n = digits_value-decimal own n (omega arith) in
    int_of-plain (decimal n) (is_numeral-decimal n (omega arith)) (omega arith)
    ∙ ap (λ m. Some (pos m)) same
int_of-signed_decimal (negsuc n) fits =
    let same : value_from 0 (decimal (suc n)) ≡ suc n =
    digits_value-decimal own (suc n) (omega arith) in
    int_of-minus (decimal (suc n)) (is_numeral-decimal (suc n) (omega arith)) (omega arith)
    ∙ ap (λ m. Some (neg_ℤ (pos m))) same

-- a short text is read as itself
text_cell-short : (bytes : List ℕ) → IsShortText bytes → text_cell bytes ≡ Ok (Text bytes)
text_cell-short bytes is_short =
    let text = is_utf8-from_IsUtf8 bytes is_short.utf8 in
    grind (arith, common_steps, nat_tests)

-- so each cell's text is read as the cell
pub exact_texts : HasExactTexts
exact_texts (Int number) fits = ap int_cell (int_of-signed_decimal number fits)
exact_texts (Text bytes) is_short = text_cell-short bytes is_short
