-- What a numeral is made of, and how great its number is. `own` gives std's lemmas on digits.
use Rattle.std.proofs.Common.{◌≡◌, ◌∙◌, ℕ, ◌+◌, ◌-◌, ◌*◌, ◌^◌, ◌<◌, ◌≤◌, List, [], ◌∷◌, ◌++◌, true}
use Rattle.std.proofs.Common.{refl, ap, length, take, get_or, arith, rules}
use Rattle.std.proofs.lemmas.List.{length-take, take_more}
use Rattle.std.specs.List.{list_all}
use Rattle.std.specs.Char.{is_ascii_digit}
use Rattle.std.specs.Int.{IsInRange}
use Rattle.std.proofs.lemmas.Str.Parse.{IsNumeralModel, numerals_by_fold, digits_value_short}
use Rattle.std.proofs.lemmas.Str.Parse.{digit_at}
use Rattle.depot_cell.specs.Numbers.{value_from, is_numeral}

-- our digits and their number are std's
pub own : IsNumeralModel (λ digits. list_all is_ascii_digit digits ≡ true) (value_from 0)
own = numerals_by_fold _ (search rules) value_from (search rules)

-- a numeral is made of digits
is_numeral-digits : (bytes : List ℕ) → is_numeral bytes ≡ true
    → list_all is_ascii_digit bytes ≡ true
is_numeral-digits bytes numeral = search rules

-- each byte of a numeral is a digit
pub is_numeral-at : (bytes : List ℕ) (i : ℕ) → is_numeral bytes ≡ true → i < length bytes
    → IsInRange 48 57 (get_or bytes i 0)
is_numeral-at bytes i numeral within =
    digit_at bytes i (own.to bytes (is_numeral-digits bytes numeral)) within

-- the number of two runs of digits is that of the second after that of the first
value_from-append : (n : ℕ) (digits more : List ℕ)
    → value_from n (digits ++ more) ≡ value_from (value_from n digits) more
value_from-append n [] more = refl
value_from-append n (digit ∷ digits) more =
    value_from-append (10 * n + (digit - 48)) digits more

-- the number of the digits so far and of the one that stands next
pub value_from-take : (digits : List ℕ) (i : ℕ) → i < length digits
    → value_from 0 (take (i + 1) digits)
    ≡ 10 * value_from 0 (take i digits) + (get_or digits i 0 - 48)
value_from-take digits i within =
    ap (value_from 0) (take_more digits i 0 within) ∙ value_from-append 0 (take i digits) _

-- the number of up to 18 digits in front is below 10 ^ 18
pub value_from-take-lt : (digits : List ℕ) (i : ℕ) → i ≤ 18
    → list_all is_ascii_digit (take i digits) ≡ true → value_from 0 (take i digits) < 10 ^ 18
value_from-take-lt digits i few are_digits =
    let short : length (take i digits) ≤ 18 = omega (arith, length-take i digits) in
    digits_value_short own (take i digits) 18 are_digits short
