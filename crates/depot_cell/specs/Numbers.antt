-- Which bytes are the text of a number or of an int, and of which.
use Rattle.std.specs.Prelude.{Bool, List, Option, ℕ, ℤ, Some, None, pos, neg_ℤ, [], ◌∷◌, ◌&&◌, ◌+◌}
use Rattle.std.specs.Prelude.{◌-◌, ◌*◌, ◌^◌, ◌==◌, if◌then◌else◌, length, nat_le, nat_lt}
use Rattle.std.specs.List.{list_all}
use Rattle.std.specs.Char.{is_ascii_digit}

-- the number that digits give after those that gave n
abbrev pub value_from : ℕ → List ℕ → ℕ
value_from n [] = n
value_from n (digit ∷ digits) = value_from (10 * n + (digit - 48)) digits

-- 1 to 19 decimal digits
abbrev pub is_numeral : List ℕ → Bool
is_numeral bytes =
    nat_lt 0 (length bytes) && nat_le (length bytes) 19 && list_all is_ascii_digit bytes

-- the number of 1 to 19 decimal digits
abbrev pub number_of : List ℕ → Option ℕ
number_of bytes = if is_numeral bytes then Some (value_from 0 bytes) else None

-- the int of digits without a sign
abbrev pub plain_int : List ℕ → Option ℤ
plain_int digits =
    if is_numeral digits && nat_lt (value_from 0 digits) (2 ^ 63)
    then Some (pos (value_from 0 digits)) else None

-- the int of digits after a minus
abbrev pub minus_int : List ℕ → Option ℤ
minus_int digits =
    if is_numeral digits && nat_le (value_from 0 digits) (2 ^ 63)
    then Some (neg_ℤ (pos (value_from 0 digits))) else None

-- the int of its text: an optional minus, and 1 to 19 digits whose value is in the range of 64 bits
abbrev pub int_of : List ℕ → Option ℤ
int_of [] = None
int_of (first ∷ rest) = if first == 45 then minus_int rest else plain_int (first ∷ rest)
