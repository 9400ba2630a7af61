-- Which words are names.
use Rattle.std.specs.Prelude.{ℕ, List, [], ◌∷◌, Bool, false, not, ◌==◌, ◌&&◌, ◌||◌, nat_le, length}
use Rattle.std.specs.Prelude.{codes}
use Rattle.std.specs.Str.{bytes_eq}
use Rattle.std.specs.Char.{is_ascii_digit}
use Rattle.std.specs.List.{list_any, list_all}

-- whether a byte is an ASCII letter
abbrev pub is_letter : ℕ → Bool
is_letter byte = (nat_le 65 byte && nat_le byte 90) || (nat_le 97 byte && nat_le byte 122)

-- whether a byte may stand in a name
abbrev pub is_name_byte : ℕ → Bool
is_name_byte byte = is_letter byte || is_ascii_digit byte || (byte == 95)

-- the words of the language that are no names
abbrev pub reserved : List (List ℕ)
reserved =
    codes "and" ∷ codes "agg" ∷ codes "as" ∷ codes "by" ∷ codes "keep" ∷ codes "on"
    ∷ codes "where" ∷ []

-- whether a word begins with a letter
abbrev pub begins_name : List ℕ → Bool
begins_name [] = false
begins_name (first ∷ _) = is_letter first

-- whether a word is a name: 1 to 32 letters, digits and `_`, a letter first, and not reserved
abbrev pub is_name : List ℕ → Bool
is_name word = begins_name word && nat_le (length word) 32 && list_all is_name_byte word
    && not (list_any (bytes_eq word) reserved)
