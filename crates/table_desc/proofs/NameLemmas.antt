-- A name is a short text.
use Rattle.std.proofs.Common.{◌≡◌, ℕ, ◌<◌, List, [], ◌∷◌, zero, suc, true, arith, rules, lit<}
use Rattle.std.specs.List.{list_all}
use Rattle.std.specs.Str.{IsAscii}
use Rattle.std.proofs.lemmas.Bool.Decides.{nat_tests}
use Rattle.std.proofs.lemmas.Str.{IsUtf8-from_ascii}
use Rattle.depot_cell.specs.ShortText.{IsShortText}
use Rattle.desc_lines.specs.Names.{is_name, is_name_byte}

-- a byte of a name is ASCII
is_name_byte-lt : (byte : ℕ) → is_name_byte byte ≡ true → byte < 128
is_name_byte-lt byte named = grind (arith, nat_tests)

-- bytes of names are ASCII
IsAscii-name_bytes : (word : List ℕ) → list_all is_name_byte word ≡ true → IsAscii word
IsAscii-name_bytes [] named i = lit< tt
IsAscii-name_bytes (byte ∷ others) named zero = is_name_byte-lt byte (search rules)
IsAscii-name_bytes (byte ∷ others) named (suc i) = IsAscii-name_bytes others (search rules) i

-- the bytes of a name may stand in names
name_bytes : (word : List ℕ) → is_name word ≡ true → list_all is_name_byte word ≡ true
name_bytes word named = search rules

-- a name is ASCII and has at most 32 bytes
pub IsShortText-name : (word : List ℕ) → is_name word ≡ true → IsShortText word
IsShortText-name word named = record {
  utf8 = IsUtf8-from_ascii word (IsAscii-name_bytes word (name_bytes word named));
  short = search rules;
}
