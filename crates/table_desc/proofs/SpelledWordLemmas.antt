-- The words of canonical texts: names, numbers, types, literals and keywords.
use Rattle.std.proofs.Common.{◌≡◌, ℕ, ℤ, zero, suc, pos, negsuc, ◌<◌, ◌/◌, ◌%◌, ◌-◌, List, []}
use Rattle.std.proofs.Common.{◌∷◌, Bool, true, false, length, refl, arith, decimal}
use Rattle.std.specs.Prelude.{◌&&◌, ◌==◌, codes, nat_lt, if◌then◌else◌}
use Rattle.std.specs.Char.{is_ascii_digit}
use Rattle.std.specs.Fmt.{digit_glyph, digits, digits_onto, signed_decimal}
use Rattle.std.specs.Io.BufRead.{ends_with_byte}
use Rattle.std.specs.List.{AllByRecursion, list_all}
use Rattle.std.specs.Str.{IsUtf8, bytes_eq}
use Rattle.std.proofs.lemmas.Bool.Decides.{nat_tests}
use Rattle.std.proofs.lemmas.List.Elements.{All-from_recursion}
use Rattle.std.proofs.lemmas.List.Folds.{list_all-append}
use Rattle.std.proofs.lemmas.Str.{IsUtf8-from_ascii}
use Rattle.std.proofs.lemmas.Str.Ascii.{IsAscii-from_all}
use Rattle.depot_cell.specs.declared.cell.Cell.{Cell}
use Rattle.depot_cell.specs.declared.cell.Cell.TheVariants.{Int, Text}
use Rattle.depot_cell.specs.declared.cell.Op.{Op}
use Rattle.depot_cell.specs.declared.cell.Op.TheVariants as op
use Rattle.depot_cell.specs.declared.cell.Ty.{Ty}
use Rattle.depot_cell.specs.declared.cell.Ty.TheVariants as ty
use Rattle.depot_cell.specs.Cells.{IsCell}
use Rattle.depot_cell.specs.Spelling.{text_of}
use Rattle.desc_lines.specs.Cuts.{joined}
use Rattle.desc_lines.specs.Lines.{is_agg}
use Rattle.desc_lines.specs.LineTexts.{op_word}
use Rattle.desc_lines.specs.Names.{is_name, is_name_byte}
use Rattle.desc_lines.specs.Words.{IsWord, Lacks}
use Rattle.desc_types.specs.Accepted.{IsSaid, NamesColumn}
use Rattle.desc_types.proofs.BoolLemmas.{and-both, or-none}
use Rattle.table_desc.specs.Canonical.{type_word}
use Rattle.table_desc.proofs.RawLemmas.{NamesColumn-name}

-- whether a byte is a sign of ASCII that can be seen
abbrev pub is_plain_byte : ℕ → Bool
is_plain_byte byte = nat_lt 32 byte && nat_lt byte 127

-- whether a word has a byte, and only such bytes
abbrev pub is_plain : List ℕ → Bool
is_plain [] = false
is_plain (first ∷ others) = list_all is_plain_byte (first ∷ others)

-- a word that a line of a text can have
pub record IsSpelled (word : List ℕ) : Type 0 where
  pub is_word : IsWord word
  pub whole : Lacks 10 word
  pub text : IsUtf8 word

-- each item that passes a test has what such items have
each-passes : {X : Type 0} (test : X → Bool) (P : X → Type 0) (xs : List X)
    → ((x : X) → test x ≡ true → P x) → list_all test xs ≡ true → AllByRecursion P xs
each-passes test P [] follows all = tt
each-passes test P (x ∷ xs) follows all =
    let parts = and-both (test x) (list_all test xs) all in
    (follows x parts.0, each-passes test P xs follows parts.1)

-- and passes a weaker test
list_all-weaker : {X : Type 0} (test weaker : X → Bool) (xs : List X)
    → ((x : X) → test x ≡ true → weaker x ≡ true) → list_all test xs ≡ true
    → list_all weaker xs ≡ true
list_all-weaker test weaker [] follows all = refl
list_all-weaker test weaker (x ∷ xs) follows all =
    let parts = and-both (test x) (list_all test xs) all in
    rw (follows x parts.0, list_all-weaker test weaker xs follows parts.1) refl

-- a list without a sign does not end in it
ends_with_byte-lacks : (sign : ℕ) (word : List ℕ) → Lacks sign word
    → ends_with_byte sign word ≡ false
ends_with_byte-lacks sign [] lacks = refl
ends_with_byte-lacks sign (first ∷ others) lacks =
    let all = All-from_recursion (λ byte. (byte == sign) ≡ false) (first ∷ others) lacks in
    rw (all (length (first ∷ others) - 1) 0 (omega arith))
    (and-false (nat_lt 0 (length (first ∷ others))))
  where
    and-false : (test : Bool) → (test && false) ≡ false
    and-false true = refl
    and-false false = refl

-- a plain word is made of plain bytes
plain_bytes : (word : List ℕ) → is_plain word ≡ true → list_all is_plain_byte word ≡ true
plain_bytes [] plain = refl
plain_bytes (first ∷ others) plain = plain

-- it has a byte
is_plain-some : (word : List ℕ) → is_plain word ≡ true → 0 < length word
is_plain-some [] plain = absurd cc
is_plain-some (first ∷ others) plain = omega arith

-- plain bytes, if there are any, are a plain word
is_plain-bytes : (word : List ℕ) → 0 < length word → list_all is_plain_byte word ≡ true
    → is_plain word ≡ true
is_plain-bytes [] some plain = absurd (omega (arith, some))
is_plain-bytes (first ∷ others) some plain = plain

-- what is so of each plain byte is so of each byte of a plain word
plain-each : (P : ℕ → Type 0) (word : List ℕ)
    → ((byte : ℕ) → is_plain_byte byte ≡ true → P byte) → is_plain word ≡ true
    → AllByRecursion P word
plain-each P word follows plain =
    each-passes is_plain_byte P word follows (plain_bytes word plain)

-- a plain word can stand in a line
pub IsSpelled-plain : (word : List ℕ) → is_plain word ≡ true → IsSpelled word
IsSpelled-plain word plain = record {
  is_word = record {
    some = is_plain-some word plain;
    whole = plain-each _ word (λ byte is. grind (arith, nat_tests)) plain;
  };
  whole = plain-each _ word (λ byte is. grind (arith, nat_tests)) plain;
  text = IsUtf8-from_ascii word (IsAscii-from_all word (All-from_recursion _ word
      (plain-each (λ byte. byte < 128) word (λ byte is. grind (arith, nat_tests)) plain)));
}

-- and does not end in CR
pub ends_with_byte-plain : (word : List ℕ) → is_plain word ≡ true
    → ends_with_byte 13 word ≡ false
ends_with_byte-plain word plain =
    ends_with_byte-lacks 13 word (plain-each _ word (λ byte is. grind (arith, nat_tests)) plain)

-- two plain words with a sign between them are one
pub is_plain-joined : (left : List ℕ) (sign : ℕ) (right : List ℕ) → is_plain left ≡ true
    → is_plain_byte sign ≡ true → is_plain right ≡ true
    → is_plain (joined left sign right) ≡ true
is_plain-joined [] sign right left_is sign_is right_is = absurd cc
is_plain-joined (first ∷ others) sign right left_is sign_is right_is = rw (
  list_all-append is_plain_byte (first ∷ others) (sign ∷ right),
  left_is,
  sign_is,
  plain_bytes right right_is,
) refl

-- a byte of a name is plain
name_byte-plain : (byte : ℕ) → is_name_byte byte ≡ true → is_plain_byte byte ≡ true
name_byte-plain byte named = grind (arith, nat_tests)

-- a name is plain
pub is_plain-named : (number : ℕ) (name : List ℕ) → NamesColumn number name
    → is_plain name ≡ true
is_plain-named number [] named = absurd (let begins = named.begins in cc)
is_plain-named number (first ∷ others) named =
    list_all-weaker is_name_byte is_plain_byte (first ∷ others) name_byte-plain named.bytes

-- the same of a name that a line gives
pub is_plain-name : (name : List ℕ) → is_name name ≡ true → is_plain name ≡ true
is_plain-name name named = is_plain-named 0 name (NamesColumn-name 0 name named)

-- it lacks each sign that no name has
pub Lacks-named : (sign number : ℕ) (name : List ℕ) → is_name_byte sign ≡ false
    → NamesColumn number name → Lacks sign name
Lacks-named sign number name is_sign named =
    each-passes is_name_byte (λ byte. (byte == sign) ≡ false) name
    (λ byte passes. grind (arith, nat_tests)) named.bytes

-- it is not the word that ends keys
pub is_agg-named : (number : ℕ) (name : List ℕ) → NamesColumn number name
    → is_agg name ≡ false
is_agg-named number name named =
    let others = or-none (bytes_eq name (codes "and")) _ named.free in
    (or-none (bytes_eq name (codes "agg")) _ others.1).0

-- a digit is one
is_ascii_digit-glyph : (digit : ℕ) → digit < 10 → is_ascii_digit (digit_glyph false digit) ≡ true
is_ascii_digit-glyph digit small = grind (arith, nat_tests)

-- what each digit in front keeps is so of a number before others
digits_onto-kept : (P : List ℕ → Type 0)
    → ((digit : ℕ) (others : List ℕ) → digit < 10 → P others
    → P (digit_glyph false digit ∷ others))
    → (many number : ℕ) (others : List ℕ) → P others → P (digits_onto many 10 false number others)
digits_onto-kept P keeps zero number others are = are
digits_onto-kept P keeps (suc many) number others are =
    let more = keeps (number % 10) others (omega arith) are in
    by_test (number / 10 == 0) more (digits_onto-kept P keeps many (number / 10) _ more)
  where
    by_test : (test : Bool) → P (digit_glyph false (number % 10) ∷ others)
        → P (digits_onto many 10 false (number / 10) (digit_glyph false (number % 10) ∷ others))
        → P (if test then digit_glyph false (number % 10) ∷ others
        else digits_onto many 10 false (number / 10) (digit_glyph false (number % 10) ∷ others))
    by_test true one more = one
    by_test false one more = more

-- a number has a digit
decimal-some : (number : ℕ) → 0 < length (decimal number)
unfolding digits
decimal-some number = by_test (number / 10 == 0) (omega arith)
    (digits_onto-kept (λ others. 0 < length others) (λ digit others small some. omega arith) 63
    (number / 10) (digit_glyph false (number % 10) ∷ []) (omega arith))
  where
    by_test : (test : Bool) → 0 < length (digit_glyph false (number % 10) ∷ [])
        → 0 < length (digits_onto 63 10 false (number / 10) (digit_glyph false (number % 10) ∷ []))
        → 0 < length (if test then digit_glyph false (number % 10) ∷ []
        else digits_onto 63 10 false (number / 10) (digit_glyph false (number % 10) ∷ []))
    by_test true one more = one
    by_test false one more = more

-- and only digits
decimal-digits : (number : ℕ) → list_all is_ascii_digit (decimal number) ≡ true
unfolding digits
decimal-digits number = digits_onto-kept (λ others. list_all is_ascii_digit others ≡ true)
    (λ digit others small are. rw (is_ascii_digit-glyph digit small) are) 64 number [] refl

-- so it is plain
pub is_plain-decimal : (number : ℕ) → is_plain (decimal number) ≡ true
is_plain-decimal number = is_plain-bytes (decimal number) (decimal-some number)
    (list_all-weaker is_ascii_digit is_plain_byte (decimal number)
    (λ byte digit. grind (arith, nat_tests)) (decimal-digits number))

-- the word of a type
pub is_plain-type_word : (ty : Ty) → is_plain (type_word ty) ≡ true
is_plain-type_word ty.Int = refl
is_plain-type_word ty.Text = refl

-- the word of an operator
pub is_plain-op_word : (op : Op) → is_plain (op_word op) ≡ true
is_plain-op_word op.Eq = refl
is_plain-op_word op.Ne = refl
is_plain-op_word op.Lt = refl
is_plain-op_word op.Le = refl
is_plain-op_word op.Gt = refl
is_plain-op_word op.Ge = refl

-- a whole number is plain, with its minus too
pub is_plain-signed_decimal : (number : ℤ) → is_plain (signed_decimal number) ≡ true
is_plain-signed_decimal (pos number) = is_plain-decimal number
is_plain-signed_decimal (negsuc number) =
    plain_bytes (decimal (suc number)) (is_plain-decimal (suc number))

-- the text of a cell can stand in a line, if a line can say it
pub IsSpelled-text_of : (cell : Cell) → IsCell cell → IsSaid cell → IsSpelled (text_of cell)
IsSpelled-text_of (Int number) is_cell said =
    IsSpelled-plain (signed_decimal number) (is_plain-signed_decimal number)
IsSpelled-text_of (Text bytes) is_cell said =
    record { is_word = said.word; whole = said.whole; text = is_cell.utf8 }
