-- What the canonical text spells is read again: widths, spans, types and values.
use Rattle.std.proofs.Common.{◌≡◌, ℕ, ℤ, ◌^◌, ◌<◌, ◌≤◌, List, [], ◌∷◌, Some, suc}
use Rattle.std.proofs.Common.{true, pos, negsuc, neg_ℤ, ap, refl, length, arith, rules, decimal}
use Rattle.std.specs.Prelude.{option_map, unsigned_abs}
use Rattle.std.specs.Fmt.{signed_decimal}
use Rattle.std.proofs.lemmas.Bool.{le-leb, ne_eqb}
use Rattle.std.proofs.lemmas.Fmt.{decimal_nonempty, length-decimal-le, digits_decimal}
use Rattle.std.proofs.lemmas.Fmt.{digits_value-decimal}
use Rattle.std.proofs.lemmas.Option.{cond_some}
use Rattle.depot_cell.specs.declared.cell.Cell.{Cell}
use Rattle.depot_cell.specs.declared.cell.Ty.{Ty}
use Rattle.depot_cell.specs.declared.cell.Ty.TheVariants as ty
use Rattle.depot_cell.specs.Numbers.{is_numeral, number_of, value_from}
use Rattle.depot_cell.specs.Reading.{IsCellOf}
use Rattle.depot_cell.specs.Spelling.{text_of}
use Rattle.depot_cell.proofs.NumberLemmas.{is_numeral-at, own}
use Rattle.depot_cell.proofs.SpellingLemmas.{exact_texts}
use Rattle.partition_map.specs.declared.time.Span.{Span}
use Rattle.partition_map.specs.Time.{END, IsWidth}
use Rattle.desc_types.specs.Accepted.{IsSaidSpan}
use Rattle.desc_types.specs.Lookups.{read_type}
use Rattle.desc_causes.specs.Ticks.{read_offset, read_span, read_ticks, read_width}
use Rattle.table_desc.specs.Canonical.{type_word}
use Rattle.table_desc.specs.Declarations.{value_of}

-- a number of at most 19 digits is read again
number_of-decimal : (number : ℕ) → number < 10 ^ 19 → number_of (decimal number) ≡ Some number
number_of-decimal number small =
    let digits = digits_decimal own number (omega arith) in
    let few : length (decimal number) ≤ 19 =
    length-decimal-le 19 number (omega arith) small (omega arith) in
    let some : 0 < length (decimal number) = decimal_nonempty number (omega arith) in
    let numeral : is_numeral (decimal number) ≡ true = search rules in
    let same : value_from 0 (decimal number) ≡ number =
    digits_value-decimal own number (omega arith) in
    rw (numeral, same) refl

-- so is a width
pub read_width-decimal : (width : ℕ) → IsWidth width → read_width (decimal width) ≡ Some width
read_width-decimal width is = rw (
  number_of-decimal width (omega (arith, is.in_time)),
  le-leb 1 width is.some,
  le-leb width END is.in_time,
) refl

-- digits of a number of ticks say these ticks
read_ticks-number : (digits : List ℕ) (ticks : ℕ) → number_of digits ≡ Some ticks → ticks ≤ END
    → read_ticks digits ≡ Some ticks
read_ticks-number digits ticks is in_time = rw (is, le-leb ticks END in_time) refl

-- without a minus they say them as an offset too
read_offset-number : (digits : List ℕ) (ticks : ℕ) → number_of digits ≡ Some ticks → ticks ≤ END
    → read_offset digits ≡ Some (pos ticks)
read_offset-number [] ticks is in_time = absurd cc
read_offset-number (first ∷ rest) ticks is in_time =
    let numeral = cond_some (is_numeral (first ∷ rest)) (value_from 0 (first ∷ rest)) ticks is in
    let digit = is_numeral-at (first ∷ rest) 0 numeral.0 (omega arith) in
    let read = read_ticks-number (first ∷ rest) ticks is in_time in
    rw (ne_eqb first 45 (λ same. omega (arith, digit, same)), read) refl

-- the word of an offset is read again
read_offset-spelled : (offset : ℤ) → unsigned_abs offset ≤ END
    → read_offset (signed_decimal offset) ≡ Some offset
read_offset-spelled (pos ticks) in_time = read_offset-number (decimal ticks) ticks
    (number_of-decimal ticks (omega (arith, in_time))) in_time
read_offset-spelled (negsuc ticks) in_time =
    ap (option_map (λ ticks. neg_ℤ (pos ticks)))
    (read_ticks-number (decimal (suc ticks)) (suc ticks)
    (number_of-decimal (suc ticks) (omega (arith, in_time))) in_time)

-- so are the words of a span
pub read_span-spelled : (span : Span) → IsSaidSpan span
    → read_span (signed_decimal span.lo) (signed_decimal span.hi) ≡ Some span
read_span-spelled span said =
    rw (read_offset-spelled span.lo said.lo, read_offset-spelled span.hi said.hi) refl

-- and the word of a type
pub read_type-spelled : (of : Ty) → read_type (type_word of) ≡ Some of
read_type-spelled ty.Int = refl
read_type-spelled ty.Text = refl

-- the text of a value is that value, for a column of its type
pub value_of-spelled : (of : Ty) (value : Cell) → IsCellOf of value
    → value_of (Some of) (text_of value) ≡ Some value
value_of-spelled of value is =
    rw (← is.typed, exact_texts value is.is_cell) refl
