-- The lines of a text that was written line by line: `lines_of-texts`.
use Rattle.std.proofs.Common.{◌≡◌, ◌<◌, ◌==◌, ◌+◌, ◌-◌, ◌∙◌, ℕ, List, [], ◌∷◌, ◌++◌}
use Rattle.std.proofs.Common.{Bool, true, false, zero, suc, flat_map, length, map, refl, ap, take}
use Rattle.std.proofs.Common.{append_assoc, arith}
use Rattle.std.proofs.Common.{length-append, get_or-append-add, lt-ltb}
use Rattle.std.specs.Prelude.{if◌then◌else◌}
use Rattle.std.specs.List.{AllByRecursion, slice_split}
use Rattle.std.specs.Io.BufRead.{ends_with_byte, strip_last}
use Rattle.std.proofs.lemmas.List.Elements.{All-from_recursion}
use Rattle.std.proofs.lemmas.List.Splits.{length-slice_split, slice_split_at}
use Rattle.desc_lines.specs.Written.{WrittenLineOf}
use Rattle.desc_lines.specs.Words.{IsWord, Lacks, spaced}
use Rattle.desc_lines.specs.LineTexts.{line_text, line_words}
use Rattle.desc_lines.specs.Texts.{AreLineWords, ended, ends_in_cr, lines_of}
use Rattle.desc_lines.proofs.WordLemmas.{each-always, slice_split-each, spaced-each}

-- two lists end as the second one does, if it has an item
ends_with_byte-append : (byte : ℕ) (front back : List ℕ) → 0 < length back
    → ends_with_byte byte (front ++ back) ≡ ends_with_byte byte back
ends_with_byte-append byte front back some =
    let all = length-append front back in
    let last : length (front ++ back) - 1 ≡ length front + (length back - 1) =
    omega (arith, all) in
    rw (
      lt-ltb 0 (length (front ++ back)) (omega (arith, all)),
      lt-ltb 0 (length back) some,
      last,
      get_or-append-add front back (length back - 1) 0,
    ) refl

-- a line of words has a byte
spaced-some : (word : List ℕ) (others : List (List ℕ)) → 0 < length word
    → 0 < length (spaced (word ∷ others))
spaced-some word [] some = some
spaced-some word (next ∷ others) some =
    omega (arith, length-append word (32 ∷ spaced (next ∷ others)))

-- a line ends in CR if its last word does
ends_with_byte-spaced : (each : List (List ℕ)) → AllByRecursion IsWord each
    → ends_with_byte 13 (spaced each) ≡ ends_in_cr each
ends_with_byte-spaced [] are = refl
ends_with_byte-spaced (word ∷ []) are = refl
ends_with_byte-spaced (word ∷ next ∷ others) are =
    ends_with_byte-append 13 word (32 ∷ spaced (next ∷ others)) (omega arith)
    ∙ ends_with_byte-append 13 (32 ∷ []) (spaced (next ∷ others))
    (spaced-some next others are.1.0.some)
    ∙ ends_with_byte-spaced (next ∷ others) are.1

-- a piece before others ends at an LF
ended-step : (piece : List ℕ) (pieces : List (List ℕ)) → 0 < length pieces
    → ended (piece ∷ pieces) ≡ strip_last 13 piece ∷ ended pieces
ended-step piece [] some = absurd (omega (arith, some))
ended-step piece (next ∷ others) some = refl

-- a line before a text is its first line
lines_of-step : (each : List (List ℕ)) (rest : List ℕ) → AreLineWords each
    → lines_of (spaced each ++ 10 ∷ rest) ≡ spaced each ∷ lines_of rest
lines_of-step each rest are =
    let lacks : Lacks 10 (spaced each) = spaced-each _ each refl are.whole in
    let whole = ends_with_byte-spaced each are.each ∙ are.ended in
    rw (
      slice_split_at (λ byte. byte == 10) (spaced each) 10 rest (All-from_recursion _ _ lacks) refl,
      ended-step (spaced each) (slice_split (λ byte. byte == 10) rest)
          (omega (arith, length-slice_split (λ byte. byte == 10) rest)),
      whole,
    ) refl

-- the lines of a text that was written line by line are these lines, and an empty one
pub lines_of-texts : (lines : List WrittenLineOf)
    → AllByRecursion (λ line. AreLineWords (line_words line)) lines
    → lines_of (flat_map line_text lines)
    ≡ map (λ line. spaced (line_words line)) lines ++ [] ∷ []
lines_of-texts [] are = refl
lines_of-texts (first ∷ others) are =
    ap lines_of (append_assoc (spaced (line_words first)) (10 ∷ []) (flat_map line_text others))
    ∙ lines_of-step (line_words first) (flat_map line_text others) are.0
    ∙ ap (λ others. spaced (line_words first) ∷ others) (lines_of-texts others are.1)

-- what is so of each byte is so of each of the first ones
take-each : {X : Type 0} (P : X → Type 0) (many : ℕ) (items : List X) → AllByRecursion P items
    → AllByRecursion P (take many items)
take-each P zero items each = tt
take-each P (suc many) [] each = tt
take-each P (suc many) (first ∷ others) each = (each.0, take-each P many others each.1)

-- and of all but a CR at the end
strip_last-each : (P : ℕ → Type 0) (byte : ℕ) (line : List ℕ) → AllByRecursion P line
    → AllByRecursion P (strip_last byte line)
strip_last-each P byte line each = by_test (ends_with_byte byte line)
  where
    by_test : (ends : Bool)
        → AllByRecursion P (if ends then take (length line - 1) line else line)
    by_test true = take-each P (length line - 1) line each
    by_test false = each

-- what is so of each byte of pieces is so of each byte of the lines
ended-each : (P : ℕ → Type 0) (pieces : List (List ℕ)) → AllByRecursion (AllByRecursion P) pieces
    → AllByRecursion (AllByRecursion P) (ended pieces)
ended-each P [] each = tt
ended-each P (last ∷ []) each = each
ended-each P (piece ∷ next ∷ others) each =
    (strip_last-each P 13 piece each.0, ended-each P (next ∷ others) each.1)

-- what is so of each byte of a text but LF is so of each byte of its lines
pub lines_of-each : (P : ℕ → Type 0) (text : List ℕ)
    → AllByRecursion (λ byte. (byte == 10) ≡ false → P byte) text
    → AllByRecursion (AllByRecursion P) (lines_of text)
lines_of-each P text each = ended-each P (slice_split (λ byte. byte == 10) text)
    (slice_split-each P (λ byte. byte == 10) text each)

-- no line of a text has an LF
pub lines_of-lack_lf : (text : List ℕ) → AllByRecursion (Lacks 10) (lines_of text)
lines_of-lack_lf text = lines_of-each (λ byte. (byte == 10) ≡ false) text
    (each-always _ text (λ byte lacks. lacks))
