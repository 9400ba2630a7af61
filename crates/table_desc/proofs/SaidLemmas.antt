-- What the words of a line of a text say: `IsSaidLine-read`.
use Rattle.std.proofs.Common.{◌≡◌, ◌==◌, ◌++◌, ℕ, List, [], ◌∷◌, Option, Some, None, true, false, sym}
use Rattle.std.proofs.Common.{refl, subst}
use Rattle.std.specs.Prelude.{is_none, is_some, position}
use Rattle.std.specs.List.{AllByRecursion}
use Rattle.std.specs.Str.{is_utf8}
use Rattle.std.proofs.lemmas.List.Elements.{recursion_from_All}
use Rattle.desc_lines.specs.Lines.{line_of}
use Rattle.desc_lines.specs.LineTexts.{conds_words, line_words, table_words}
use Rattle.desc_lines.specs.Whole.{IsWhole}
use Rattle.desc_lines.specs.Words.{IsWord, Lacks, words}
use Rattle.desc_lines.specs.Written.{WrittenCondOf, WrittenKindOf, WrittenLineOf}
use Rattle.desc_lines.specs.Written.{Raw, Filter, Group, Join, FeedLine, TableLine}
use Rattle.desc_lines.proofs.LineLemmas.{line_of-some}
use Rattle.desc_lines.proofs.WordLemmas.{words-are_words, words-each}
use Rattle.desc_types.specs.Accepted.{IsLineWord}
use Rattle.desc_types.proofs.BoolLemmas.{and-both}
use Rattle.desc_types.proofs.ListLemmas.{list_any-none}
use Rattle.table_desc.specs.SaidLines.{HasSaidLiterals, IsSaidLine}
use Rattle.table_desc.specs.Described.{is_line_text}
use Rattle.table_desc.proofs.LookupLemmas.{position-none}

-- what is none is not some
is_some-none : {X : Type 0} (found : Option X) → is_none found ≡ true → is_some found ≡ false
is_some-none None none = refl
is_some-none (Some x) none = absurd cc

-- a line in which a sign has no place lacks it
Lacks-none : (sign : ℕ) (line : List ℕ) → is_none (position (λ byte. byte == sign) line) ≡ true
    → Lacks sign line
Lacks-none sign line none = recursion_from_All (λ byte. (byte == sign) ≡ false) line
    (list_any-none (λ byte. byte == sign) line (position-none (λ byte. byte == sign) line
    (is_some-none (position (λ byte. byte == sign) line) none)))

-- words that lack an LF are words of a line
IsLineWord-each : (each : List (List ℕ)) → AllByRecursion IsWord each
    → AllByRecursion (Lacks 10) each → AllByRecursion IsLineWord each
IsLineWord-each [] are lack = tt
IsLineWord-each (word ∷ others) are lack =
    (record { word = are.0; whole = lack.0 }, IsLineWord-each others are.1 lack.1)

-- the words of a line that has the text of one
line_text-words : (line : List ℕ) → is_line_text line ≡ true
    → AllByRecursion IsLineWord (words line)
line_text-words line text =
    let none = and-both (is_utf8 line) (is_none (position (λ byte. byte == 10) line)) text in
    IsLineWord-each (words line) (words-are_words line)
    (words-each (λ byte. (byte == 10) ≡ false) line (Lacks-none 10 line none.1))

-- what is so of each word of conditions is so of their literals
literals-each : (P : List ℕ → Type 0) (conds : List WrittenCondOf) (rest : List (List ℕ))
    → AllByRecursion P (conds_words conds ++ rest)
    → AllByRecursion (λ (cond : WrittenCondOf). P cond.literal) conds
literals-each P [] rest each = tt
literals-each P (cond ∷ []) rest each = (each.1.1.0, tt)
literals-each P (cond ∷ next ∷ others) rest each =
    (each.1.1.0, literals-each P (next ∷ others) rest each.1.1.1.1)

-- the literals of a table's line are among its words
HasSaidLiterals-words : (name width : List ℕ) (kind : WrittenKindOf)
    → AllByRecursion IsLineWord (table_words name width kind) → HasSaidLiterals kind
HasSaidLiterals-words name width (Raw feed time columns) each = tt
HasSaidLiterals-words name width (Filter source conds keep) each =
    literals-each IsLineWord conds _ each.1.1.1.1.1.1.1.1.1
HasSaidLiterals-words name width (Group source keys aggs) each = tt
HasSaidLiterals-words name width (Join left right on) each = tt

-- a line that is whole and of words of a line
IsSaidLine-words : (line : WrittenLineOf) → IsWhole line
    → AllByRecursion IsLineWord (line_words line) → IsSaidLine line
IsSaidLine-words (FeedLine name header) whole each = tt
IsSaidLine-words (TableLine table) whole each = record {
  whole = whole;
  literals = HasSaidLiterals-words table.name table.width table.kind each;
}

-- what the words of a line of a text say
pub IsSaidLine-read : (line : List ℕ) (written : WrittenLineOf) → is_line_text line ≡ true
    → line_of (words line) ≡ Some written → IsSaidLine written
IsSaidLine-read line written text is =
    let said = line_of-some (words line) written is in
    IsSaidLine-words written said.whole
    (subst (AllByRecursion IsLineWord) (sym said.same) (line_text-words line text))
