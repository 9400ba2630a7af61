-- The reading of lines and their writing are one language.
use Rattle.std.specs.Prelude.{ℕ, ◌≡◌, List, [], ◌∷◌, ◌++◌, Some, map, flat_map}
use Rattle.std.specs.List.{AllByRecursion}
use Rattle.desc_lines.specs.Words.{IsWord, Lacks, spaced, words}
use Rattle.desc_lines.specs.Written.{WrittenLineOf}
use Rattle.desc_lines.specs.Lines.{line_of}
use Rattle.desc_lines.specs.LineTexts.{line_text, line_words}
use Rattle.desc_lines.specs.Whole.{IsWhole}
use Rattle.desc_lines.specs.Texts.{AreLineWords, lines_of}

-- the words of a line say it, if it is whole
abbrev pub SaysWhatIsWritten : Type 0
SaysWhatIsWritten = (line : WrittenLineOf) → IsWhole line → line_of (line_words line) ≡ Some line

-- a line that is written in these words
pub record IsWritten (line : WrittenLineOf) (words : List (List ℕ)) : Type 0 where
  pub same : line_words line ≡ words
  pub whole : IsWhole line

-- words that say a line are the words of that line
abbrev pub WritesWhatIsSaid : Type 0
WritesWhatIsSaid = (words : List (List ℕ)) (line : WrittenLineOf) → line_of words ≡ Some line
    → IsWritten line words

-- words with single spaces between them are these words again
abbrev pub CutsWhatIsSpaced : Type 0
CutsWhatIsSpaced = (each : List (List ℕ)) → AllByRecursion IsWord each → words (spaced each) ≡ each

-- the words of any line are words
abbrev pub CutsIntoWords : Type 0
CutsIntoWords = (line : List ℕ) → AllByRecursion IsWord (words line)

-- the lines of a text are those that were written to it, and an empty one after the last LF
abbrev pub HasWrittenLines : Type 0
HasWrittenLines = (lines : List WrittenLineOf)
    → AllByRecursion (λ line. AreLineWords (line_words line)) lines
    → lines_of (flat_map line_text lines) ≡ map (λ line. spaced (line_words line)) lines ++ [] ∷ []

-- no line of a text has an LF
abbrev pub CutsIntoLines : Type 0
CutsIntoLines = (text : List ℕ) → AllByRecursion (Lacks 10) (lines_of text)
