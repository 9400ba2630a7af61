-- The lines of a description one by one, for a reader that never holds the text.
use Rattle.std.specs.Prelude.{ℕ, ◌+◌, ◌≡◌, List, [], ◌∷◌, Result, Ok, Err, fold}
use Rattle.desc_lines.specs.Texts.{lines_of}
use Rattle.table_desc.specs.declared.fault.BadLine.{BadLine}
use Rattle.desc_types.specs.Descriptions.{DescOf}
use Rattle.table_desc.specs.Described.{described, no_desc, with_lines}

-- lines: how many there are, and what they declare, or the first bad one
pub record DraftOf : Type 0 where
  pub lines : ℕ
  pub read : Result DescOf BadLine

-- no line
abbrev pub no_lines : DraftOf
no_lines = record { lines = 0; read = Ok no_desc }

-- what lines declare, with the line of this number: after a bad line no line is looked at
abbrev pub with_next : Result DescOf BadLine → (number : ℕ) → List ℕ → Result DescOf BadLine
with_next (Ok desc) number line = with_lines number desc (line ∷ [])
with_next (Err bad) number line = Err bad

-- the lines with one more
abbrev pub with_more : DraftOf → List ℕ → DraftOf
with_more draft line = record {
  lines = draft.lines + 1;
  read = with_next draft.read (draft.lines + 1) line;
}

-- lines, read one after the other
abbrev pub drafted : List (List ℕ) → DraftOf
drafted lines = fold with_more no_lines lines

-- the lines of a text, one by one, declare what the text does
abbrev pub DraftsTexts : Type 0
DraftsTexts = (text : List ℕ) → (drafted (lines_of text)).read ≡ described text
