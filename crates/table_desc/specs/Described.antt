-- What the lines of a text declare, or its first bad line and why it is bad.
use Rattle.std.specs.Prelude.{ℕ, ◌+◌, ◌≡◌, List, [], ◌∷◌, Option, Some, None, Result, Ok, Err}
use Rattle.std.specs.Prelude.{Bool, ◌&&◌, ◌==◌, if◌then◌else◌, is_none, position}
use Rattle.std.specs.Str.{is_utf8}
use Rattle.desc_lines.specs.Lines.{line_of}
use Rattle.desc_lines.specs.Texts.{lines_of}
use Rattle.desc_lines.specs.Words.{words, is_skipped}
use Rattle.desc_lines.specs.Written.{WrittenLineOf}
use Rattle.table_desc.specs.declared.fault.BadLine.{BadLine}
use Rattle.desc_causes.specs.declared.cause.DescCause.{DescCause}
use Rattle.desc_causes.specs.declared.cause.DescCause.TheVariants as cause
use Rattle.table_desc.specs.declared.fault.DescFault.{DescFault}
use Rattle.table_desc.specs.declared.fault.DescFault.TheVariants.{At, Memory}
use Rattle.desc_types.specs.declared.accepted.AcceptedDesc.{AcceptedDesc}
use Rattle.desc_types.specs.Accepted.{IsAccepted}
use Rattle.desc_types.specs.Descriptions.{DescOf}
use Rattle.desc_causes.specs.Causes.{cause_of}
use Rattle.table_desc.specs.Declarations.{with_declared}

-- a description with what a line declares, if no cause speaks against it
abbrev pub unless_bad : DescOf → WrittenLineOf → Option DescCause → Result DescOf DescCause
unless_bad desc line None = Ok (with_declared desc line)
unless_bad desc line (Some cause) = Err cause

-- a description with what a line declares, if it has a shape
abbrev pub with_written : DescOf → Option WrittenLineOf → Result DescOf DescCause
with_written desc None = Err cause.BadLine
with_written desc (Some line) = unless_bad desc line (cause_of desc line)

-- whether bytes can be a line of a description: a text without an LF
abbrev pub is_line_text : List ℕ → Bool
is_line_text line = is_utf8 line && is_none (position (λ byte. byte == 10) line)

-- a description with what a line of a text declares: a line that is skipped may hold any bytes
abbrev pub with_line : DescOf → List ℕ → Result DescOf DescCause
with_line desc line =
    if is_skipped (words line) then Ok desc
    else if is_line_text line then with_written desc (line_of (words line))
    else Err cause.BadLine

-- what the lines after one declare, if that one is not bad
abbrev pub then_lines : (number : ℕ) → Result DescOf DescCause
    → (DescOf → Result DescOf BadLine) → Result DescOf BadLine
then_lines number (Ok desc) lines = lines desc
then_lines number (Err cause) lines = Err (record { line = number; cause = cause })

-- a description with what lines declare, of which the first has this number
abbrev pub with_lines : (number : ℕ) → DescOf → List (List ℕ) → Result DescOf BadLine
with_lines number desc [] = Ok desc
with_lines number desc (line ∷ others) =
    then_lines number (with_line desc line) (λ desc. with_lines (number + 1) desc others)

-- a description that declares nothing
abbrev pub no_desc : DescOf
no_desc = record { feeds = []; tables = [] }

-- what a text declares, or its first bad line
abbrev pub described : List ℕ → Result DescOf BadLine
described bytes = with_lines 1 no_desc (lines_of bytes)

-- what was read, as the description in place of the one that was accepted
abbrev pub read_of : {E : Type 0} → Result AcceptedDesc E → Result DescOf E
read_of (Ok accepted) = Ok accepted.desc
read_of (Err bad) = Err bad

-- an answer is what a text declares or its first bad line, unless there was no memory
abbrev pub Reads : Result AcceptedDesc DescFault → Result DescOf BadLine → Type 0
Reads (Ok accepted) read = read ≡ Ok accepted.desc
Reads (Err (At bad)) read = read ≡ Err bad
Reads (Err Memory) read = Unit {0}

-- what a text declares is accepted
abbrev pub HasAccepted : Type 0
HasAccepted = (text : List ℕ) (desc : DescOf) → described text ≡ Ok desc → IsAccepted desc
