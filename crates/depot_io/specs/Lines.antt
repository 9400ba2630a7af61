-- Lines and bodies: what a reader answers for the bytes that its source has left, and how many it
-- takes.
use Rattle.std.specs.Prelude.{◌≡◌, ℕ, ◌+◌, ◌-◌, ◌≤◌, ◌<◌, ◌==◌, min, ⊤}
use Rattle.std.specs.Prelude.{List, [], ◌∷◌, ◌++◌, length, drop, take, Result, Ok, Err, None, Some}
use Rattle.std.specs.declared.option.Option.{Option}
use Rattle.std.specs.Io.BufRead.{first_line}
use Rattle.std.specs.Io.KnownBytes.{Consumes, IsAtEnd}
use Rattle.std.specs.List.{position_or_len}
use Rattle.depot_io.specs.Causes.{Rose}
use Rattle.depot_io.specs.declared.line_reader.Line.{Line}
use Rattle.depot_io.specs.declared.line_reader.Line.TheVariants.{Text, End}
use Rattle.depot_io.specs.declared.line_reader.LineFault.{LineFault}
use Rattle.depot_io.specs.declared.line_reader.LineFault.TheVariants.{ReadFault, LongLine}
use Rattle.depot_io.specs.declared.line_reader.LineFault.TheVariants.{Long, Cut, Memory}
use Rattle.depot_io.specs.declared.line_reader.Stop.{Stop}
use Rattle.depot_io.specs.declared.line_reader.Stop.TheVariants.{Newline, Dry, Full}
use Rattle.depot_io.specs.declared.source.Failed.{Failed}

-- how many bytes a reader takes at most
abbrev pub LIMIT : ℕ
LIMIT = 1099511627776

-- how many bytes stand before the first LF, or before the end if there is none
abbrev pub span : List ℕ → ℕ
span bytes = position_or_len (λ byte. byte == 10) bytes

-- how many bytes a line takes: its own and its LF, and no more than tell that it is too long
abbrev pub line_take : List ℕ → ℕ
line_take bytes = min (min 4097 (span bytes + 1)) (length bytes)

-- the answer for a next line, if `before` bytes were taken and these are left
abbrev pub IsLineAnswer : List ℕ → ℕ → List ℕ → Result Line LineFault → Type 0
IsLineAnswer bytes before line (Ok (Text len)) =
    (before + line_take bytes < LIMIT) × (0 < length bytes) × (span bytes ≤ 4096)
    × (line ≡ first_line bytes)
IsLineAnswer bytes before line (Ok End) = (before < LIMIT) × (bytes ≡ [])
IsLineAnswer bytes before line (Err ReadFault) = ⊤
IsLineAnswer bytes before line (Err LongLine) =
    (before + line_take bytes < LIMIT) × (4096 < span bytes)
IsLineAnswer bytes before line (Err Long) = LIMIT ≤ before + line_take bytes
IsLineAnswer bytes before line (Err Cut) = ⊥
IsLineAnswer bytes before line (Err Memory) = ⊥

-- how many bytes were taken in all after a next line; a fault comes before its LF is taken, and
-- before it is too long
abbrev pub TakesLine : List ℕ → ℕ → ℕ → Result Line LineFault → Type 0
TakesLine bytes before after (Err ReadFault) = after ≤ before + min 4096 (span bytes)
TakesLine bytes before after _ = after ≡ min LIMIT (before + line_take bytes)

-- a next line is answered and taken as the bytes that are left say
pub record ReadsLine (bytes : List ℕ) (before after : ℕ) (line : List ℕ)
    (result : Result Line LineFault) : Type 0 where
  pub answer : IsLineAnswer bytes before line result
  pub taken : TakesLine bytes before after result

-- what the answer for a next line says of any source: how long the line is that is shown, whether
-- bytes were taken, and whether the source is at its end or the reader at its limit
abbrev pub IsLineOutcome : Option (List ℕ) → (before after : ℕ) → List ℕ
    → Result Line LineFault → Type 0
IsLineOutcome left before after line (Ok (Text len)) =
    (len ≡ length line) × (before < after) × (after < LIMIT)
IsLineOutcome left before after line (Ok End) =
    (line ≡ []) × (after ≡ before) × (after < LIMIT) × IsAtEnd left
IsLineOutcome left before after line (Err ReadFault) = after < LIMIT
IsLineOutcome left before after line (Err LongLine) = after < LIMIT
IsLineOutcome left before after line (Err Long) = after ≡ LIMIT
IsLineOutcome left before after line (Err Cut) = ⊥
IsLineOutcome left before after line (Err Memory) = ⊥

-- the answer for a body of `count` bytes, if `before` bytes were taken and these are left
abbrev pub IsBodyAnswer : {T : Type 0} → List ℕ → ℕ → ℕ → Result T LineFault → Type 0
IsBodyAnswer bytes before count (Ok _) = (before + count < LIMIT) × (count ≤ length bytes)
IsBodyAnswer bytes before count (Err ReadFault) = ⊤
IsBodyAnswer bytes before count (Err LongLine) = ⊥
IsBodyAnswer bytes before count (Err Long) = LIMIT ≤ before + min count (length bytes)
IsBodyAnswer bytes before count (Err Cut) =
    (before + length bytes < LIMIT) × (length bytes < count)
IsBodyAnswer bytes before count (Err Memory) = ⊤

-- how many bytes were taken in all after a body of `count` bytes; a fault comes before its last
-- byte, and want of memory before its first
abbrev pub TakesBody : {T : Type 0} → List ℕ → (before after count : ℕ)
    → Result T LineFault → Type 0
TakesBody bytes before after count (Err ReadFault) = after < before + count
TakesBody bytes before after count (Err Memory) = after ≡ before
TakesBody bytes before after count _ = after ≡ min LIMIT (before + min count (length bytes))

-- the vector holds what was taken of a body, except if there was no memory
abbrev pub HoldsTaken : {T : Type 0} → List ℕ → ℕ → List ℕ → Result T LineFault → Type 0
HoldsTaken bytes taken into (Err Memory) = ⊤
HoldsTaken bytes taken into _ = into ≡ take taken bytes

-- a body is answered, taken and held as the bytes that are left say
pub record ReadsBody {T : Type 0} (bytes : List ℕ) (before after count : ℕ) (into : List ℕ)
    (result : Result T LineFault) : Type 0 where
  pub answer : IsBodyAnswer bytes before count result
  pub taken : TakesBody bytes before after count result
  pub held : HoldsTaken bytes (after - before) into result

-- what the answer for a body of `count` bytes says of any source: how many bytes were taken and
-- are held, and whether the source is at its end or the reader at its limit
abbrev pub IsBodyOutcome : {T : Type 0} → Option (List ℕ) → (before after count : ℕ) → List ℕ
    → Result T LineFault → Type 0
IsBodyOutcome left before after count into (Ok _) =
    (after ≡ before + count) × (length into ≡ count) × (after < LIMIT)
IsBodyOutcome left before after count into (Err ReadFault) =
    (after < before + count) × (length into ≡ after - before) × (after < LIMIT)
IsBodyOutcome left before after count into (Err LongLine) = ⊥
IsBodyOutcome left before after count into (Err Long) =
    (length into ≡ after - before) × (after ≡ LIMIT)
IsBodyOutcome left before after count into (Err Cut) =
    (after < before + count) × (length into ≡ after - before) × (after < LIMIT) × IsAtEnd left
IsBodyOutcome left before after count into (Err Memory) = (after ≡ before) × (after < LIMIT)

-- known bytes lose this many at their front
abbrev pub Takes : Option (List ℕ) → Option (List ℕ) → ℕ → Type 0
Takes None new count = ⊤
Takes (Some bytes) None count = ⊥
Takes (Some bytes) (Some rest) count = (count ≤ length bytes) × (rest ≡ drop count bytes)

-- the count of the source's faults rose if the source is blamed, and otherwise stayed
abbrev pub IsReadCause : {T : Type 0} → ℕ → ℕ → Result T LineFault → Type 0
IsReadCause before now (Err ReadFault) = Rose before now
IsReadCause before now _ = now ≡ before

-- the source is blamed exactly if its count of faults rose
pub record HasReadCause {T : Type 0} (before now : ℕ) (result : Result T LineFault) : Type 0 where
  pub later : before ≤ now
  pub cause : IsReadCause before now result

-- what a walk along a line took after the bytes that it kept
abbrev pub stop_bytes : Result Stop Failed → List ℕ
stop_bytes (Ok Newline) = 10 ∷ []
stop_bytes _ = []

-- why a walk that kept `len` bytes, of at most `most`, is over
abbrev pub IsStop : ℕ → ℕ → Option (List ℕ) → Result Stop Failed → Type 0
IsStop len most left (Ok Newline) = len < most
IsStop len most left (Ok Dry) = (len < most) × IsAtEnd left
IsStop len most left (Ok Full) = len ≡ most
IsStop len most left (Err _) = len < most

-- a walk along a line took what it kept, with no LF in it, and the LF that it met
pub record WalksLine (old new : Option (List ℕ)) (before after most : ℕ) (line : List ℕ)
    (result : Result Stop Failed) : Type 0 where
  pub took : Consumes old new (line ++ stop_bytes result)
  pub counted : after ≡ before + length (line ++ stop_bytes result)
  pub unbroken : span line ≡ length line
  pub stop : IsStop (length line) most new result

-- why a piece of `room` bytes has so many: it is full, or the source is at its end, or it failed
abbrev pub IsFilled : {T : Type 0} → (room filled : ℕ) → Option (List ℕ) → Result T Failed
    → Type 0
IsFilled room filled left (Ok _) = (filled ≤ room) × (filled < room → IsAtEnd left)
IsFilled room filled left (Err _) = filled < room

-- bytes were taken to the front of a piece
pub record FillsPiece {T : Type 0} (old new : Option (List ℕ)) (before after : ℕ)
    (piece : List ℕ) (filled : ℕ) (result : Result T Failed) : Type 0 where
  pub took : Consumes old new (take filled piece)
  pub counted : after ≡ before + filled
  pub stop : IsFilled (length piece) filled new result
