-- The lines of a text, read from its front.
use Rattle.std.proofs.Common.{◌≡◌, ◌∙◌, ℕ, ◌<◌, ◌≤◌, ◌+◌, ◌==◌, List, [], ◌∷◌, Some, None}
use Rattle.std.proofs.Common.{Bool, true, false, Result, Ok, Err, length, take, drop, refl, ap}
use Rattle.std.proofs.Common.{arith}
use Rattle.std.specs.Prelude.{position, nat_lt, if◌then◌else◌}
use Rattle.std.specs.List.{position_or_len, slice_split, before_first, after_first}
use Rattle.std.specs.Io.BufRead.{strip_last}
use Rattle.std.specs.Result.{IsErrAnd}
use Rattle.std.proofs.lemmas.Bool.{ltb-true, ltb-false}
use Rattle.std.proofs.lemmas.List.Splits.{length-slice_split, slice_split_first, slice_split_none}
use Rattle.std.proofs.lemmas.List.Sums.{fails_before_first}
use Rattle.std.proofs.lemmas.Option.{cond_some}
use Rattle.desc_lines.specs.Texts.{ended, lines_of}
use Rattle.desc_causes.specs.declared.cause.DescCause.{DescCause}
use Rattle.table_desc.specs.declared.fault.DescFault.{DescFault}
use Rattle.table_desc.specs.declared.fault.DescFault.TheVariants.{At, Memory}
use Rattle.desc_types.specs.Descriptions.{DescOf}
use Rattle.table_desc.specs.Described.{Reads, then_lines, with_line, with_lines}

-- a piece before others
ended-step : (piece : List ℕ) (pieces : List (List ℕ)) → 0 < length pieces
    → ended (piece ∷ pieces) ≡ strip_last 13 piece ∷ ended pieces
ended-step piece [] some = absurd (omega (arith, some))
ended-step piece (next ∷ others) some = refl

-- a text with an LF is a line, and after it the lines of the rest
pub lines_of-step : (text : List ℕ) (end : ℕ) → position (λ byte. byte == 10) text ≡ Some end
    → lines_of text ≡ strip_last 13 (take end text) ∷ lines_of (drop (end + 1) text)
lines_of-step text end found =
    let place = position_or_len (λ byte. byte == 10) text in
    let parts = cond_some (nat_lt place (length text)) place end found in
    let within = ltb-true place (length text) parts.0 in
    ap ended (slice_split_first (λ byte. byte == 10) text 0 within)
    ∙ ended-step (before_first (λ byte. byte == 10) text)
    (slice_split (λ byte. byte == 10) (after_first (λ byte. byte == 10) text))
    (omega (
      arith,
      length-slice_split (λ byte. byte == 10)
          (after_first (λ byte. byte == 10) text),
    ))
    ∙ ap (λ place. strip_last 13 (take place text) ∷ lines_of (drop (place + 1) text)) parts.1

-- a text without LF is one line
pub lines_of-none : (text : List ℕ) → position (λ byte. byte == 10) text ≡ None
    → lines_of text ≡ text ∷ []
lines_of-none text none =
    ap ended (slice_split_none (λ byte. byte == 10) text (λ place default within.
    fails_before_first (λ byte. byte == 10) text place default (omega (
      arith,
      within,
      past (nat_lt (position_or_len (λ byte. byte == 10) text) (length text)) refl none,
    ))))
  where
    past : (found : Bool)
        → nat_lt (position_or_len (λ byte. byte == 10) text) (length text) ≡ found
        → (if found then Some (position_or_len (λ byte. byte == 10) text) else None) ≡ None
        → length text ≤ position_or_len (λ byte. byte == 10) text
    past true is none = absurd cc
    past false is none =
        ltb-false (position_or_len (λ byte. byte == 10) text) (length text) is

-- what reads a line reads the lines that begin with it, if the line is bad
pub Reads-bad : (fault : DescFault) (number : ℕ) (desc : DescOf) (line : List ℕ)
    (others : List (List ℕ)) → Reads (Err fault) (with_lines number desc (line ∷ []))
    → Reads (Err fault) (with_lines number desc (line ∷ others))
Reads-bad Memory number desc line others read = tt
Reads-bad (At bad) number desc line others read = by_line (with_line desc line) read
  where
    by_line : (found : Result DescOf DescCause)
        → then_lines number found (λ desc. Ok desc) ≡ Err bad
        → then_lines number found (λ desc. with_lines (number + 1) desc others)
        ≡ Err bad
    by_line (Ok desc) read = absurd cc
    by_line (Err cause) read = read

-- a line that is not bad goes before the others
pub with_lines-step : (number : ℕ) (desc new : DescOf) (line : List ℕ) (others : List (List ℕ))
    → with_lines number desc (line ∷ []) ≡ Ok new
    → with_lines number desc (line ∷ others) ≡ with_lines (number + 1) new others
with_lines-step number desc new line others read = by_line (with_line desc line) read
  where
    by_line : (found : Result DescOf DescCause)
        → then_lines number found (λ desc. Ok desc) ≡ Ok new
        → then_lines number found (λ desc. with_lines (number + 1) desc others)
        ≡ with_lines (number + 1) new others
    by_line (Ok next) read =
        ap (λ desc. with_lines (number + 1) desc others) (let same : next ≡ new = cc in same)
    by_line (Err cause) read = absurd cc

-- a refusal that is handed on
pub Err-passed : {T E : Type 0} (result : Result T E) (fault : E)
    → IsErrAnd result (λ passed. passed ≡ fault) → result ≡ Err fault
Err-passed (Ok value) fault is_passed = absurd is_passed
Err-passed (Err passed) fault is_passed = cc
