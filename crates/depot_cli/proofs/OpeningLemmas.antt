-- How far a description was read: what its lines so far declare, and that what is left goes on
-- to the opening of the whole input.
use Rattle.std.proofs.Common.{◌≡◌, ℕ, suc, zero, ◌+◌, ◌≤◌, List, [], ◌∷◌, ◌++◌, length, Bool, true}
use Rattle.std.proofs.Common.{false, refl, sym, ap, ◌∙◌, arith, append_assoc, append-nil, subst}
use Rattle.std.specs.Prelude.{IfSome, Option, Some, None, Ok, Err}
use Rattle.std.proofs.lemmas.List.Sums.{fold-append}
use Rattle.depot_io.specs.Lines.{line_take}
use Rattle.std.specs.Prelude.{if◌then◌else◌}
use Rattle.desc_lines.specs.Words.{is_go, words}
use Rattle.table_desc.specs.Drafts.{DraftOf, drafted, no_lines, with_more}
use Rattle.depot_cli.specs.declared.script.ScriptFault.{ScriptFault}
use Rattle.depot_cli.specs.declared.script.ScriptFault.TheVariants.{Input, ReadFault, Memory}
use Rattle.depot_cli.specs.Reading.{NextLine, NoLine, Unreadable, Line, line_due, next_line}
use Rattle.depot_cli.specs.Reading.{Opening, OpeningEnd, Go, Broken, opening, opening_at}
use Rattle.depot_cli.specs.Reading.{opening_from, after_line}
use Rattle.depot_cli.specs.ScriptCalls.{IsBeforeGo, IsLeftOf, IsNextLine, IsOpening}
use Rattle.depot_cli.proofs.KnownLemmas.{IfSome-known}
use Rattle.depot_cli.proofs.LineLemmas.{IsLeftOf-le, known_line, next_line-shorter}

-- an opening with these lines in front
abbrev pub after_lines : List (List ℕ) → Opening → Opening
after_lines lines opening = record opening { lines = lines ++ opening.lines }

-- lines were read and declare this; what is left goes on to the whole opening
pub record HasOpened (whole : Opening) (before : DraftOf) (taken : ℕ)
    (left : Option (List ℕ)) : Type 0 where
  pub rest : List ℕ
  pub lines : List (List ℕ)
  pub turns : ℕ
  pub is_left : left ≡ Some rest
  pub enough : length rest ≤ turns
  pub declares : before ≡ drafted lines
  pub goes_on : after_lines lines (opening_from (suc turns) taken rest) ≡ whole

-- nothing was read
pub HasOpened-empty : (bytes : List ℕ) → HasOpened (opening bytes) no_lines 0 (Some bytes)
HasOpened-empty bytes = record {
  rest = bytes;
  lines = [];
  turns = length bytes;
  is_left = refl;
  enough = omega arith;
  declares = refl;
  goes_on = refl;
}

-- one line more at the end of those read
after_lines-push : (lines : List (List ℕ)) (line : List ℕ) (opening : Opening)
    → after_lines lines (after_line line opening) ≡ after_lines (lines ++ line ∷ []) opening
after_lines-push lines line opening =
    ap (λ (all : List (List ℕ)). record opening { lines = all })
    (sym (append_assoc lines (line ∷ []) opening.lines))

-- what an opening is from here on, at its next line
opening_next : (whole : Opening) (lines : List (List ℕ)) (turns taken : ℕ) (rest : List ℕ)
    (next : NextLine)
    → next_line taken rest ≡ next
    → after_lines lines (opening_from (suc turns) taken rest) ≡ whole
    → after_lines lines (opening_at (opening_from turns (taken + line_take rest)) taken rest next)
    ≡ whole
opening_next whole lines turns taken rest next is_next goes_on =
    ap (λ (next : NextLine). after_lines lines
    (opening_at (opening_from turns (taken + line_take rest)) taken rest next)) (sym is_next)
    ∙ goes_on

-- the opening after a line that does not end it
opening_at-line : (more : List ℕ → Opening) (taken : ℕ) (bytes line rest : List ℕ)
    → is_go (words line) ≡ false
    → opening_at more taken bytes (Line line rest) ≡ after_line line (more rest)
opening_at-line more taken bytes line rest goes = rw goes refl

-- what is left after a line that does not end the opening goes on to the whole
goes_on-line : (whole : Opening) (lines : List (List ℕ)) (turns taken taken_now : ℕ)
    (before line rest : List ℕ)
    → taken_now ≡ taken + line_take before → next_line taken before ≡ Line line rest
    → is_go (words line) ≡ false
    → after_lines lines (opening_from (suc (suc turns)) taken before) ≡ whole
    → after_lines (lines ++ line ∷ []) (opening_from (suc turns) taken_now rest) ≡ whole
goes_on-line whole lines turns taken taken_now before line rest count next goes goes_on =
    let more = opening_from (suc turns) (taken + line_take before) in
    ap (λ (taken : ℕ). after_lines (lines ++ line ∷ []) (opening_from (suc turns) taken rest)) count
    ∙ sym (after_lines-push lines line (more rest))
    ∙ ap (λ (opening : Opening). after_lines lines opening)
    (sym (opening_at-line more taken before line rest goes))
    ∙ opening_next whole lines (suc turns) taken before (Line line rest) next goes_on

-- the lines read declare one line more
declares-line : (lines : List (List ℕ)) (before : DraftOf) (line : List ℕ)
    → before ≡ drafted lines → with_more before line ≡ drafted (lines ++ line ∷ [])
declares-line lines before line declares =
    ap (λ (before : DraftOf). with_more before line) declares
    ∙ sym (fold-append with_more no_lines lines (line ∷ []))

-- a line that does not end the description is added to it
pub HasOpened-line : (whole : Opening) (before : DraftOf) (taken taken_now place : ℕ)
    (line : List ℕ) (there : Bool) (left left_now : Option (List ℕ))
    → HasOpened whole before taken left
    → there ≡ true
    → IfSome left (λ bytes.
    IsNextLine (next_line taken bytes) (line_due bytes) place line left_now (Ok there))
    → IfSome left (λ bytes. taken_now ≡ taken + line_take bytes)
    → is_go (words line) ≡ false
    → HasOpened whole (with_more before line) taken_now left_now
HasOpened-line whole before taken taken_now place line there left left_now opened is_there answer
    counted goes =
    let answered = known_line taken place line left_now left opened.rest there
    opened.is_left is_there answer in
    let count = IfSome-known left opened.rest (λ bytes. taken_now ≡ taken + line_take bytes)
    opened.is_left counted in
    after opened.turns answered.0 count opened.enough answered.1 answered.2 opened.goes_on
  where
    after : (turns : ℕ) (rest : List ℕ) → taken_now ≡ taken + line_take opened.rest
        → length opened.rest ≤ turns
        → next_line taken opened.rest ≡ Line line rest → left_now ≡ Some rest
        → after_lines opened.lines (opening_from (suc turns) taken opened.rest) ≡ whole
        → HasOpened whole (with_more before line) taken_now left_now
    after zero rest count enough next is_left goes_on =
        absurd (omega (arith, (next_line-shorter taken opened.rest line rest next).0))
    after (suc turns) rest count enough next is_left goes_on = record {
      rest = rest;
      lines = opened.lines ++ line ∷ [];
      turns = turns;
      is_left = is_left;
      enough = omega (arith, (next_line-shorter taken opened.rest line rest next).0);
      declares = declares-line opened.lines before line opened.declares;
      goes_on = goes_on-line whole opened.lines turns taken taken_now opened.rest line rest count
          next goes goes_on;
    }

-- what stands after the `go` line is no more than is due of the first line
opening_at-left : (more : List ℕ → Opening) (taken taken_now : ℕ) (bytes rest : List ℕ)
    (next : NextLine)
    → ((behind : List ℕ) → (more behind).end ≡ Go taken_now rest → length rest ≤ line_due behind)
    → next_line taken bytes ≡ next
    → (opening_at more taken bytes next).end ≡ Go taken_now rest
    → length rest ≤ line_due bytes
opening_at-left more taken taken_now bytes rest NoLine later is_next goes = cc
opening_at-left more taken taken_now bytes rest (Unreadable cause left) later is_next goes = cc
opening_at-left more taken taken_now bytes rest (Line line behind) later is_next goes =
    by_line (is_go (words line)) goes
  where
    by_line : (is_last : Bool)
        → (if is_last then record { lines = []; end = Go (taken + line_take bytes) behind }
        else after_line line (more behind)).end
        ≡ Go taken_now rest
        → length rest ≤ line_due bytes
    by_line true goes =
        let same : behind ≡ rest = cc in
        omega (arith, (next_line-shorter taken bytes line behind is_next).1, ap length same)
    by_line false goes =
        omega (arith, (next_line-shorter taken bytes line behind is_next).1, later behind goes)

-- what stands after the `go` line is no more than is due of the first line, in so many turns
opening_from-left : (turns taken taken_now : ℕ) (bytes rest : List ℕ)
    → (opening_from turns taken bytes).end ≡ Go taken_now rest
    → length rest ≤ line_due bytes
opening_from-left zero taken taken_now bytes rest goes = cc
opening_from-left (suc turns) taken taken_now bytes rest goes =
    opening_at-left (opening_from turns (taken + line_take bytes)) taken taken_now bytes rest
    (next_line taken bytes)
    (λ behind goes. opening_from-left turns (taken + line_take bytes) taken_now behind rest goes)
    refl goes

-- no byte after a `go` line was taken where so much is left at least as stands there
IsBeforeGo-le : (end : OpeningEnd) (left : Option (List ℕ)) (count : ℕ)
    → ((taken : ℕ) (rest : List ℕ) → end ≡ Go taken rest → length rest ≤ count)
    → IsLeftOf left count → IsBeforeGo end left
IsBeforeGo-le (Go taken rest) left count least is_left =
    IsLeftOf-le left count (length rest) (least taken rest refl) is_left
IsBeforeGo-le (Broken why place rest) left count least is_left = tt

-- a fault at a line is one of the opening
opening_fault : (whole : Opening) (turns taken taken_now place : ℕ) (rest line : List ℕ)
    (lines : List (List ℕ)) (left_now : Option (List ℕ)) (fault : ScriptFault)
    → after_lines lines (opening_from (suc turns) taken rest) ≡ whole
    → place ≡ taken
    → IsNextLine (next_line taken rest) (line_due rest) place line left_now (Err fault)
    → IsOpening whole taken_now left_now (Err fault)
opening_fault whole turns taken taken_now place rest line lines left_now (Input why at) goes_on
    is_place answer = (
      answer.0,
      ap (λ (opening : Opening). opening.end)
          (sym (opening_next whole lines turns taken rest (Unreadable why answer.0) answer.1
          goes_on))
          ∙ ap (λ (place : ℕ). Broken why place answer.0) (sym (answer.3 ∙ is_place)),
      answer.2,
    )
opening_fault whole turns taken taken_now place rest line lines left_now ReadFault goes_on is_place
    answer =
    subst (λ (opening : Opening). IsBeforeGo opening.end left_now) goes_on
    (IsBeforeGo-le (opening_from (suc turns) taken rest).end left_now (line_due rest)
    (λ taken_after behind goes. opening_from-left (suc turns) taken taken_after rest behind goes)
    answer)
opening_fault whole turns taken taken_now place rest line lines left_now Memory goes_on is_place
    answer = absurd answer

-- a fault at the next line
pub HasOpened-fault : (whole : Opening) (before : DraftOf) (taken taken_now place : ℕ)
    (line : List ℕ) (left left_now : Option (List ℕ)) (fault : ScriptFault)
    → HasOpened whole before taken left
    → place ≡ taken
    → IfSome left (λ bytes.
    IsNextLine (next_line taken bytes) (line_due bytes) place line left_now (Err fault))
    → IsOpening whole taken_now left_now (Err fault)
HasOpened-fault whole before taken taken_now place line left left_now fault opened is_place answer =
    opening_fault whole opened.turns taken taken_now place opened.rest line opened.lines left_now
    fault opened.goes_on is_place (IfSome-known left opened.rest
    (λ bytes. IsNextLine (next_line taken bytes) (line_due bytes) place line left_now (Err fault))
    opened.is_left answer)

-- nothing was read of what a source has left
pub HasOpened-start : (left : Option (List ℕ)) (before : DraftOf) → before ≡ no_lines
    → IfSome left (λ bytes. HasOpened (opening bytes) before 0 left)
HasOpened-start None before is_nothing = tt
HasOpened-start (Some bytes) before is_nothing =
    subst (λ (before : DraftOf). HasOpened (opening bytes) before 0 (Some bytes))
    (sym is_nothing) (HasOpened-empty bytes)

-- the opening at its `go` line
opening_at-go : (more : List ℕ → Opening) (taken : ℕ) (bytes line rest : List ℕ)
    → is_go (words line) ≡ true
    → opening_at more taken bytes (Line line rest)
    ≡ record { lines = []; end = Go (taken + line_take bytes) rest }
opening_at-go more taken bytes line rest goes = rw goes refl

-- the `go` line ends the opening, and what it declares is what was read before
pub HasOpened-go : (whole : Opening) (before : DraftOf) (taken taken_now place : ℕ)
    (line : List ℕ) (there : Bool) (left left_now : Option (List ℕ))
    → HasOpened whole before taken left
    → there ≡ true
    → IfSome left (λ bytes.
    IsNextLine (next_line taken bytes) (line_due bytes) place line left_now (Ok there))
    → IfSome left (λ bytes. taken_now ≡ taken + line_take bytes)
    → is_go (words line) ≡ true
    → IsOpening whole taken_now left_now (Ok before)
HasOpened-go whole before taken taken_now place line there left left_now opened is_there answer
    counted goes =
    let answered = known_line taken place line left_now left opened.rest there
    opened.is_left is_there answer in
    let count = IfSome-known left opened.rest (λ bytes. taken_now ≡ taken + line_take bytes)
    opened.is_left counted in
    let more = opening_from opened.turns (taken + line_take opened.rest) in
    let ended : after_lines opened.lines (record {
      lines = [];
      end = Go (taken + line_take opened.rest) answered.0;
    }) ≡ whole =
    ap (λ (opening : Opening). after_lines opened.lines opening)
    (sym (opening_at-go more taken opened.rest line answered.0 goes))
    ∙ opening_next whole opened.lines opened.turns taken opened.rest (Line line answered.0)
    answered.1 opened.goes_on in (
      answered.0,
      opened.declares ∙ ap (λ (lines : List (List ℕ)). drafted lines)
          (sym (append-nil opened.lines) ∙ ap (λ (opening : Opening). opening.lines) ended),
      sym (ap (λ (opening : Opening). opening.end) ended)
          ∙ ap (λ (taken : ℕ). Go taken answered.0) (sym count),
      answered.2,
    )
