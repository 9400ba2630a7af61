-- What the next line, body and step of an input leave, and what is due of them.
use Rattle.std.proofs.Common.{◌≡◌, ℕ, suc, zero, ◌+◌, ◌-◌, ◌<◌, ◌≤◌, List, [], ◌∷◌, length, Bool}
use Rattle.std.proofs.Common.{true, false, refl, sym, ap, ◌∙◌, arith, nat_lt, nat_le, if◌then◌else◌}
use Rattle.std.proofs.Common.{length-drop, min, subst}
use Rattle.std.specs.Prelude.{IfSome, Option, Some, None, Result, Ok, drop, take}
use Rattle.std.specs.Io.BufRead.{first_line}
use Rattle.std.proofs.lemmas.Bool.{ltb-false}
use Rattle.depot_io.specs.Lines.{LIMIT, Takes, line_take, span}
use Rattle.depot_cli.specs.declared.run.status.InputEnd.TheVariants as why
use Rattle.desc_lines.specs.Words.{is_empty}
use Rattle.desc_types.specs.Descriptions.{DescOf}
use Rattle.depot_script.specs.declared.body.BodySize.{BodySize}
use Rattle.depot_script.specs.declared.body.BodySize.TheVariants as body
use Rattle.depot_script.specs.declared.fault.CommandFault.{CommandFault}
use Rattle.depot_script.specs.CommandValues.{CommandOf}
use Rattle.depot_script.specs.Commands.{body_size, line_command}
use Rattle.depot_cli.specs.declared.script.work.Work.{Work}
use Rattle.depot_cli.specs.Items.{is_end, work_of}
use Rattle.depot_cli.specs.Reading.{NextLine, NoLine, Unreadable, Line, next_line, NextBody}
use Rattle.depot_cli.specs.Reading.{Unfinished, Body, next_body, Ends, Ended, Does}
use Rattle.depot_cli.specs.Reading.{body_due, body_step, line_due, line_step, sized_step, step_of}
use Rattle.depot_cli.specs.ScriptCalls.{IsBodyUndone, IsLeftOf, IsNextLine}
use Rattle.depot_cli.proofs.KnownLemmas.{IfSome-known}

-- what there is to be read has a length
is_empty-false : (bytes : List ℕ) → is_empty bytes ≡ false → 0 < length bytes
is_empty-false [] none = cc
is_empty-false (byte ∷ bytes) some = omega arith

-- a line that is there was not the end, is not too wide, and leaves what it did not take
line_there : (long empty wide : Bool) (over line rest its_line its_rest : List ℕ)
    → (if long then Unreadable why.Long over else if empty then NoLine
    else if wide then Unreadable why.LongLine rest else Line line rest) ≡ Line its_line its_rest
    → (empty ≡ false) × (wide ≡ false) × (rest ≡ its_rest)
line_there true empty wide over line rest its_line its_rest there = cc
line_there false true wide over line rest its_line its_rest there = cc
line_there false false true over line rest its_line its_rest there = cc
line_there false false false over line rest its_line its_rest there = (refl, refl, cc)

-- a line leaves less than there was, and no more than is due of it
pub next_line-shorter : (taken : ℕ) (bytes line rest : List ℕ)
    → next_line taken bytes ≡ Line line rest
    → (length rest < length bytes) × (length rest ≤ line_due bytes)
next_line-shorter taken bytes line rest there =
    let parts = line_there (nat_le LIMIT (taken + line_take bytes)) (is_empty bytes)
    (nat_lt 4096 (span bytes)) (drop (LIMIT - taken) bytes) (first_line bytes)
    (drop (line_take bytes) bytes) line rest there in
    let some = is_empty-false bytes parts.0 in
    let narrow = ltb-false 4096 (span bytes) parts.1 in
    let left : length bytes - line_take bytes ≡ length rest =
    sym (length-drop (line_take bytes) bytes) ∙ ap length parts.2 in
    (omega arith, omega arith)

-- a body that is there leaves what it did not take
body_there : (long cut : Bool) (over body rest its_body its_rest : List ℕ)
    → (if long then Unfinished why.Long over
    else if cut then Unfinished why.Cut [] else Body body rest) ≡ Body its_body its_rest
    → rest ≡ its_rest
body_there true cut over body rest its_body its_rest there = cc
body_there false true over body rest its_body its_rest there = cc
body_there false false over body rest its_body its_rest there = cc

-- a body leaves what stands after it
next_body-left : (taken size : ℕ) (bytes body rest : List ℕ)
    → next_body taken size bytes ≡ Body body rest
    → length rest ≡ length bytes - size
next_body-left taken size bytes body rest there =
    let is_rest = body_there (nat_le LIMIT (taken + min size (length bytes)))
    (nat_lt (length bytes) size) (drop (LIMIT - taken) bytes) (take size bytes)
    (drop size bytes) body rest there in
    ap length (sym is_rest) ∙ length-drop size bytes

-- a body is due no later than its line, and not before what stands after it
body_due-within : (due size : ℕ) (bytes : List ℕ) → length bytes ≤ due
    → (length bytes - size ≤ body_due due size bytes) × (body_due due size bytes ≤ due)
body_due-within due zero bytes within = (omega arith, omega arith)
body_due-within due (suc size) bytes within = (omega arith, omega arith)

-- what a step leaves: fewer bytes than so many, and no more than are due of it; it is due no later
-- than this
pub record StepLeaves (many due its_due : ℕ) (rest : List ℕ) : Type 0 where
  pub fewer : length rest < many
  pub behind : length rest ≤ its_due
  pub within : its_due ≤ due

-- of two steps that are one the same is left and due
Does-same : (work its_work : Work) (due its_due taken its_taken : ℕ) (rest its_rest : List ℕ)
    → Does work due taken rest ≡ Does its_work its_due its_taken its_rest
    → (length its_rest ≡ length rest) × (its_due ≡ due)
Does-same work its_work due its_due taken its_taken rest its_rest same =
    let is_rest : its_rest ≡ rest = cc in
    (ap length is_rest, cc)

-- what is done at a body leaves what stands after it
body_step-left : (desc : DescOf) (base due taken size : ℕ) (command : Result CommandOf CommandFault)
    (bytes rest : List ℕ) (next : NextBody) (work : Work) (its_due taken_now : ℕ)
    → next_body taken size bytes ≡ next
    → body_step desc base due taken command size next ≡ Does work its_due taken_now rest
    → (length rest ≡ length bytes - size) × (its_due ≡ due)
body_step-left desc base due taken size command bytes rest (Unfinished cause left) work its_due
    taken_now is_next does = cc
body_step-left desc base due taken size command bytes rest (Body body behind) work its_due taken_now
    is_next does =
    let same = Does-same _ work due its_due _ taken_now behind rest does in
    (same.0 ∙ next_body-left taken size bytes body behind is_next, same.1)

-- what is done at a line without a body leaves what stands after it
bare_step-leaves : (ends : Bool) (its_work work : Work) (due its_due taken taken_now : ℕ)
    (bytes rest : List ℕ)
    → length bytes ≤ due
    → (if ends then Ends (Ended bytes) else Does its_work due taken bytes)
    ≡ Does work its_due taken_now rest
    → StepLeaves (length bytes + 1) due its_due rest
bare_step-leaves true its_work work due its_due taken taken_now bytes rest within does = cc
bare_step-leaves false its_work work due its_due taken taken_now bytes rest within does =
    let same = Does-same its_work work due its_due taken taken_now bytes rest does in
    record {
      fewer = omega arith;
      behind = omega arith;
      within = omega arith;
    }

-- what is done at a line of a known size leaves no more than stood after it, and is due no later
sized_step-leaves : (desc : DescOf) (base due taken : ℕ) (command : Result CommandOf CommandFault)
    (size : BodySize) (bytes rest : List ℕ) (work : Work) (its_due taken_now : ℕ)
    → length bytes ≤ due
    → sized_step desc base due taken command size bytes ≡ Does work its_due taken_now rest
    → StepLeaves (length bytes + 1) due its_due rest
sized_step-leaves desc base due taken command body.NoBody bytes rest work its_due taken_now within
    does = bare_step-leaves (is_end command) (work_of desc command []) work due its_due taken
    taken_now bytes rest within does
sized_step-leaves desc base due taken command (body.Body size) bytes rest work its_due taken_now
    within does =
    let left = body_step-left desc base (body_due due size bytes) taken size command bytes rest
    (next_body taken size bytes) work its_due taken_now refl does in
    let dues = body_due-within due size bytes within in
    record {
      fewer = omega arith;
      behind = omega arith;
      within = omega arith;
    }
sized_step-leaves desc base due taken command body.TooBig bytes rest work its_due taken_now within
    does = cc

-- what is done at a line leaves less than there was, and is due no later than the line
line_step-leaves : (desc : DescOf) (base taken : ℕ) (bytes rest : List ℕ) (next : NextLine)
    (work : Work) (due taken_now : ℕ)
    → next_line taken bytes ≡ next
    → line_step desc base taken bytes next ≡ Does work due taken_now rest
    → StepLeaves (length bytes) (line_due bytes) due rest
line_step-leaves desc base taken bytes rest NoLine work due taken_now is_next does = cc
line_step-leaves desc base taken bytes rest (Unreadable cause left) work due taken_now is_next
    does = cc
line_step-leaves desc base taken bytes rest (Line line behind) work due taken_now is_next does =
    let shorter = next_line-shorter taken bytes line behind is_next in
    let leaves = sized_step-leaves desc base (line_due bytes) (taken + line_take bytes)
    (line_command desc line) (body_size line) behind rest work due taken_now shorter.1 does in
    record {
      fewer = omega (arith, leaves.fewer);
      behind = leaves.behind;
      within = leaves.within;
    }

-- what is done leaves less than there was, and is due no later than its line
pub step_of-leaves : (desc : DescOf) (base taken : ℕ) (bytes rest : List ℕ) (work : Work)
    (due taken_now : ℕ)
    → step_of desc base taken bytes ≡ Does work due taken_now rest
    → StepLeaves (length bytes) (line_due bytes) due rest
step_of-leaves desc base taken bytes rest work due taken_now does =
    line_step-leaves desc base taken bytes rest (next_line taken bytes) work due taken_now refl
    does

-- fewer bytes are left too
pub IsLeftOf-le : (left : Option (List ℕ)) (count fewer : ℕ)
    → fewer ≤ count → IsLeftOf left count → IsLeftOf left fewer
IsLeftOf-le None count fewer at_most is_left = absurd is_left
IsLeftOf-le (Some bytes) count fewer at_most is_left = omega arith

-- where a reader took no more than stands before the LF of a line, the LF is left
pub line-untaken : (old new : Option (List ℕ)) (before after : ℕ)
    → before ≤ after
    → IfSome old (λ bytes. after ≤ before + min 4096 (span bytes))
    → Takes old new (after - before)
    → IfSome old (λ bytes. IsLeftOf new (line_due bytes))
line-untaken None new before after later within takes = tt
line-untaken (Some bytes) None before after later within takes = absurd takes
line-untaken (Some bytes) (Some rest) before after later within takes =
    let left : length rest ≡ length bytes - (after - before) =
    ap length takes.1 ∙ length-drop (after - before) bytes in
    omega arith

-- where a reader took less than a body, the last byte of the body is left
pub body-untaken : (old new : Option (List ℕ)) (before after size : ℕ)
    → before ≤ after → after < before + size
    → Takes old new (after - before)
    → IfSome old (λ bytes. IsBodyUndone size bytes new)
body-untaken None new before after size later within takes = tt
body-untaken (Some bytes) None before after size later within takes = absurd takes
body-untaken (Some bytes) (Some rest) before after size later within takes =
    let left : length rest ≡ length bytes - (after - before) =
    ap length takes.1 ∙ length-drop (after - before) bytes in
    (omega arith, omega arith)

-- the line that is known to be there
pub known_line : (taken place : ℕ) (line : List ℕ) (left_now left : Option (List ℕ)) (rest : List ℕ)
    (there : Bool)
    → left ≡ Some rest → there ≡ true
    → IfSome left (λ bytes.
    IsNextLine (next_line taken bytes) (line_due bytes) place line left_now (Ok there))
    → IsNextLine (next_line taken rest) (line_due rest) place line left_now (Ok true)
known_line taken place line left_now left rest there is_left is_there answer =
    let P : Bool → Type 0 = λ there.
    IsNextLine (next_line taken rest) (line_due rest) place line left_now (Ok there) in
    subst P is_there (IfSome-known left rest
    (λ bytes. IsNextLine (next_line taken bytes) (line_due bytes) place line left_now (Ok there))
    is_left answer)
