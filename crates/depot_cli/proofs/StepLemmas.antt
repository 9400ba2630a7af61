-- What the answer at a line or at a body says of the step that it belongs to.
use Rattle.std.proofs.Common.{◌≡◌, ℕ, suc, zero, ◌+◌, ◌-◌, ◌≤◌, List, length, Bool, true}
use Rattle.std.proofs.Common.{refl, sym}
use Rattle.std.proofs.Common.{ap, ◌∙◌, arith, subst}
use Rattle.std.specs.Prelude.{IfSome, Option, Some, None, Result, Ok, Err}
use Rattle.std.proofs.lemmas.Option.{IfSome_then}
use Rattle.depot_io.specs.Lines.{line_take}
use Rattle.desc_types.specs.Descriptions.{DescOf}
use Rattle.depot_script.specs.declared.body.BodySize.{BodySize}
use Rattle.depot_script.specs.declared.body.BodySize.TheVariants as body
use Rattle.depot_script.specs.declared.fault.CommandFault.{CommandFault}
use Rattle.depot_script.specs.CommandValues.{CommandOf}
use Rattle.depot_script.specs.Commands.{body_size, line_command}
use Rattle.depot_cli.specs.declared.script.ScriptFault.{ScriptFault}
use Rattle.depot_cli.specs.declared.script.ScriptFault.TheVariants.{Input, ReadFault, Memory}
use Rattle.depot_cli.specs.declared.run.status.InputEnd.TheVariants as why
use Rattle.depot_cli.specs.declared.script.work.Work.{Work}
use Rattle.depot_cli.specs.Reading.{NextLine, Line, next_line, NextBody, Unfinished, Body}
use Rattle.depot_cli.specs.Reading.{next_body, Step, Ends, Does, Stopped, body_due}
use Rattle.depot_cli.specs.Reading.{body_step, line_due, line_step, sized_step, step_of}
use Rattle.depot_cli.specs.ScriptCalls.{IsBodyUndone, IsLeftOf, IsNextBody, IsNextLine}
use Rattle.depot_cli.specs.ScriptCalls.{IsStep, IsUndone}
use Rattle.depot_cli.proofs.KnownLemmas.{IfSome-known}
use Rattle.depot_cli.proofs.LineLemmas.{IsLeftOf-le, known_line, step_of-leaves}

-- a step is not done where so much is left at least as is due of it
IsUndone-le : (step : Step) (left : Option (List ℕ)) (count : ℕ)
    → ((work : Work) (due taken : ℕ) (rest : List ℕ) → step ≡ Does work due taken rest
    → due ≤ count)
    → IsLeftOf left count → IsUndone step left
IsUndone-le (Ends end) left count least is_left = tt
IsUndone-le (Does work due taken rest) left count least is_left =
    IsLeftOf-le left count due (least work due taken rest refl) is_left

-- a step is not done where the LF of its line is left
IsUndone-line : (desc : DescOf) (base taken : ℕ) (bytes : List ℕ) (left : Option (List ℕ))
    → IsLeftOf left (line_due bytes) → IsUndone (step_of desc base taken bytes) left
IsUndone-line desc base taken bytes left is_left =
    IsUndone-le (step_of desc base taken bytes) left (line_due bytes)
    (λ work due taken_next rest does.
    (step_of-leaves desc base taken bytes rest work due taken_next does).within)
    is_left

-- a fault at a line that is to be read is one at its step
IsStep-at_line : (desc : DescOf) (base taken taken_now : ℕ) (bytes line : List ℕ)
    (left : Option (List ℕ)) (fault : ScriptFault)
    → IsNextLine (next_line taken bytes) (line_due bytes) (base + taken) line left (Err fault)
    → IsStep (step_of desc base taken bytes) taken_now left (Err fault)
IsStep-at_line desc base taken taken_now bytes line left (Input why place) answer = (
  answer.0,
  ap (λ (next : NextLine). line_step desc base taken bytes next) answer.1
      ∙ ap (λ (place : ℕ). Ends (Stopped why place answer.0)) (sym answer.3),
  answer.2,
)
IsStep-at_line desc base taken taken_now bytes line left ReadFault answer =
    IsUndone-line desc base taken bytes left answer
IsStep-at_line desc base taken taken_now bytes line left Memory answer = absurd answer

-- a fault at a line is one at its step
pub IsStep-line_fault : (desc : DescOf) (base taken taken_now : ℕ) (line : List ℕ)
    (left left_now : Option (List ℕ)) (fault : ScriptFault)
    → IfSome left (λ bytes.
    IsNextLine (next_line taken bytes) (line_due bytes) (base + taken) line left_now (Err fault))
    → IfSome left (λ bytes. IsStep (step_of desc base taken bytes) taken_now left_now (Err fault))
IsStep-line_fault desc base taken taken_now line left left_now fault answer =
    IfSome_then left answer (λ bytes answer.
    IsStep-at_line desc base taken taken_now bytes line left_now fault answer)

-- what was read of a line: what it asks for, and how long the body after it is
pub record IsRead (desc : DescOf) (line : List ℕ) (command : Result CommandOf CommandFault)
    (size : BodySize) : Type 0 where
  pub is_command : line_command desc line ≡ command
  pub is_size : body_size line ≡ size

-- the step at a line that is there
step_of-line : (desc : DescOf) (base taken taken_after : ℕ) (bytes line rest : List ℕ)
    (command : Result CommandOf CommandFault) (size : BodySize)
    → next_line taken bytes ≡ Line line rest
    → taken_after ≡ taken + line_take bytes
    → IsRead desc line command size
    → step_of desc base taken bytes
    ≡ sized_step desc base (line_due bytes) taken_after command size rest
step_of-line desc base taken taken_after bytes line rest command size there count read =
    let due = line_due bytes in
    ap (λ (next : NextLine). line_step desc base taken bytes next) there
    ∙ ap (λ (command : Result CommandOf CommandFault).
    sized_step desc base due (taken + line_take bytes) command (body_size line) rest)
    read.is_command
    ∙ ap (λ (size : BodySize).
    sized_step desc base due (taken + line_take bytes) command size rest) read.is_size
    ∙ ap (λ (taken : ℕ). sized_step desc base due taken command size rest) (sym count)

-- where the last byte of a body is left, so much is left as is due of it
IsLeftOf-body : (due size : ℕ) (bytes : List ℕ) (left : Option (List ℕ))
    → IsBodyUndone size bytes left → IsLeftOf left (body_due due size bytes)
IsLeftOf-body due zero bytes left undone = absurd (omega (arith, undone.0))
IsLeftOf-body due (suc size) bytes left undone =
    IsLeftOf-le left (length bytes - (suc size - 1)) (length bytes - size) (omega arith) undone.1

-- what stands at a body is not done where so much is left as is due of it
body_step-undone : (desc : DescOf) (base due taken size : ℕ) (command : Result CommandOf CommandFault)
    (next : NextBody) (left : Option (List ℕ))
    → IsLeftOf left due → IsUndone (body_step desc base due taken command size next) left
body_step-undone desc base due taken size command (Unfinished cause rest) left is_left = tt
body_step-undone desc base due taken size command (Body body rest) left is_left = is_left

-- a fault at a body is one at the step that stands there
IsStep-at_body : (desc : DescOf) (base due taken taken_now size : ℕ)
    (command : Result CommandOf CommandFault) (bytes body_ : List ℕ) (left : Option (List ℕ))
    (fault : ScriptFault)
    → IsNextBody (next_body taken size bytes) size (base + taken) bytes body_ left (Err fault)
    → IsStep (sized_step desc base due taken command (body.Body size) bytes) taken_now left
    (Err fault)
IsStep-at_body desc base due taken taken_now size command bytes body_ left (Input why place)
    answer = (
      answer.0,
      ap (λ (next : NextBody).
          body_step desc base (body_due due size bytes) taken command size next) answer.1
          ∙ ap (λ (place : ℕ). Ends (Stopped why place answer.0)) (sym answer.3),
      answer.2,
    )
IsStep-at_body desc base due taken taken_now size command bytes body_ left ReadFault answer =
    body_step-undone desc base (body_due due size bytes) taken size command
    (next_body taken size bytes) left (IsLeftOf-body due size bytes left answer)
IsStep-at_body desc base due taken taken_now size command bytes body_ left Memory answer = tt

-- what the answer after a line says of the step at the line
pub IsStep-after : (desc : DescOf) (base taken taken_after taken_now place : ℕ)
    (command : Result CommandOf CommandFault) (size : BodySize)
    (line : List ℕ) (there : Bool) (left behind left_now : Option (List ℕ))
    (result : Result (Option Work) ScriptFault)
    → there ≡ true
    → IsRead desc line command size
    → IfSome left (λ bytes.
    IsNextLine (next_line taken bytes) (line_due bytes) place line behind (Ok there))
    → IfSome left (λ bytes. taken_after ≡ taken + line_take bytes)
    → IfSome behind (λ rest. (due : ℕ)
    → IsStep (sized_step desc base due taken_after command size rest) taken_now left_now result)
    → IfSome left (λ bytes. IsStep (step_of desc base taken bytes) taken_now left_now result)
IsStep-after desc base taken taken_after taken_now place command size line there None behind
    left_now result is_there read stood counted answer = tt
IsStep-after desc base taken taken_after taken_now place command size line there (Some bytes) behind
    left_now result is_there read stood counted answer =
    let line_read = known_line taken place line behind (Some bytes) bytes there refl is_there
    stood in
    subst (λ (step : Step). IsStep step taken_now left_now result)
    (sym (step_of-line desc base taken taken_after bytes line line_read.0 command size line_read.1
    counted read))
    (IfSome-known behind line_read.0
    (λ rest. (due : ℕ)
    → IsStep (sized_step desc base due taken_after command size rest) taken_now left_now result)
    line_read.2 answer (line_due bytes))

-- a line whose body is too big stops the session
pub IsStep-big : (desc : DescOf) (base taken place : ℕ) (command : Result CommandOf CommandFault)
    (behind : Option (List ℕ))
    → place ≡ base + taken
    → IfSome behind (λ rest. (due : ℕ)
    → IsStep (sized_step desc base due taken command body.TooBig rest) taken behind
    (Err (Input why.Big place)))
IsStep-big desc base taken place command None is_place = tt
IsStep-big desc base taken place command (Some rest) is_place =
    λ due. (rest, ap (λ (place : ℕ). Ends (Stopped why.Big place rest)) (sym is_place), refl)

-- a fault at the body after a line is one at its step
pub IsStep-body_fault : (desc : DescOf) (base taken taken_now size : ℕ)
    (command : Result CommandOf CommandFault) (body_ : List ℕ)
    (behind left_now : Option (List ℕ)) (fault : ScriptFault)
    → IfSome behind (λ bytes. IsNextBody (next_body taken size bytes) size (base + taken) bytes body_
    left_now (Err fault))
    → IfSome behind (λ rest. (due : ℕ)
    → IsStep (sized_step desc base due taken command (body.Body size) rest) taken_now left_now
    (Err fault))
IsStep-body_fault desc base taken taken_now size command body_ behind left_now fault answer =
    IfSome_then behind answer (λ rest answer due.
    IsStep-at_body desc base due taken taken_now size command rest body_ left_now fault answer)
