-- What is due of the items of a session: no more than is left of it, and of those to come no more
-- than of the next one.
use Rattle.std.proofs.Common.{◌≡◌, ℕ, suc, zero, ◌≤◌, List, length, refl, arith}
use Rattle.std.specs.Prelude.{Option, All}
use Rattle.std.proofs.lemmas.List.Elements.{All-cons, All-nil, All-weaker}
use Rattle.desc_types.specs.Descriptions.{DescOf}
use Rattle.depot_cli.specs.Reading.{Session, Step, Ends, Does, session_at, session_from, step_of}
use Rattle.depot_cli.specs.ScriptCalls.{IsLeftOf, IsUndone}
use Rattle.depot_cli.proofs.LineLemmas.{IsLeftOf-le, step_of-leaves}

-- no more is due than is left, if a session goes on so
session_at-dues : (desc : DescOf) (base taken : ℕ) (more : ℕ → List ℕ → Session) (bytes : List ℕ)
    (step : Step)
    → ((taken : ℕ) (rest : List ℕ) → All (λ (due : ℕ). due ≤ length rest) (more taken rest).dues)
    → step_of desc base taken bytes ≡ step
    → All (λ (due : ℕ). due ≤ length bytes) (session_at more step).dues
session_at-dues desc base taken more bytes (Ends end) later is_step =
    All-nil (λ (due : ℕ). due ≤ length bytes)
session_at-dues desc base taken more bytes (Does work due taken_now rest) later is_step =
    let leaves = step_of-leaves desc base taken bytes rest work due taken_now is_step in
    All-cons (λ (due : ℕ). due ≤ length bytes) due (more taken_now rest).dues (omega arith)
    (All-weaker (λ (due : ℕ). due ≤ length rest) (λ (due : ℕ). due ≤ length bytes)
    (λ due fewer. omega arith) (more taken_now rest).dues (later taken_now rest))

-- no more is due than is left, in so many turns
session_from-dues : (desc : DescOf) (base turns taken : ℕ) (bytes : List ℕ)
    → All (λ (due : ℕ). due ≤ length bytes) (session_from desc base turns taken bytes).dues
session_from-dues desc base zero taken bytes = All-nil (λ (due : ℕ). due ≤ length bytes)
session_from-dues desc base (suc turns) taken bytes =
    session_at-dues desc base taken (session_from desc base turns) bytes
    (step_of desc base taken bytes) (session_from-dues desc base turns) refl

-- so much is left as is due, if that is left which no due goes beyond
All-left : (left : Option (List ℕ)) (count : ℕ) (dues : List ℕ)
    → IsLeftOf left count → All (λ (due : ℕ). due ≤ count) dues
    → All (λ (due : ℕ). IsLeftOf left due) dues
All-left left count dues is_left within =
    All-weaker (λ (due : ℕ). due ≤ count) (λ (due : ℕ). IsLeftOf left due)
    (λ due fewer. IsLeftOf-le left count due fewer is_left) dues within

-- where a step is not done, neither it nor one after it was taken to its last byte
pub All-undone : (desc : DescOf) (base turns taken : ℕ) (bytes : List ℕ) (step : Step)
    (left : Option (List ℕ))
    → step_of desc base taken bytes ≡ step
    → IsUndone step left
    → All (λ (due : ℕ). IsLeftOf left due) (session_at (session_from desc base turns) step).dues
All-undone desc base turns taken bytes (Ends end) left is_step undone =
    All-nil (λ (due : ℕ). IsLeftOf left due)
All-undone desc base turns taken bytes (Does work due taken_now rest) left is_step undone =
    let leaves = step_of-leaves desc base taken bytes rest work due taken_now is_step in
    All-cons (λ (due : ℕ). IsLeftOf left due) due
    (session_from desc base turns taken_now rest).dues undone
    (All-left left (length rest) (session_from desc base turns taken_now rest).dues
    (IsLeftOf-le left due (length rest) leaves.behind undone)
    (session_from-dues desc base turns taken_now rest))

-- where all of a session is left, so is the last byte of each of its items
pub All-untaken : (desc : DescOf) (base turns taken : ℕ) (bytes : List ℕ) (left : Option (List ℕ))
    → IsLeftOf left (length bytes)
    → All (λ (due : ℕ). IsLeftOf left due) (session_from desc base turns taken bytes).dues
All-untaken desc base turns taken bytes left is_left =
    All-left left (length bytes) (session_from desc base turns taken bytes).dues is_left
    (session_from-dues desc base turns taken bytes)
