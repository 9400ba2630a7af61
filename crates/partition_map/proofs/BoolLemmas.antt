-- Answers of tests.
use Rattle.std.proofs.Common.{◌≡◌, Bool, true, false, refl}
use Rattle.std.proofs.lemmas.Bool.Decides.{same_from_decides}

-- two answers are one if each gives the other
pub same-answer : (answer other : Bool) → (answer ≡ true → other ≡ true)
    → (other ≡ true → answer ≡ true) → answer ≡ other
same-answer answer other forth back =
    same_from_decides {P = other ≡ true} answer other (forth, back) (λ yes. yes, λ yes. yes)

-- an answer that is never true is false
pub not-true : (answer : Bool) → (answer ≡ true → ⊥) → answer ≡ false
not-true true never = absurd (never refl)
not-true false never = refl
