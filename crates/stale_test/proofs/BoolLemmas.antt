-- Answers of tests.
use Rattle.std.proofs.Common.{◌≡◌, Bool, true, false, refl, sym}
use Rattle.std.specs.Prelude.{◌&&◌, ◌||◌}
use Rattle.std.proofs.lemmas.Bool.{false≢true}

-- what was so, or is so for one of two reasons beside a condition
pub or-or_and : (was first second also : Bool)
    → ((was || (first && also)) || (second && also)) ≡ (was || ((first || second) && also))
or-or_and true first second also = refl
or-or_and false true second true = refl
or-or_and false true true false = refl
or-or_and false true false false = refl
or-or_and false false second also = refl

-- a condition that the first of two reasons has by itself may be asked of both
pub or-and : (first second also : Bool) → (also ≡ false → first ≡ false)
    → (first || (second && also)) ≡ ((first || second) && also)
or-and true second true never = refl
or-and true second false never = absurd (false≢true (sym (never refl)))
or-and false second also never = refl

-- two conditions are the same in either order
pub and-swap : (first second : Bool) → (first && second) ≡ (second && first)
and-swap true true = refl
and-swap true false = refl
and-swap false true = refl
and-swap false false = refl
