-- General facts on lists and results.
use Rattle.std.proofs.Common.{◌≡◌, ◌+◌, ◌<◌, ◌∷◌, zero, suc, List, Ok, length, arith}
use Rattle.std.specs.Prelude.{Result, slice_index_or}
use Rattle.std.specs.List.{AllAdjacentBelow}

-- a first element that goes before the next one
pub AllAdjacentBelow-cons : {X : Type 0} (R : X → X → Type 0) (x : X) (xs : List X)
    → ((d : X) → 0 < length xs → R x (slice_index_or xs 0 d))
    → AllAdjacentBelow R xs (length xs) → AllAdjacentBelow R (x ∷ xs) (length (x ∷ xs))
AllAdjacentBelow-cons R x xs first rest zero d within = first d (omega arith)
AllAdjacentBelow-cons R x xs first rest (suc k) d within =
    let next : suc k + 1 ≡ suc (k + 1) = omega arith in
    rw next (rest k d (omega arith))

-- what two equal answers hold is the same
pub same_Ok : {X E : Type 0} {x y : X} → ◌≡◌ {A = Result X E} (Ok x) (Ok y) → x ≡ y
same_Ok same = cc
