-- Answers of tests.
use Rattle.std.proofs.Common.{◌≡◌, Bool, true, false, refl}
use Rattle.std.specs.Prelude.{not, ◌&&◌, ◌||◌}

-- neither of two tests passes if not one of them does
pub not-or : (test other : Bool) → (not test && not other) ≡ not (test || other)
not-or true other = refl
not-or false other = refl
