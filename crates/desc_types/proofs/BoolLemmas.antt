-- General facts on tests.
use Rattle.std.proofs.Common.{◌≡◌, Bool, true, false, not, refl}
use Rattle.std.specs.Prelude.{◌||◌, ◌&&◌}

-- a test, or none, is the test
pub or-false : (test : Bool) → (test || false) ≡ test
or-false true = refl
or-false false = refl

-- a test that fails, of two of which one holds, fails for both
pub or-none : (left right : Bool) → (left || right) ≡ false → (left ≡ false) × (right ≡ false)
or-none true right none = absurd cc
or-none false right none = (refl, none)

-- two tests that both hold
pub and-both : (left right : Bool) → (left && right) ≡ true → (left ≡ true) × (right ≡ true)
and-both true right both = (refl, both)
and-both false right both = absurd cc

-- a test whose opposite fails
pub not-false : (test : Bool) → not test ≡ false → test ≡ true
not-false true none = refl
not-false false none = absurd cc

-- a test whose opposite holds
pub not-true : (test : Bool) → not test ≡ true → test ≡ false
not-true true holds = absurd cc
not-true false holds = refl
