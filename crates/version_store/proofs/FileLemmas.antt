-- What a file begins with is what is read of it. Over the content of one file.
use Rattle.std.proofs.Common.{◌≡◌, ℕ, ◌≤◌, List, length, ap, arith, Ok}
use Rattle.std.proofs.lemmas.Grind.{common_steps}
use Rattle.std.proofs.lemmas.Bool.Decides.{nat_tests}
use Rattle.std.specs.Prelude.{None, Some, IsSomeAnd}
use Rattle.std.specs.declared.option.Option.{Option}
use Rattle.std.proofs.lemmas.List.{length-take}
use Rattle.version_store.specs.Files.{Begins}
use Rattle.version_store.specs.Reading.{front_in}

-- what a file begins with is read at its length
pub front_in-again : (content : Option (List ℕ)) (bytes : List ℕ)
    → IsSomeAnd content (λ whole. Begins whole bytes) → front_in content (length bytes) ≡ Ok bytes
front_in-again None bytes begins = absurd begins
front_in-again (Some whole) bytes begins =
    let fits : length bytes ≤ length whole =
    omega (arith, ap length begins, length-take (length bytes) whole) in
    grind (arith, common_steps, nat_tests, fits, begins)

-- and nothing else is
pub front_in-alone : (content : Option (List ℕ)) (len : ℕ) (bytes : List ℕ)
    → front_in content len ≡ Ok bytes
    → IsSomeAnd content (λ whole. Begins whole bytes) × (length bytes ≡ len)
front_in-alone None len bytes read = grind (arith, common_steps, read)
front_in-alone (Some whole) len bytes read =
    grind (arith, common_steps, nat_tests, length-take, read)
