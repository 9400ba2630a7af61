-- Which numbers of a feed were accepted.
use Rattle.std.specs.Prelude.{ℕ, ◌≡◌, ◌<◌, ◌^◌, ◌||◌, Bool, false, List, IsSome, nat_lt}
use Rattle.std.specs.Option.{unwrap_or}
use Rattle.std.specs.Map.{lookup}
use Rattle.std.specs.BTreeMap.{is_at}
use Rattle.std.specs.Ordering.{nat_cmp}

-- numbers that have a place, and whether they were accepted
abbrev pub Flags : Type 0
Flags = List (ℕ × Bool)

-- all numbers below the first that is missing were accepted, and some above it
pub record NumbersOf : Type 0 where
  pub missing : ℕ
  pub ahead : List (ℕ × Bool)

-- whether a number has a place and was accepted
abbrev pub flag_at : Flags → (number : ℕ) → Bool
flag_at ahead number = unwrap_or (lookup (is_at (nat_cmp number)) ahead) false

-- whether a number was accepted
abbrev pub is_accepted : NumbersOf → (number : ℕ) → Bool
is_accepted numbers number = nat_lt number numbers.missing || flag_at numbers.ahead number

-- a number has its place
abbrev pub HasPlace : Flags → (number : ℕ) → Type 0
HasPlace ahead number = IsSome (lookup (is_at (nat_cmp number)) ahead)

-- the first number that is missing was not accepted, if it is one that a delivery can have
abbrev pub IsLeastMissing : (missing : ℕ) → Flags → Type 0
IsLeastMissing missing ahead = missing < 2 ^ 32 → flag_at ahead missing ≡ false
